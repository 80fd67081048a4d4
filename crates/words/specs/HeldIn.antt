-- Any 360 words of 32 bits are those of a state that has room in its words (Laws, `Held`). Assumes nothing.
use Rattle.std.specs.Prelude.{◌≡◌, refl, Bool, true, false, cond, List, ℕ, ◌+◌, ◌-◌, ◌*◌, ◌<◌, leb, length, get_or, drop}
use Rattle.std.proofs.Common.{sym, subst, arith, length-drop, get_or-drop, leb-false}
use Rattle.octets.specs.Number.{Octets, octets_nil, octets_cons}
use Rattle.words.specs.Words.{octets_in, release_in, rest_of, route_in, manager_in}
use Rattle.words.specs.Laws.{HeldRelease, HeldRoute, Held, routes_eight, route_in_lem}

-- every word is one of 32 bits (past the end the default 0 stands, which is one)
pub record Words32 (xs : List ℕ) : Type 0 where
  pub at : (i : ℕ) → get_or xs i 0 < 4294967296

octets_in_lem : (w : ℕ) {rest : List ℕ} → w < 4294967296 → Octets rest → Octets (octets_in w rest)
octets_in_lem w h o = octets_cons (omega arith) (octets_cons (omega arith) (octets_cons (omega arith) (octets_cons (omega arith) o)))

held_release : (w : ℕ) → HeldRelease (release_in w)
held_release w = record { release = omega arith; extension = omega arith; version = omega arith }

rest_low : (w : ℕ) → w < 4294967296 → rest_of w < 2147483648
rest_low w h = go (leb 2147483648 w) refl
  where
    go : (b : Bool) → leb 2147483648 w ≡ b → cond b (w - 2147483648) w < 2147483648
    go true e = omega arith
    go false e = omega (arith, leb-false 2147483648 w e)

held_route : (xs : List ℕ) → Words32 xs → HeldRoute (route_in xs)
unfolding route_in
held_route xs w =
    record {
      filter = (refl, octets_in_lem (get_or xs 0 0) (w.at 0) (octets_in_lem (get_or xs 1 0) (w.at 1) (octets_in_lem (get_or xs 2 0) (w.at 2) (octets_in_lem (get_or xs 3 0) (w.at 3) (octets_in_lem (get_or xs 4 0) (w.at 4) octets_nil)))));
      release = held_release (get_or xs 5 0);
      opened = rest_low (get_or xs 13 0) (w.at 13);
      high = held_release (get_or xs 15 0);
      low = held_release (get_or xs 16 0);
    }

drop_words : {xs : List ℕ} (n : ℕ) → Words32 xs → Words32 (drop n xs)
drop_words {xs} n w = record { at = λ i. omega (arith, get_or-drop n xs i 0, w.at (n + i)) }

pub held_in : (xs : List ℕ) → length xs ≡ 360 → Words32 xs → Held (manager_in xs)
unfolding manager_in
held_in xs number w =
    record {
      eight = routes_eight xs;
      routes = λ i h. subst HeldRoute (sym (route_in_lem xs i h)) (held_route (drop (8 + 19 * i) xs) (drop_words (8 + 19 * i) w));
      address = (refl, octets_in_lem (get_or xs 0 0) (w.at 0) (octets_in_lem (get_or xs 1 0) (w.at 1) (octets_in_lem (get_or xs 2 0) (w.at 2) (octets_in_lem (get_or xs 3 0) (w.at 3) octets_nil))));
      sets = omega (arith, length-drop 160 xs);
    }
