-- A fresh manager has room in its words (words, Laws: Held), so that its words stand for it; and what refusals 2 and 3 look for in the
-- settings' octets (document 01, Refusals) is what they look for in the routes of these words. Assumes nothing.
use Rattle.std.specs.Prelude.{◌≡◌, refl, Bool, ◌||◌, List, ℕ, zero, suc, ◌+◌, ◌≤◌, ◌<◌, get_or, replicate}
use Rattle.std.proofs.Common.{sym, ◌∙◌, subst, arith}
use Rattle.std.proofs.Math.Path.{ap}
use Rattle.std.proofs.Math.Bool.{not, and-true}
use Rattle.std.proofs.Math.Dec.{ltb}
use Rattle.std.proofs.lemmas.List.{length-replicate, get_or-replicate}
use Rattle.refusals.specs.Below.{below_same}
use Rattle.octets.specs.Number.{num, octets_at, Octets, octets_at_length, octets_at_octets}
use Rattle.state.specs.Manager.{Manager}
use Rattle.state.specs.Manager.{no_release, no_route}
use Rattle.state.specs.Bounds.{route_right, right_at, routes_right, distinct}
use Rattle.words.specs.Words.{manager_in, words_of}
use Rattle.words.specs.Laws.{HeldRelease, HeldRoute, Held, held_route, manager_words}
use Rattle.settings.specs.Settings.{routes_in, route_start, route_from, unused_route, routes_from, set_times_from, manager_with, manager_from, in_range_at, in_range, beyond_range}
use Rattle.settings.specs.Cases.{sets_length}
use Rattle.settings.specs.Accepted.{route_from_lem}

module _ (xs : List ℕ) (o : Octets xs) where
  none_held : HeldRelease no_release
  none_held = record { release = omega arith; extension = omega arith; version = omega arith }

  unused_held : HeldRoute unused_route
  unused_held =
      record {
        filter = (refl, record { at = λ i. zeros 20 i });
        release = none_held;
        opened = omega arith;
        high = none_held;
        low = none_held;
      }
    where
      zeros : (n i : ℕ) → get_or (replicate n 0) i 0 < 256
      zeros zero i = omega arith
      zeros (suc n) zero = omega arith
      zeros (suc n) (suc i) = zeros n i

  route_held : (k : ℕ) → HeldRoute (route_from xs k)
  route_held k =
      record {
        filter = (octets_at_length 20 xs (k + 2), octets_at_octets 20 (k + 2) o);
        release = record { release = omega (arith, o.at (k + 35)); extension = o.at (k + 36); version = omega (arith, o.at (k + 35)) };
        opened = omega arith;
        high = none_held;
        low = none_held;
      }

  routes_held : (n count k : ℕ) → Held (record { routes = routes_from xs n; count = count; address = octets_at 16 xs 1; bias = num 2 xs 17; last = 0; unrouted = 0; set_times = set_times_from xs k })
  routes_held zero count k =
      record {
        eight = length-replicate 8 unused_route;
        routes = λ i h. subst HeldRoute (sym (get_or-replicate 8 i unused_route no_route h)) unused_held;
        address = (octets_at_length 16 xs 1, octets_at_octets 16 1 o);
        sets = sets_length xs k;
      }
  routes_held (suc n) count k = held_route (routes_held n count k) n (route_from xs (route_start n)) (λ low. route_held (route_start n))

  pub fresh_held : (n k : ℕ) → Held (manager_with xs n k)
  fresh_held n k = routes_held n n k

-- Its routes are closed and their settings are those of the octets, so they are right where these are in range.
range_is : (xs : List ℕ) (n : ℕ) → n ≤ 8 → routes_right (manager_with xs n 0) n ≡ in_range xs n
range_is xs n few =
    below_same (right_at (manager_with xs n 0)) (in_range_at xs) n (λ i h. ap (route_right 0) (route_from_lem xs n i h few) ∙ and-true (in_range_at xs i))

-- What is told of its words, whose routes are as many as the octets have.
abbrev pub out_of_range : Manager → ℕ → Bool
out_of_range m n = ltb 2878 m.bias || not (routes_right m n)

module _ (xs : List ℕ) (o : Octets xs) (few : routes_in xs ≤ 8) {words : List ℕ} (e : words ≡ words_of (manager_with xs (routes_in xs) 0)) where
  manager_is : manager_in words ≡ manager_with xs (routes_in xs) 0
  manager_is = ap manager_in e ∙ manager_words (manager_with xs (routes_in xs) 0) (fresh_held xs o (routes_in xs) 0)

  pub words_range : out_of_range (manager_in words) (routes_in xs) ≡ beyond_range xs
  unfolding beyond_range
  words_range =
      ap (λ (m : Manager). out_of_range m (routes_in xs)) manager_is ∙ ap (λ (b : Bool). ltb 2878 (num 2 xs 17) || not b) (range_is xs (routes_in xs) few)

  pub words_distinct : distinct (manager_in words) (routes_in xs) ≡ distinct (manager_from xs (routes_in xs)) (routes_in xs)
  words_distinct = ap (λ (m : Manager). distinct m (routes_in xs)) manager_is
