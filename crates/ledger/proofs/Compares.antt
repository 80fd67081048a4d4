-- The octets of filters that are compared with a key (document 02, ask 7): the ledger's steps (Ledger, `compared_of`) are as many as the
-- manager's definition counts (state, Compared). Assumes nothing.
use Rattle.std.specs.Prelude.{◌≡◌, refl, Bool, true, false, cond, ◌&&◌, ℕ, zero, suc, ◌+◌, ◌≤◌, ◌<◌, eqb, length, get_or, take}
use Rattle.std.proofs.Common.{sym, ◌∙◌, arith, take_all, lt-ltb, le-ltb, le-leb}
use Rattle.std.proofs.Math.Path.{ap}
use mathlib.Core.List.{List, [], ◌∷◌}
use Rattle.std.proofs.Math.Decide.{dec_lt}
use Rattle.std.proofs.lemmas.Bool.{lt-leb}
use Rattle.refusals.specs.Below.{all_below, leading}
use Rattle.octets.specs.Alike.{same_at}
use Rattle.state.specs.declared.RouteSettings.{RouteSettings}
use Rattle.state.specs.Manager.{Manager}
use Rattle.state.specs.Manager.{settings_at}
use Rattle.state.specs.Compared.{up_to_differing, compared_with, compared_among, compared_for}
use Rattle.events.specs.declared.Arrival.{Arrival}
use Rattle.events.specs.Rules.{compared_to}
use Rattle.ledger.specs.Ledger.{Line, Ledger, no_line, line_at, steps_to, compared_on, compared_lines}
use Rattle.ledger.proofs.Agrees.{Agrees}
use Rattle.ledger.proofs.Regions.{settings_bounds}

-- An octet more before the others: the same in both, or not.
module _ (x y : ℕ) (xs ys : List ℕ) where
  all_first : (n : ℕ) → all_below (same_at (x ∷ xs) (y ∷ ys)) (suc n) ≡ (eqb x y && all_below (same_at xs ys) n)
  all_first zero = go (eqb x y)
    where
      go : (b : Bool) → (true && b) ≡ (b && true)
      go true = refl
      go false = refl
  all_first (suc n) = ap (λ (b : Bool). b && same_at xs ys n) (all_first n) ∙ go (eqb x y) (all_below (same_at xs ys) n) (same_at xs ys n)
    where
      go : (a b c : Bool) → ((a && b) && c) ≡ (a && (b && c))
      go true b c = refl
      go false b c = refl

  lead_same : eqb x y ≡ true → (n : ℕ) → leading (same_at (x ∷ xs) (y ∷ ys)) (suc n) ≡ suc (leading (same_at xs ys) n)
  lead_same e zero = ap (λ (b : Bool). cond b 1 0) (all_first 0 ∙ ap (λ (b : Bool). b && true) e)
  lead_same e (suc n) =
      (λ j. cond ((all_first (suc n) ∙ ap (λ (b : Bool). b && all_below (same_at xs ys) (suc n)) e) j) (suc (suc n)) (lead_same e n j))
      ∙ go (all_below (same_at xs ys) (suc n))
    where
      go : (b : Bool) → cond b (suc (suc n)) (suc (leading (same_at xs ys) n)) ≡ suc (cond b (suc n) (leading (same_at xs ys) n))
      go true = refl
      go false = refl

  lead_none : eqb x y ≡ false → (n : ℕ) → leading (same_at (x ∷ xs) (y ∷ ys)) n ≡ 0
  lead_none e zero = refl
  lead_none e (suc n) = λ j. cond ((all_first n ∙ ap (λ (b : Bool). b && all_below (same_at xs ys) n) e) j) (suc n) (lead_none e n j)

up_to_suc : (same n : ℕ) → up_to_differing (suc same) (suc n) ≡ suc (up_to_differing same n)
up_to_suc same n = go (dec_lt same n)
  where
    go : Dec (same < n) → up_to_differing (suc same) (suc n) ≡ suc (up_to_differing same n)
    go (yes h) =
        let e : suc same + 1 ≡ suc (same + 1) = omega arith in
        (λ j. cond (lt-ltb (suc same) (suc n) (omega arith) j) (suc same + 1) (suc n)) ∙ e ∙ sym (ap (λ (b : Bool). suc (cond b (same + 1) n)) (lt-ltb same n h))
    go (no h) = (λ j. cond (le-ltb (suc same) (suc n) (omega arith) j) (suc same + 1) (suc n)) ∙ sym (ap (λ (b : Bool). suc (cond b (same + 1) n)) (le-ltb same n (omega arith)))

-- The steps through n octets of a filter that the key is not shorter than.
steps_are : (n : ℕ) (xs ys : List ℕ) → n ≤ length xs → n ≤ length ys → up_to_differing (leading (same_at xs ys) n) n ≡ steps_to (take n xs) ys
steps_are zero xs ys h l = refl
steps_are (suc n) [] ys h l = absurd (omega arith)
steps_are (suc n) (x ∷ xs) [] h l = absurd (omega arith)
steps_are (suc n) (x ∷ xs) (y ∷ ys) h l = go (eqb x y) refl (steps_are n xs ys (omega arith) (omega arith))
  where
    go : (b : Bool) → eqb x y ≡ b → up_to_differing (leading (same_at xs ys) n) n ≡ steps_to (take n xs) ys
        → up_to_differing (leading (same_at (x ∷ xs) (y ∷ ys)) (suc n)) (suc n) ≡ cond (eqb x y) (suc (steps_to (take n xs) ys)) 1
    go true e rest =
        ap (λ (k : ℕ). up_to_differing k (suc n)) (lead_same x y xs ys e n)
        ∙ up_to_suc (leading (same_at xs ys) n) n
        ∙ ap suc rest
        ∙ sym (ap (λ (b : Bool). cond b (suc (steps_to (take n xs) ys)) 1) e)
    go false e rest =
        ap (λ (k : ℕ). up_to_differing k (suc n)) (lead_none x y xs ys e (suc n))
        ∙ ap (λ (b : Bool). cond b 1 (suc n)) (lt-ltb 0 (suc n) (omega arith))
        ∙ sym (ap (λ (b : Bool). cond b (suc (steps_to (take n xs) ys)) 1) e)

-- A filter's.
compared_is : (s : RouteSettings) (key : List ℕ) → s.octets ≤ length s.filter → compared_with s key ≡ compared_on s key
compared_is s key h = go (dec_lt (length key) s.octets)
  where
    go : Dec (length key < s.octets) → compared_with s key ≡ compared_on s key
    go (yes l) =
        ap (λ (b : Bool). cond b (up_to_differing (leading (same_at s.filter key) s.octets) s.octets) 0) (lt-leb s.octets (length key) l)
        ∙ sym (ap (λ (b : Bool). cond b 0 (steps_to (take s.octets s.filter) key)) (lt-ltb (length key) s.octets l))
    go (no l) =
        ap (λ (b : Bool). cond b (up_to_differing (leading (same_at s.filter key) s.octets) s.octets) 0) (le-leb s.octets (length key) (omega arith))
        ∙ steps_are s.octets s.filter key h (omega arith)
        ∙ sym (ap (λ (b : Bool). cond b 0 (steps_to (take s.octets s.filter) key)) (le-ltb (length key) s.octets (omega arith)))

-- Those of all routes, by index and in the list.
one_more : (xs : List Line) (key : List ℕ) (n : ℕ) → n < length xs → compared_lines (take (suc n) xs) key ≡ compared_lines (take n xs) key + compared_on (get_or xs n no_line).settings key
one_more [] key n h = absurd (omega arith)
one_more (x ∷ xs) key zero h = omega arith
one_more (x ∷ xs) key (suc n) h = omega (arith, one_more xs key n (omega arith))

module _ {store : List ℕ} {m : Manager} {l : Ledger} (a : Agrees store m l) (key : List ℕ) where
  among_lines_lem : (n : ℕ) → n ≤ m.count → compared_among m key n ≡ compared_lines (take n l.lines) key
  among_lines_lem zero h = refl
  among_lines_lem (suc n) h =
      let line = a.lines n (omega arith) in
      let e : compared_with (settings_at m n) key ≡ compared_on (line_at l n).settings key =
      compared_is (settings_at m n) key (omega (arith, (settings_bounds a n (omega arith)).octets, line.held.filter)) ∙ ap (λ (s : RouteSettings). compared_on s key) line.settings in
      omega (arith, e, among_lines_lem n (omega arith), one_more l.lines key n (omega (arith, a.count)))

  pub compared_for_lem : compared_for m key ≡ compared_lines l.lines key
  unfolding compared_for
  compared_for_lem =
      among_lines_lem m.count (omega arith) ∙ ap (λ (xs : List Line). compared_lines xs key) (take_all m.count l.lines (omega (arith, a.count)))

pub compared_same : {store : List ℕ} {m : Manager} {l : Ledger} → Agrees store m l → (v : Arrival) (key : List ℕ)
    → compared_to m v key ≡ cond (eqb v.mark 2) 0 (compared_lines l.lines key)
compared_same a v key = ap (cond (eqb v.mark 2) 0) (compared_for_lem a key)
