-- Set times of day (document 02, ask 6): a route may have up to 24 minutes of the local day at which its file is cut, rising. The state has 200
-- numbers for them, `sets` here: how many each of eight routes has, and then room for 24 of each. Those that do not count are not judged.
-- Assumes nothing.
use Rattle.std.specs.Prelude.{◌≡◌, Bool, true, ◌&&◌, ◌||◌, List, ℕ, ◌+◌, ◌*◌, ◌-◌, ◌≤◌, ◌<◌, ltb, leb, eqb, get_or}
use Rattle.std.proofs.Common.{sym, ap, ◌∙◌, arith, leb-true, eqb-true, eq-eqb, ne_eqb}
use Rattle.std.proofs.Math.Bool.{and-true}
use Rattle.refusals.specs.Tests.{both}
use Rattle.refusals.specs.Below.{all_below, below_each, below_all}

-- how many route i has, and the j-th of them
abbrev pub set_count : List ℕ → ℕ → ℕ
set_count sets i = get_or sets i 0

abbrev pub set_minute : List ℕ → ℕ → ℕ → ℕ
set_minute sets i j = get_or sets (8 + 24 * i + j) 0

-- the j-th minute is one of a day, and later than the one before it
abbrev pub minute_right : (ℕ → ℕ) → ℕ → Bool
minute_right minute j = leb (minute j) 1439 && (eqb j 0 || ltb (minute (j - 1)) (minute j))

-- its two cases
module _ (minute : ℕ → ℕ) (j : ℕ) {x : ℕ} (e : x ≡ minute j) where
  pub minute_first : j ≡ 0 → leb x 1439 ≡ minute_right minute j
  minute_first z = ap (λ (m : ℕ). leb m 1439) e ∙ sym (and-true (leb (minute j) 1439)) ∙ sym (rw (eq-eqb _ _ z))

  pub minute_next : (j ≡ 0 → ⊥) → {y : ℕ} → y ≡ minute (j - 1) → (leb x 1439 && ltb y x) ≡ minute_right minute j
  minute_next z f = (λ i. leb (e i) 1439 && ltb (f i) (e i)) ∙ sym (rw (ne_eqb _ _ z))

-- n minutes, at most 24
abbrev pub minutes_right : ℕ → (ℕ → ℕ) → Bool
minutes_right n minute = leb n 24 && all_below (minute_right minute) n

-- the routes below n
abbrev pub set_right_at : List ℕ → ℕ → Bool
set_right_at sets i = minutes_right (set_count sets i) (set_minute sets i)

unfoldable pub sets_right : List ℕ → ℕ → Bool
sets_right sets n = all_below (set_right_at sets) n

-- A state without set minutes has them right.
abbrev pub no_set_at : List ℕ → ℕ → Bool
no_set_at sets i = eqb (set_count sets i) 0

abbrev pub no_sets : List ℕ → Bool
no_sets sets = all_below (no_set_at sets) 8

pub none_right : (sets : List ℕ) (n : ℕ) → n ≤ 8 → no_sets sets ≡ true → sets_right sets n ≡ true
unfolding sets_right
none_right sets n few e = below_all (set_right_at sets) n (λ i h. ap (λ (k : ℕ). minutes_right k (set_minute sets i)) (eqb-true (set_count sets i) 0 (below_each (no_set_at sets) 8 e i (omega arith))))

-- What that says of a route.
pub record SetWithin (sets : List ℕ) (i : ℕ) : Type 0 where
  pub few : set_count sets i ≤ 24
  pub day : (j : ℕ) → j < set_count sets i → set_minute sets i j ≤ 1439

pub set_within : (sets : List ℕ) (n : ℕ) → sets_right sets n ≡ true → (i : ℕ) → i < n → SetWithin sets i
unfolding sets_right
set_within sets n e i h =
    let t = both (leb (set_count sets i) 24) (all_below (minute_right (set_minute sets i)) (set_count sets i)) (below_each (set_right_at sets) n e i h) in
    record {
      few = leb-true (set_count sets i) 24 t.0;
      day =
          λ j l.
          let r = below_each (minute_right (set_minute sets i)) (set_count sets i) t.1 j l in
          leb-true (set_minute sets i j) 1439
          (both (leb (set_minute sets i j) 1439) (eqb j 0 || ltb (set_minute sets i (j - 1)) (set_minute sets i j)) r).0;
    }
