-- A list of refusals in order, said of each number alone (document 01, Refusals, and "a number comes under its condition and never
-- otherwise"): a number is the answer exactly when its condition holds and none before it in the order does, and 0 exactly when none
-- holds. Shown of `first` (refusals, Refusal.antt) for every list whose numbers are all different and not 0.
use Rattle.std.specs.Prelude.{◌≡◌, refl, Bool, true, false, cond, not, ◌&&◌, ◌↔◌, List, [], ◌∷◌, ◌++◌, ℕ, eqb}
use Rattle.std.proofs.Common.{sym, ap, ◌∙◌, subst, true≢false}
use Rattle.std.proofs.lemmas.Bool.{not-true, eqb-false}
use Rattle.refusals.specs.Refusal.{Rule, first}
use Rattle.refusals.specs.Tests.{both}

-- no rule of the list applies
abbrev pub NoneApplies : List Rule → Type 0
NoneApplies [] = Unit {0}
NoneApplies (r ∷ rs) = (r.applies ≡ false) × NoneApplies rs

-- n is the answer of these rules
pub record Exactly (rules : List Rule) (n : ℕ) : Type 0 where
  -- it is the number of a rule exactly when that rule applies and none before it does
  pub each : (before : List Rule) (r : Rule) (later : List Rule) → rules ≡ before ++ (r ∷ later)
      → (n ≡ r.number) ↔ (NoneApplies before × (r.applies ≡ true))
  -- and 0 exactly when none applies
  pub none : (n ≡ 0) ↔ NoneApplies rules

-- rules one list after another
pub none_joined : (before later : List Rule) → NoneApplies before → NoneApplies later → NoneApplies (before ++ later)
none_joined [] later a b = b
none_joined (r ∷ rs) later a b = (a.0, none_joined rs later a.1 b)

pub none_before : (before later : List Rule) → NoneApplies (before ++ later) → NoneApplies before
none_before [] later a = tt
none_before (r ∷ rs) later a = (a.0, none_before rs later a.1)

-- no rule of the list has this number
abbrev pub none_has : ℕ → List Rule → Bool
none_has n [] = true
none_has n (r ∷ rs) = not (eqb n r.number) && none_has n rs

-- the numbers are all different and not 0
abbrev pub numbers_differ : List Rule → Bool
numbers_differ [] = true
numbers_differ (r ∷ rs) = not (eqb r.number 0) && none_has r.number rs && numbers_differ rs

-- a number that no rule has, and that is not 0, is never the answer
none_never : (n : ℕ) (rs : List Rule) → none_has n rs ≡ true → (n ≡ 0 → ⊥) → first rs ≡ n → ⊥
none_never n [] u z e = z (sym e)
none_never n (r ∷ rs) u z e = by_first r.applies (none_never n rs (both (not (eqb n r.number)) (none_has n rs) u).1 z) e
  where
    by_first : (b : Bool) → (first rs ≡ n → ⊥) → cond b r.number (first rs) ≡ n → ⊥
    by_first true rest f = eqb-false n r.number (not-true (eqb n r.number) (both (not (eqb n r.number)) (none_has n rs) u).0) (sym f)
    by_first false rest f = rest f

none_there : (n : ℕ) (before : List Rule) (r : Rule) (later : List Rule) → none_has n (before ++ (r ∷ later)) ≡ true → n ≡ r.number → ⊥
none_there n [] r later u = eqb-false n r.number (not-true (eqb n r.number) (both (not (eqb n r.number)) (none_has n later) u).0)
none_there n (b ∷ bs) r later u = none_there n bs r later (both (not (eqb n b.number)) (none_has n (bs ++ (r ∷ later))) u).1

-- what the test of the numbers says of the first
module _ (r : Rule) (rs : List Rule) (d : numbers_differ (r ∷ rs) ≡ true) where
  tests : (not (eqb r.number 0) && none_has r.number rs ≡ true) × (numbers_differ rs ≡ true)
  tests = both (not (eqb r.number 0) && none_has r.number rs) (numbers_differ rs) d

  not_zero : r.number ≡ 0 → ⊥
  not_zero = eqb-false r.number 0 (not-true (eqb r.number 0) (both (not (eqb r.number 0)) (none_has r.number rs) tests.0).0)

  not_later : none_has r.number rs ≡ true
  not_later = (both (not (eqb r.number 0)) (none_has r.number rs) tests.0).1

each_of : (before : List Rule) (r : Rule) (later : List Rule) → numbers_differ (before ++ (r ∷ later)) ≡ true
    → (first (before ++ (r ∷ later)) ≡ r.number) ↔ (NoneApplies before × (r.applies ≡ true))
each_of [] r later d = by_first r.applies
  where
    by_first : (b : Bool) → (cond b r.number (first later) ≡ r.number) ↔ (Unit {0} × (b ≡ true))
    by_first true = (λ e. (tt, refl), λ a. refl)
    by_first false = (λ e. absurd (none_never r.number later (not_later r later d) (not_zero r later d) e), λ a. absurd (true≢false (sym a.1)))
each_of (b ∷ bs) r later d = by_first b.applies (each_of bs r later (tests b (bs ++ (r ∷ later)) d).1)
  where
    by_first : (t : Bool) → (first (bs ++ (r ∷ later)) ≡ r.number) ↔ (NoneApplies bs × (r.applies ≡ true))
        → (cond t b.number (first (bs ++ (r ∷ later))) ≡ r.number) ↔ (((t ≡ false) × NoneApplies bs) × (r.applies ≡ true))
    by_first true rest = (
      λ e. absurd (none_there b.number bs r later (not_later b (bs ++ (r ∷ later)) d) e),
      λ a. absurd (true≢false a.0.0),
    )
    by_first false rest = (λ e. let a = rest.0 e in ((refl, a.0), a.1), λ a. rest.1 (a.0.1, a.1))

none_of : (rules : List Rule) → numbers_differ rules ≡ true → (first rules ≡ 0) ↔ NoneApplies rules
none_of [] d = (λ e. tt, λ a. refl)
none_of (r ∷ rs) d = by_first r.applies (none_of rs (tests r rs d).1)
  where
    by_first : (t : Bool) → (first rs ≡ 0) ↔ NoneApplies rs → (cond t r.number (first rs) ≡ 0) ↔ ((t ≡ false) × NoneApplies rs)
    by_first true rest = (λ e. absurd (not_zero r rs d e), λ a. absurd (true≢false a.0))
    by_first false rest = (λ e. (refl, rest.0 e), λ a. rest.1 a.1)

pub first_exactly : (rules : List Rule) → numbers_differ rules ≡ true → {n : ℕ} → n ≡ first rules → Exactly rules n
first_exactly rules d e =
    subst (Exactly rules) (sym e)
    (record {
      each =
          λ before r later s.
          subst (λ (l : List Rule). (first l ≡ r.number) ↔ (NoneApplies before × (r.applies ≡ true))) (sym s)
          (each_of before r later (ap numbers_differ (sym s) ∙ d));
      none = none_of rules d;
    })
