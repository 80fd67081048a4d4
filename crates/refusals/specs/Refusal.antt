-- Refusals as document 01 lists them (section Refusals): each has a number and a condition, and the first in order whose
-- condition holds is the answer. A definition of a call writes that list, one line for each refusal. Assumes nothing.
use Rattle.std.specs.Prelude.{◌≡◌, refl, Bool, true, false, cond, ◌||◌, List, [], ◌∷◌, ℕ, suc}
use Rattle.std.proofs.Common.{true≢false, arith}

pub record Rule : Type 0 where
  pub number : ℕ
  pub applies : Bool

infixl 20 ◌when◌
abbrev pub ◌when◌ : ℕ → Bool → Rule
◌when◌ n b = record { number = n; applies = b }

-- the number of the first rule that applies; 0 where none does
abbrev pub first : List Rule → ℕ
first [] = 0
first (r ∷ rs) = cond r.applies r.number (first rs)

-- where no rule applies, the first does not, and none behind it; a rule's number is not 0
pub passed : (n : ℕ) (b : Bool) (rs : List Rule) → first ((suc n when b) ∷ rs) ≡ 0 → (b ≡ false) × (first rs ≡ 0)
passed n true rs e = let z : ⊥ = omega arith in absurd z
passed n false rs e = (refl, e)

-- a condition made of two fails only where both do
pub or_false : (a b : Bool) → (a || b) ≡ false → (a ≡ false) × (b ≡ false)
or_false true b e = let z : (a : Bool) → true ≡ false → a ≡ false = λ a h. absurd (true≢false h) in (z true e, z b e)
or_false false b e = (refl, e)

-- and holds where either does
pub or_left : {a : Bool} (b : Bool) → a ≡ true → (a || b) ≡ true
or_left b e = rw e

pub or_right : (a : Bool) {b : Bool} → b ≡ true → (a || b) ≡ true
or_right true e = refl
or_right false e = e

pub both_false : {a b : Bool} → a ≡ false → b ≡ false → (a || b) ≡ false
both_false e f = rw (e, f)
