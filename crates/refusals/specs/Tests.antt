-- A list of tests that must all hold, in the order in which a paper lists them, and what it says of each. It computes to b && c && d, as Rattle's `&` does.
-- It serves every list of bounds in document 01, as Timestamps and refusal 18, and speaks of Booleans only. Assumes nothing.
use Rattle.std.specs.Prelude.{◌≡◌, refl, Bool, true, false, ◌&&◌, List, [], ◌∷◌, ℕ, zero, suc, get_or}
use Rattle.std.proofs.Common.{arith}

abbrev pub and_all : Bool → List Bool → Bool
and_all b [] = b
and_all b (x ∷ xs) = and_all (b && x) xs

abbrev pub all_of : List Bool → Bool
all_of [] = true
all_of (b ∷ bs) = and_all b bs

-- two tests that both hold
pub both : (a b : Bool) → (a && b) ≡ true → (a ≡ true) × (b ≡ true)
both true b e = (refl, e)
both false b e = let z : ◌≡◌ {A = ℕ} 0 1 = cc in absurd (omega arith)

and_each : (b : Bool) (bs : List Bool) → and_all b bs ≡ true → (b ≡ true) × ((i : ℕ) → get_or bs i true ≡ true)
and_each b [] e = (e, λ i. refl)
and_each b (x ∷ xs) e =
    let r = and_each (b && x) xs e in
    let t = both b x r.0 in
    (t.0, λ i. tail t.1 r.1 i)
  where
    tail : x ≡ true → ((i : ℕ) → get_or xs i true ≡ true) → (i : ℕ) → get_or (x ∷ xs) i true ≡ true
    tail p q zero = p
    tail p q (suc i) = q i

-- the i-th test of a list that holds
pub each : (bs : List Bool) → all_of bs ≡ true → (i : ℕ) → get_or bs i true ≡ true
each [] e i = refl
each (b ∷ bs) e zero = (and_each b bs e).0
each (b ∷ bs) e (suc i) = (and_each b bs e).1 i
