-- Tests that are computed once over a whole list, or over all numbers below one, and what each says of every entry: by them a fact about each
-- month of four years is one evaluation. They serve the calendar of document 01, Timestamps, and speak of numbers only. Assumes nothing.
use Rattle.std.specs.Prelude.{Bool, true, false, ◌&&◌, List, [], ◌∷◌, ℕ, zero, suc, ◌<◌, ◌≤◌, T, leb, length, get_or}
use Rattle.std.proofs.Common.{⊎_elim, zero-le, eq-or-lt_of_le, le_of_suc-le-suc, not-suc-le-zero, leb→le}

and_left : (a b : Bool) → T (a && b) → T a
and_left true b t = tt
and_left false b t = t

and_right : (a b : Bool) → T (a && b) → T b
and_right true b t = t
and_right false b t = absurd t

-- each entry is at most b
abbrev pub within : ℕ → List ℕ → Bool
within b [] = true
within b (x ∷ xs) = leb x b && within b xs

pub within_at : (b : ℕ) (xs : List ℕ) → T (within b xs) → (k : ℕ) → get_or xs k 0 ≤ b
within_at b [] t k = zero-le
within_at b (x ∷ xs) t zero = leb→le x b (and_left (leb x b) (within b xs) t)
within_at b (x ∷ xs) t (suc k) = within_at b xs (and_right (leb x b) (within b xs) t) k

-- each entry is at least b
abbrev pub above : ℕ → List ℕ → Bool
above b [] = true
above b (x ∷ xs) = leb b x && above b xs

pub above_at : (b : ℕ) (xs : List ℕ) → T (above b xs) → (k : ℕ) → k < length xs → b ≤ get_or xs k 0
above_at b [] t k h = absurd (not-suc-le-zero h)
above_at b (x ∷ xs) t zero h = leb→le b x (and_left (leb b x) (above b xs) t)
above_at b (x ∷ xs) t (suc k) h = above_at b xs (and_right (leb b x) (above b xs) t) k (le_of_suc-le-suc h)

-- each entry is at most the other list's at its place
abbrev pub below : List ℕ → List ℕ → Bool
below [] ys = true
below (x ∷ xs) [] = false
below (x ∷ xs) (y ∷ ys) = leb x y && below xs ys

pub below_at : (xs ys : List ℕ) → T (below xs ys) → (k : ℕ) → get_or xs k 0 ≤ get_or ys k 0
below_at [] ys t k = zero-le
below_at (x ∷ xs) [] t k = absurd t
below_at (x ∷ xs) (y ∷ ys) t zero = leb→le x y (and_left (leb x y) (below xs ys) t)
below_at (x ∷ xs) (y ∷ ys) t (suc k) = below_at xs ys (and_right (leb x y) (below xs ys) t) k

-- each number below n passes the test f
abbrev pub passed : (ℕ → Bool) → ℕ → Bool
passed f zero = true
passed f (suc n) = f n && passed f n

pub passed_at : (f : ℕ → Bool) (n : ℕ) → T (passed f n) → (k : ℕ) → k < n → T (f k)
passed_at f zero t k h = absurd (not-suc-le-zero h)
passed_at f (suc n) t k h =
    ⊎_elim (λ e. rw e (and_left (f n) (passed f n) t)) (λ l. passed_at f n (and_right (f n) (passed f n) t) k l) (eq-or-lt_of_le (le_of_suc-le-suc h))
