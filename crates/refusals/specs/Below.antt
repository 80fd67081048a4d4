-- A test that must hold of every number below n: what a loop over the first n finds out with one flag. Filters that are alike, routes that are
-- right, kinds in their places (document 01, Settings, Routing and loss, Refusals 18) are each such a test, and what is said here of all
-- of them is said once. Assumes nothing.
use Rattle.std.specs.Prelude.{◌≡◌, refl, Bool, true, false, cond, ◌&&◌, ◌||◌, List, [], ◌∷◌, ℕ, zero, suc, ◌+◌, ◌≤◌, ◌<◌, length, get_or}
use Rattle.std.proofs.Common.{sym, ap, ◌∙◌, arith, add-one}
use Rattle.std.proofs.lemmas.Bool.{false≢true}
use Rattle.std.proofs.Math.Decide.{ℕ_discrete}
use Rattle.refusals.specs.Tests.{both}
use Rattle.refusals.specs.Refusal.{or_left, or_right}

abbrev pub all_below : (ℕ → Bool) → ℕ → Bool
all_below f zero = true
all_below f (suc n) = all_below f n && f n

-- the loop's turn: the flag of those below i, and the test of i
pub below_turn : (f : ℕ → Bool) (i : ℕ) {x y : Bool} → x ≡ all_below f i → y ≡ f i → (x && y) ≡ all_below f (i + 1)
below_turn f i p q = (λ j. p j && q j) ∙ ap (all_below f) (sym (add-one i))

-- the loop's end
pub below_end : (f : ℕ → Bool) (i n : ℕ) {x : Bool} → x ≡ all_below f i → i ≡ n → x ≡ all_below f n
below_end f i n p e = p ∙ ap (all_below f) e

-- each of them, both ways
pub below_each : (f : ℕ → Bool) (n : ℕ) → all_below f n ≡ true → (i : ℕ) → i < n → f i ≡ true
below_each f zero e i h = absurd (omega arith)
below_each f (suc n) e i h = let t = both (all_below f n) (f n) e in go (ℕ_discrete i n) t.1 (λ l. below_each f n t.0 i l)
  where
    go : Dec (i ≡ n) → f n ≡ true → (i < n → f i ≡ true) → f i ≡ true
    go (yes p) last before = ap f p ∙ last
    go (no p) last before = before (omega arith)

pub below_all : (f : ℕ → Bool) (n : ℕ) → ((i : ℕ) → i < n → f i ≡ true) → all_below f n ≡ true
below_all f zero h = refl
below_all f (suc n) h = λ j. below_all f n (λ i l. h i (omega arith)) j && h n (omega arith) j

-- one that does not hold is enough against them
pub below_not : (f : ℕ → Bool) (n i : ℕ) → i < n → f i ≡ false → all_below f n ≡ false
below_not f n i h e = go (all_below f n) refl
  where
    go : (b : Bool) → all_below f n ≡ b → all_below f n ≡ false
    go true t = absurd (false≢true (sym e ∙ below_each f n t i h))
    go false t = t

-- two tests that say the same
pub below_same : (f g : ℕ → Bool) (n : ℕ) → ((i : ℕ) → i < n → f i ≡ g i) → all_below f n ≡ all_below g n
below_same f g zero h = refl
below_same f g (suc n) h = λ j. below_same f g n (λ i l. h i (omega arith)) j && h n (omega arith) j

-- A test of which one below n is enough.
abbrev pub any_below : (ℕ → Bool) → ℕ → Bool
any_below f zero = false
any_below f (suc n) = any_below f n || f n

-- the loop's turn, and its end
pub any_turn : (f : ℕ → Bool) (i : ℕ) {x y : Bool} → x ≡ any_below f i → y ≡ f i → (x || y) ≡ any_below f (i + 1)
any_turn f i p q = (λ j. p j || q j) ∙ ap (any_below f) (sym (add-one i))

pub any_end : (f : ℕ → Bool) (i n : ℕ) {x : Bool} → x ≡ any_below f i → i ≡ n → x ≡ any_below f n
any_end f i n p e = p ∙ ap (any_below f) e

-- one of them, both ways
pub record One (f : ℕ → Bool) (n : ℕ) : Type 0 where
  pub at : ℕ
  pub below : at < n
  pub holds : f at ≡ true

or_first : (a b : Bool) → b ≡ false → (a || b) ≡ true → a ≡ true
or_first true b p e = refl
or_first false b p e = absurd (false≢true (sym p ∙ e))

pub any_one : (f : ℕ → Bool) (n : ℕ) → any_below f n ≡ true → One f n
any_one f zero e = absurd (false≢true e)
any_one f (suc n) e = go (f n) refl (λ h. any_one f n (or_first (any_below f n) (f n) h e))
  where
    go : (b : Bool) → f n ≡ b → (f n ≡ false → One f n) → One f (suc n)
    go true h before = record { at = n; below = omega arith; holds = h }
    go false h before = let o = before h in record { at = o.at; below = omega (arith, o.below); holds = o.holds }

pub one_any : (f : ℕ → Bool) (n : ℕ) → One f n → any_below f n ≡ true
one_any f zero o = absurd (omega (arith, o.below))
one_any f (suc n) o = go (ℕ_discrete o.at n) (λ p. one_any f n p)
  where
    go : Dec (o.at ≡ n) → (One f n → any_below f n ≡ true) → any_below f (suc n) ≡ true
    go (yes p) before = or_right (any_below f n) (ap f (sym p) ∙ o.holds)
    go (no p) before = or_left (f n) (before (record { at = o.at; below = omega (arith, o.below); holds = o.holds }))

-- How many hold one behind another from 0 on, up to n.
abbrev pub leading : (ℕ → Bool) → ℕ → ℕ
leading f zero = 0
leading f (suc n) = cond (all_below f (suc n)) (suc n) (leading f n)

-- where the first that does not hold stands, and where all do
pub leading_all : (f : ℕ → Bool) (n : ℕ) → all_below f n ≡ true → leading f n ≡ n
leading_all f zero e = refl
leading_all f (suc n) e = rw e

pub leading_to : (f : ℕ → Bool) (k n : ℕ) → n ≤ k → all_below f n ≡ true → f n ≡ false → leading f k ≡ n
leading_to f zero n h all fails = omega arith
leading_to f (suc k) n h all fails = go (ℕ_discrete n (suc k)) (λ l. leading_to f k n l all fails)
  where
    go : Dec (n ≡ suc k) → (n ≤ k → leading f k ≡ n) → leading f (suc k) ≡ n
    go (yes p) before = ap (leading f) (sym p) ∙ leading_all f n all
    go (no p) before =
        ap (λ (b : Bool). cond b (suc k) (leading f k)) (below_not f (suc k) n (omega arith) fails) ∙ before (omega arith)

pub leading_most : (f : ℕ → Bool) (k : ℕ) → leading f k ≤ k
leading_most f zero = omega arith
leading_most f (suc k) = go (all_below f (suc k)) (leading_most f k)
  where
    go : (b : Bool) → leading f k ≤ k → cond b (suc k) (leading f k) ≤ suc k
    go true before = omega arith
    go false before = omega arith

-- all of them, or not all
pub leading_whole : (f : ℕ → Bool) (n : ℕ) → n ≤ leading f n → all_below f n ≡ true
leading_whole f zero h = refl
leading_whole f (suc n) h = go (all_below f (suc n)) refl
  where
    go : (b : Bool) → all_below f (suc n) ≡ b → all_below f (suc n) ≡ true
    go true e = e
    go false e = absurd (omega (arith, h, ap (λ (b : Bool). cond b (suc n) (leading f n)) e, leading_most f n))

pub leading_short : (f : ℕ → Bool) (n : ℕ) → leading f n < n → all_below f n ≡ false
leading_short f n h = go (all_below f n) refl
  where
    go : (b : Bool) → all_below f n ≡ b → all_below f n ≡ false
    go true e = absurd (omega (arith, h, leading_all f n e))
    go false e = e

-- two tests that say the same
pub leading_same : (f g : ℕ → Bool) (n : ℕ) → ((i : ℕ) → i < n → f i ≡ g i) → leading f n ≡ leading g n
leading_same f g zero h = refl
leading_same f g (suc n) h =
    let all = below_same f g (suc n) h in
    let rest = leading_same f g n (λ i l. h i (omega arith)) in
    λ j. cond (all j) (suc n) (rest j)

-- The numbers f k, f (k + 1) and so on, n of them.
abbrev pub list_from : (ℕ → ℕ) → ℕ → ℕ → List ℕ
list_from f k zero = []
list_from f k (suc n) = f k ∷ list_from f (k + 1) n

pub list_length : (f : ℕ → ℕ) (k n : ℕ) → length (list_from f k n) ≡ n
list_length f k zero = refl
list_length f k (suc n) = ap suc (list_length f (k + 1) n)

pub list_at : (f : ℕ → ℕ) (k n i : ℕ) → i < n → get_or (list_from f k n) i 0 ≡ f (k + i)
list_at f k zero i h = absurd (omega arith)
list_at f k (suc n) zero h = let e : k ≡ k + 0 = omega arith in ap f e
list_at f k (suc n) (suc i) h = let e : k + 1 + i ≡ k + suc i = omega arith in list_at f (k + 1) n i (omega arith) ∙ ap f e
