-- What an indicator says (specs/Loss.antt): the octet that the formula gives is true (`indicator_true`), and no other octet is (`says_only`). Assumes nothing.
use Rattle.std.specs.Prelude.{◌≡◌, refl, Bool, true, false, ℕ, ◌≤◌, ◌<◌, ◌-◌}
use Rattle.std.proofs.Common.{sym, ◌∙◌, arith, eq-eqb, ne_eqb}
use Rattle.std.proofs.Math.Decide.{ℕ_discrete, dec_lt}
use Rattle.state.specs.Loss.{indicator, Complete, MaybeMore, Says}

-- an octet of one case says what that case says, since the others are not about it
module _ {octet n t : ℕ} {u : Bool} where
  pub says_none : octet ≡ 0 → (n ≡ 0) × Complete n t u → Says octet n t u
  says_none o w = record {
    none = λ a. w;
    least = λ a b. absurd (omega arith);
    least_many = λ a. absurd (omega arith);
    some = λ a. absurd (omega arith);
    exact = λ a b. absurd (omega arith);
    many = λ a. absurd (omega arith);
  }

  pub says_least : 1 ≤ octet → octet ≤ 126 → (n ≡ octet) × MaybeMore n t u → Says octet n t u
  says_least l h w = record {
    none = λ a. absurd (omega arith);
    least = λ a b. w;
    least_many = λ a. absurd (omega arith);
    some = λ a. absurd (omega arith);
    exact = λ a b. absurd (omega arith);
    many = λ a. absurd (omega arith);
  }

  pub says_least_many : octet ≡ 127 → (127 ≤ n) × MaybeMore n t u → Says octet n t u
  says_least_many o w = record {
    none = λ a. absurd (omega arith);
    least = λ a b. absurd (omega arith);
    least_many = λ a. w;
    some = λ a. absurd (omega arith);
    exact = λ a b. absurd (omega arith);
    many = λ a. absurd (omega arith);
  }

  pub says_some : octet ≡ 128 → (n ≡ 0) × MaybeMore n t u → Says octet n t u
  says_some o w = record {
    none = λ a. absurd (omega arith);
    least = λ a b. absurd (omega arith);
    least_many = λ a. absurd (omega arith);
    some = λ a. w;
    exact = λ a b. absurd (omega arith);
    many = λ a. absurd (omega arith);
  }

  pub says_exact : 129 ≤ octet → octet ≤ 254 → (n ≡ octet - 128) × Complete n t u → Says octet n t u
  says_exact l h w = record {
    none = λ a. absurd (omega arith);
    least = λ a b. absurd (omega arith);
    least_many = λ a. absurd (omega arith);
    some = λ a. absurd (omega arith);
    exact = λ a b. w;
    many = λ a. absurd (omega arith);
  }

  pub says_many : octet ≡ 255 → (127 ≤ n) × Complete n t u → Says octet n t u
  says_many o w = record {
    none = λ a. absurd (omega arith);
    least = λ a b. absurd (omega arith);
    least_many = λ a. absurd (omega arith);
    some = λ a. absurd (omega arith);
    exact = λ a b. absurd (omega arith);
    many = λ a. w;
  }

-- A known 3 is written so that it says 3 and no more, and with an unrouted record so that it says 3 and maybe more.
pub three_written : Says (indicator 3 false) 3 3 false × Says (indicator 3 true) 3 3 true
three_written = (
  says_exact (omega arith) (omega arith) (refl, (refl, refl)),
  says_least (omega arith) (omega arith) (refl, (refl, omega arith)),
)

-- The octet written is true: of t = n without u, and of any t from n on with it.
pub indicator_true : (n t : ℕ) (u : Bool) → n ≤ t → (u ≡ false → t ≡ n) → Says (indicator n u) n t u
indicator_true n t u le known = go u known (ℕ_discrete n 0) (dec_lt n 127)
  where
    go : (u : Bool) → (u ≡ false → t ≡ n) → Dec (n ≡ 0) → Dec (n < 127) → Says (indicator n u) n t u
    go false k (yes z) few = rw (eq-eqb n 0 z) (says_none refl (z, (refl, k refl)))
    go false k (no z) (yes few) = rw (ne_eqb n 0 z) (says_exact (omega arith) (omega arith) (omega arith, (refl, k refl)))
    go false k (no z) (no many) = rw (ne_eqb n 0 z) (says_many (omega arith) (omega arith, (refl, k refl)))
    go true k (yes z) few = rw (eq-eqb n 0 z) (says_some refl (z, (refl, le)))
    go true k (no z) (yes few) = rw (ne_eqb n 0 z) (says_least (omega arith) (omega arith) (omega arith, (refl, le)))
    go true k (no z) (no many) = rw (ne_eqb n 0 z) (says_least_many (omega arith) (omega arith, (refl, le)))

-- No other octet is true.
pub says_only : (octet n t : ℕ) (u : Bool) → octet < 256 → Says octet n t u → octet ≡ indicator n u
says_only octet n t u h s = go (ℕ_discrete octet 0) (dec_lt octet 127) (ℕ_discrete octet 127) (ℕ_discrete octet 128) (dec_lt octet 255)
  where
    go : Dec (octet ≡ 0) → Dec (octet < 127) → Dec (octet ≡ 127) → Dec (octet ≡ 128) → Dec (octet < 255) → octet ≡ indicator n u
    go (yes z) a b c d = let w = s.none z in rw (w.1.0, eq-eqb n 0 w.0) z
    go (no z) (yes a) b c d = let w = s.least (omega arith) (omega arith) in rw (w.1.0, ne_eqb n 0 (λ e. omega arith)) (omega arith)
    go (no z) (no a) (yes b) c d = let w = s.least_many b in rw (w.1.0, ne_eqb n 0 (λ e. omega arith)) (omega arith)
    go (no z) (no a) (no b) (yes c) d = let w = s.some c in rw (w.1.0, eq-eqb n 0 w.0) c
    go (no z) (no a) (no b) (no c) (yes d) = let w = s.exact (omega arith) (omega arith) in rw (w.1.0, ne_eqb n 0 (λ e. omega arith)) (omega arith)
    go (no z) (no a) (no b) (no c) (no d) = let w = s.many (omega arith) in rw (w.1.0, ne_eqb n 0 (λ e. omega arith)) (omega arith)

-- So no two octets are true at once,
pub says_one : (a b n t : ℕ) (u : Bool) → a < 256 → b < 256 → Says a n t u → Says b n t u → a ≡ b
says_one a b n t u ha hb x y = says_only a n t u ha x ∙ sym (says_only b n t u hb y)

-- and a formula that meets the law of `indicator_true` is this one.
pub indicator_only : (f : ℕ → Bool → ℕ) → ((n : ℕ) (u : Bool) → f n u < 256) → ((n t : ℕ) (u : Bool) → n ≤ t → (u ≡ false → t ≡ n) → Says (f n u) n t u)
    → (n : ℕ) (u : Bool) → f n u ≡ indicator n u
indicator_only f small law n u = says_only (f n u) n n u (small n u) (law n n u (omega arith) (λ _. refl))

-- 3 and 131 differ: under 3 an unrouted record came, and 3 or more were lost; under 131 none came, and exactly 3 were lost.
pub three_or_more : Says 3 3 3 true × Says 3 3 4 true
three_or_more = (
  says_least (omega arith) (omega arith) (refl, (refl, omega arith)),
  says_least (omega arith) (omega arith) (refl, (refl, omega arith)),
)

pub three_noted : (n t : ℕ) (u : Bool) → Says 3 n t u → u ≡ true
three_noted n t u s = (s.least (omega arith) (omega arith)).1.0

pub three_exactly : (n t : ℕ) (u : Bool) → Says 131 n t u → (t ≡ 3) × (u ≡ false)
three_exactly n t u s = let w = s.exact (omega arith) (omega arith) in (omega arith, w.1.0)

-- 127 is never written for a known 200
pub many_known : indicator 200 false ≡ 255
many_known = refl
