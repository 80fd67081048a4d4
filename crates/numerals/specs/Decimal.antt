-- Decimal numbers: a number's digits in ASCII, how many it has, and their laws. Assumes nothing.
use Rattle.std.specs.Prelude.{◌≡◌, refl, Bool, true, false, cond, List, [], ◌∷◌, ℕ, zero, suc, ◌+◌, ◌-◌, ◌*◌, ◌/◌, ◌%◌, ◌^◌, ◌≤◌, ◌<◌, max, ltb, length, take, drop}
use Rattle.std.proofs.Common.{sym, ap, ◌∙◌, add-one, arith, lit<, lt-ltb, le-ltb, ltb-true}
use Rattle.std.proofs.Math.Nat.{pow-succ'}
use Rattle.std.proofs.Math.Seq.{take-length}

-- the w decimal digits of n, most significant first; n is taken modulo 10 ^ w
abbrev pub digits : ℕ → ℕ → List ℕ
digits zero n = []
digits (suc w) n = (48 + n / 10 ^ w % 10) ∷ digits w n

-- how many digits n has, where it has at most w + 1
abbrev pub width_to : ℕ → ℕ → ℕ
width_to zero n = 1
width_to (suc w) n = cond (ltb n (10 ^ suc w)) (width_to w n) (suc (suc w))

-- a number of up to ten digits, without leading zeros
abbrev pub width : ℕ → ℕ
width n = width_to 9 n

abbrev pub decimal : ℕ → List ℕ
decimal n = digits (width n) n

pub ten_positive : (w : ℕ) → 0 < 10 ^ w
ten_positive zero = lit< tt
ten_positive (suc w) = rw (pow-succ' 10 w) (omega (arith, ten_positive w))

pub digits_length : (w n : ℕ) → length (digits w n) ≡ w
digits_length zero n = refl
digits_length (suc w) n = ap suc (digits_length w n)

-- the last w of more digits
pub digits_drop : (k w n : ℕ) → drop k (digits (k + w) n) ≡ digits w n
digits_drop zero w n = let e : 0 + w ≡ w = omega arith in ap (λ (m : ℕ). digits m n) e
digits_drop (suc k) w n =
    let e : suc k + w ≡ suc (k + w) = omega arith in
    ap (λ (m : ℕ). drop (suc k) (digits m n)) e ∙ digits_drop k w n

-- a power of ten grows
pub ten_grows : (k w : ℕ) → 10 ^ w ≤ 10 ^ (k + w)
ten_grows zero w = let e : 0 + w ≡ w = omega arith in rw e (omega arith)
ten_grows (suc k) w =
    let e : suc k + w ≡ suc (k + w) = omega arith in
    rw (e, pow-succ' 10 (k + w)) (omega (arith, ten_grows k w))

-- tests of greater widths do not count for a small number
pub width_skip : (k w n : ℕ) → n < 10 ^ suc w → width_to (k + w) n ≡ width_to w n
width_skip zero w n h = let e : 0 + w ≡ w = omega arith in ap (λ (m : ℕ). width_to m n) e
width_skip (suc k) w n h =
    let e : 10 ^ suc w ≤ 10 ^ suc (k + w) = rw (pow-succ' 10 w, pow-succ' 10 (k + w)) (omega (arith, ten_grows k w)) in
    let s : suc k + w ≡ suc (k + w) = omega arith in
    rw (s, lt-ltb n (10 ^ suc (k + w)) (omega arith)) (width_skip k w n h)

pub width_top : (w n : ℕ) → 10 ^ suc w ≤ n → width_to (suc w) n ≡ suc (suc w)
width_top w n h = rw (le-ltb n (10 ^ suc w) h)

-- a number with w + 2 digits
pub width_is : (k w n : ℕ) → 10 ^ suc w ≤ n → n < 10 ^ suc (suc w) → width_to (k + suc w) n ≡ suc (suc w)
width_is k w n h l = width_skip k (suc w) n l ∙ width_top w n h

-- a number has one digit more than its logarithm, and 0 has one
pub width_log : (n k : ℕ) → 10 ^ k ≤ max n 1 → max n 1 < 10 * 10 ^ k → k < 10 → width n ≡ k + 1
width_log n zero above below few = width_skip 9 0 n (omega arith)
width_log n (suc w) above below few =
    let low : 10 ^ suc w ≤ n = omega (arith, above, pow-succ' 10 w, ten_positive w) in
    let high : n < 10 ^ suc (suc w) = rw (pow-succ' 10 (suc w)) (omega (arith, below)) in
    let ten : 8 - w + suc w ≡ 9 = omega arith in
    ap (λ (m : ℕ). width_to m n) (sym ten) ∙ width_is (8 - w) w n low high ∙ sym (add-one (suc w))

-- a number is below the power of ten of its width
pub width_holds : (w n : ℕ) → n < 10 ^ suc w → n < 10 ^ width_to w n
width_holds zero n h = h
width_holds (suc w) n h = by (width_holds w n) (ltb n (10 ^ suc w)) refl
  where
    by : (n < 10 ^ suc w → n < 10 ^ width_to w n) → (b : Bool) → ltb n (10 ^ suc w) ≡ b → n < 10 ^ cond b (width_to w n) (suc (suc w))
    by less true e = less (ltb-true n (10 ^ suc w) e)
    by less false e = h

-- how many digits there may be
pub width_most : (w n : ℕ) → width_to w n ≤ suc w
width_most zero n = omega arith
width_most (suc w) n = by (width_most w n) (ltb n (10 ^ suc w))
  where
    by : width_to w n ≤ suc w → (b : Bool) → cond b (width_to w n) (suc (suc w)) ≤ suc (suc w)
    by less true = omega arith
    by less false = omega arith

-- the last w of ten digits, as a part of the ten, are the number without leading zeros
pub decimal_part : (n w : ℕ) (ten : List ℕ) → w ≡ width n → w ≤ 10 → ten ≡ digits 10 n → take (10 - (10 - w)) (drop (10 - w) ten) ≡ decimal n
decimal_part n w ten h l t =
    let e : 10 - w + w ≡ 10 = omega arith in
    let last : drop (10 - w) ten ≡ digits w n =
    ap (drop (10 - w)) (t ∙ ap (λ (m : ℕ). digits m n) (sym e)) ∙ digits_drop (10 - w) w n in
    let k : 10 - (10 - w) ≡ length (digits w n) = rw (digits_length w n) (omega arith) in
    (λ i. take (k i) (last i)) ∙ take-length (digits w n) ∙ ap (λ (m : ℕ). digits m n) h
