-- Laws of decimal digits that are read (000, 6.2): reading what was written gives the number, and how great a number of some octets is. One
-- law for every width, so that count, year and the two-digit fields share it. Assumes nothing.
use Rattle.std.specs.Prelude.{◌≡◌, List, [], ◌∷◌, ◌++◌, ℕ, zero, suc, ◌+◌, ◌-◌, ◌*◌, ◌/◌, ◌%◌, ◌^◌, ◌≤◌, ◌<◌, length, get_or}
use Rattle.std.proofs.Common.{sym, ap, subst, ◌∙◌, append_assoc, mul-le-mul_right, add-one, arith, lit<, length-append}
use Rattle.std.proofs.Math.Nat.{pow-succ'}
use Rattle.std.proofs.Math.Arith.{mod-mul}
use Rattle.std.proofs.Math.Seq.{get_or-append_seam}
use Rattle.numerals.specs.Decimal.{digits, ten_positive, ten_grows}
use Rattle.filename.specs.Reading.{value_at}

-- digits read from the place where a number was written give the number
pub value_digits : (w n : ℕ) (a r : List ℕ) → value_at w (a ++ (digits w n ++ r)) (length a) ≡ n % 10 ^ w
value_digits zero n a r = sym (omega arith)
value_digits (suc w) n a r =
    let d : ℕ = n / 10 ^ w % 10 in
    let o : ℕ = 48 + d in
    let shift : a ++ (o ∷ (digits w n ++ r)) ≡ (a ++ (o ∷ [])) ++ (digits w n ++ r) = sym (append_assoc a (o ∷ []) (digits w n ++ r)) in
    let far : length (a ++ (o ∷ [])) ≡ length a + 1 = length-append a (o ∷ []) in
    let rest : value_at w (a ++ (o ∷ (digits w n ++ r))) (length a + 1) ≡ n % 10 ^ w =
    ap (λ (xs : List ℕ). value_at w xs (length a + 1)) shift
    ∙ ap (value_at w ((a ++ (o ∷ [])) ++ (digits w n ++ r))) (sym far)
    ∙ value_digits w n (a ++ (o ∷ [])) r in
    let first : get_or (a ++ (o ∷ (digits w n ++ r))) (length a) 0 - 48 ≡ d =
    ap (λ (x : ℕ). x - 48) (get_or-append_seam a o (digits w n ++ r) 0) ∙ omega arith in
    (λ i. first i * 10 ^ w + rest i) ∙ sym (mod-mul n (lit< tt) (ten_positive w)) ∙ ap (λ (x : ℕ). n % x) (sym (pow-succ' 10 w))

-- how great a number of i octets is, whatever they are; and with one more before them
pub value_grows : (d v i : ℕ) → d ≤ 207 → v < 208 * 10 ^ i → d * 10 ^ i + v < 208 * 10 ^ (i + 1)
value_grows d v i h k =
    let e : d * 10 ^ i ≤ 207 * 10 ^ i = mul-le-mul_right (10 ^ i) h in
    rw (add-one i, pow-succ' 10 i) (omega arith)

-- a power of ten up to the tenth
pub ten_most : (i : ℕ) → i ≤ 10 → 10 ^ i ≤ 10000000000
ten_most i h =
    let e : 10 - i + i ≡ 10 = omega arith in
    let g = ten_grows (10 - i) i in
    subst (λ (m : ℕ). 10 ^ i ≤ 10 ^ m) e g

pub ten_four : (i : ℕ) → i ≤ 4 → 10 ^ i ≤ 10000
ten_four i h =
    let e : 4 - i + i ≡ 4 = omega arith in
    let g = ten_grows (4 - i) i in
    subst (λ (m : ℕ). 10 ^ i ≤ 10 ^ m) e g

-- one digit more before the last i of w
pub value_step : (w i k : ℕ) (xs : List ℕ) (digit value octet weight : ℕ) → i < w → octet ≡ get_or xs (k + (w - 1 - i)) 0 → digit ≡ octet - 48 → weight ≡ 10 ^ i
    → value ≡ value_at i xs (k + (w - i)) → digit * weight + value ≡ value_at (i + 1) xs (k + (w - (i + 1)))
value_step w i k xs digit value octet weight h o d p v =
    let here : k + (w - 1 - i) ≡ k + (w - (i + 1)) = omega arith in
    let next : k + (w - i) ≡ k + (w - (i + 1)) + 1 = omega arith in
    let digit' : digit ≡ get_or xs (k + (w - (i + 1))) 0 - 48 = d ∙ ap (λ (x : ℕ). x - 48) (o ∙ ap (λ (n : ℕ). get_or xs n 0) here) in
    (λ j. digit' j * p j + (v ∙ ap (value_at i xs) next) j) ∙ ap (λ (n : ℕ). value_at n xs (k + (w - (i + 1)))) (sym (add-one i))
