-- Octets, and numbers of several octets: unsigned, most significant octet first (document 01, preamble; 000, 6.1 d).
-- The laws hold for every width, so that two octets, four, and later fields share them. Assumes nothing.
use Rattle.std.specs.Prelude.{◌≡◌, refl, List, [], ◌∷◌, ◌++◌, ℕ, zero, suc, ◌+◌, ◌*◌, ◌/◌, ◌%◌, ◌^◌, ◌≤◌, ◌<◌, length, get_or, take, drop}
use Rattle.std.specs.Int.{w32, to_be_bytes}
use Rattle.std.proofs.Common.{sym, ap, ◌∙◌, append_assoc, append-nil, mul_assoc, mod-lt, mod-eq_of_lt, add-zero, add-one, arith, lit<, length-append, length-take, drop_of_length-le, drop-cons, get_or-drop, get_or-take, take_at}
use Rattle.std.proofs.Math.Nat.{pow-succ', mul-add-div_right, mul-add-mod_self_right}
use Rattle.std.proofs.Math.Decide.{dec_lt}
use Rattle.std.proofs.Math.Arith.{mod-mul, digits_div, digits_lt}
use Rattle.std.proofs.Math.ListN.{get_or-eq_default}
use Rattle.std.proofs.Math.Seq.{get_or-append_seam}

-- the w octets of n, most significant first; n is taken modulo 256 ^ w
abbrev pub be : ℕ → ℕ → List ℕ
be zero n = []
be (suc w) n = n / 256 ^ w % 256 ∷ be w n

-- the number of the w octets of xs from k on
abbrev pub num : ℕ → List ℕ → ℕ → ℕ
num zero xs k = 0
num (suc w) xs k = get_or xs k 0 * 256 ^ w + num w xs (k + 1)

-- the w octets of xs from k on, one by one
abbrev pub octets_at : ℕ → List ℕ → ℕ → List ℕ
octets_at zero xs k = []
octets_at (suc w) xs k = get_or xs k 0 ∷ octets_at w xs (k + 1)

-- every element is an octet (past the end the default 0 stands, which is one)
pub record Octets (xs : List ℕ) : Type 0 where
  pub at : (i : ℕ) → get_or xs i 0 < 256

pub be_length : (w n : ℕ) → length (be w n) ≡ w
be_length zero n = refl
be_length (suc w) n = ap suc (be_length w n)

-- std's `to_be_bytes` of a number of 32 bits
pub be_bytes : (n : ℕ) → to_be_bytes w32 n ≡ be 4 n
be_bytes n =
    let last : n % 256 ≡ n / 1 % 256 = omega arith in
    λ i. n / 16777216 % 256 ∷ n / 65536 % 256 ∷ n / 256 % 256 ∷ last i ∷ []

pub pow_positive : (w : ℕ) → 0 < 256 ^ w
pow_positive zero = lit< tt
pow_positive (suc w) = rw (pow-succ' 256 w) (omega (arith, pow_positive w))

pub num_lt : {xs : List ℕ} → Octets xs → (w k : ℕ) → num w xs k < 256 ^ w
num_lt o zero k = lit< tt
num_lt {xs} o (suc w) k = rw (pow-succ' 256 w) (digits_lt (o.at k) (num_lt o w (k + 1)))

-- what stands above the w octets does not count
be_above : (w a n : ℕ) → be w (a * 256 ^ w + n) ≡ be w n
be_above zero a n = refl
be_above (suc w) a n =
    let e : a * 256 ^ suc w + n ≡ a * 256 * 256 ^ w + n = ap (λ (x : ℕ). x + n) (ap (λ (x : ℕ). a * x) (pow-succ' 256 w) ∙ sym (mul_assoc a 256 (256 ^ w))) in
    let h : (a * 256 * 256 ^ w + n) / 256 ^ w % 256 ≡ n / 256 ^ w % 256 =
    ap (λ (x : ℕ). x % 256) (mul-add-div_right (pow_positive w) (a * 256) n) ∙ mul-add-mod_self_right a 256 (n / 256 ^ w) in
    ap (be (suc w)) e ∙ (λ i. h i ∷ be_above w (a * 256) n i)

-- octets read from the place where a number was written give the number
pub num_be : (w n : ℕ) (a r : List ℕ) → num w (a ++ (be w n ++ r)) (length a) ≡ n % 256 ^ w
num_be zero n a r = sym (omega arith)
num_be (suc w) n a r =
    let o : ℕ = n / 256 ^ w % 256 in
    let shift : a ++ (o ∷ (be w n ++ r)) ≡ (a ++ (o ∷ [])) ++ (be w n ++ r) = sym (append_assoc a (o ∷ []) (be w n ++ r)) in
    let far : length (a ++ (o ∷ [])) ≡ length a + 1 = length-append a (o ∷ []) in
    let rest : num w (a ++ (o ∷ (be w n ++ r))) (length a + 1) ≡ n % 256 ^ w =
    ap (λ (xs : List ℕ). num w xs (length a + 1)) shift ∙ ap (num w ((a ++ (o ∷ [])) ++ (be w n ++ r))) (sym far) ∙ num_be w n (a ++ (o ∷ [])) r in
    (λ i. get_or-append_seam a o (be w n ++ r) 0 i * 256 ^ w + rest i) ∙ sym (mod-mul n (lit< tt) (pow_positive w)) ∙ ap (λ (x : ℕ). n % x) (sym (pow-succ' 256 w))

-- a number read from some octets is written as these octets
pub be_num : {xs : List ℕ} → Octets xs → (w k : ℕ) → k + w ≤ length xs → be w (num w xs k) ++ drop (k + w) xs ≡ drop k xs
be_num {xs} o zero k h = ap (λ (x : ℕ). drop x xs) (add-zero k)
be_num {xs} o (suc w) k h =
    let x : ℕ = get_or xs k 0 in
    let m : ℕ = num w xs (k + 1) in
    let head : (x * 256 ^ w + m) / 256 ^ w % 256 ≡ x = ap (λ (y : ℕ). y % 256) (digits_div x (num_lt o w (k + 1))) ∙ mod-eq_of_lt (o.at k) in
    let place : k + suc w ≡ k + 1 + w = omega arith in
    let tail : be w (x * 256 ^ w + m) ++ drop (k + suc w) xs ≡ drop (k + 1) xs =
    (λ i. be_above w x m i ++ drop (place i) xs) ∙ be_num o w (k + 1) (omega arith) in
    (λ i. head i ∷ tail i) ∙ ap (λ (y : ℕ). x ∷ drop y xs) (add-one k) ∙ sym (drop-cons xs k 0 (omega arith))

pub octets_drop : {xs : List ℕ} (n : ℕ) → Octets xs → Octets (drop n xs)
octets_drop {xs} n o = record { at = λ i. rw (get_or-drop n xs i 0) (o.at (n + i)) }

pub octets_take : {xs : List ℕ} (n : ℕ) → Octets xs → Octets (take n xs)
octets_take {xs} n o = record { at = λ i. within i (dec_lt i n) }
  where
    within : (i : ℕ) → Dec (i < n) → get_or (take n xs) i 0 < 256
    within i (yes h) = rw (get_or-take n xs i 0 h) (o.at i)
    within i (no h) = rw (get_or-eq_default (take n xs) 0 {n = i} (rw (length-take n xs) (omega arith))) (lit< tt)

pub octets_nil : Octets []
octets_nil = record { at = λ i. lit< tt }

pub octets_cons : {x : ℕ} {xs : List ℕ} → x < 256 → Octets xs → Octets (x ∷ xs)
octets_cons {x} {xs} h o = record { at = place }
  where
    place : (i : ℕ) → get_or (x ∷ xs) i 0 < 256
    place zero = h
    place (suc i) = o.at i

pub octets_append : (xs : List ℕ) {ys : List ℕ} → Octets xs → Octets ys → Octets (xs ++ ys)
octets_append [] o p = p
octets_append (x ∷ xs) o p = octets_cons (o.at 0) (octets_append xs (record { at = λ i. o.at (suc i) }) p)

pub octets_be : (w n : ℕ) → Octets (be w n)
octets_be zero n = octets_nil
octets_be (suc w) n = octets_cons (mod-lt (n / 256 ^ w) (lit< tt)) (octets_be w n)

-- octets that are taken one by one, put before the rest again
pub octets_at_lem : (w : ℕ) (xs : List ℕ) (k : ℕ) → k + w ≤ length xs → octets_at w xs k ++ drop (k + w) xs ≡ drop k xs
octets_at_lem zero xs k h = ap (λ (n : ℕ). drop n xs) (add-zero k)
octets_at_lem (suc w) xs k h =
    let place : k + suc w ≡ k + 1 + w = omega arith in
    (λ i. get_or xs k 0 ∷ (octets_at w xs (k + 1) ++ drop (place i) xs))
    ∙ ap (λ (l : List ℕ). get_or xs k 0 ∷ l) (octets_at_lem w xs (k + 1) (omega arith) ∙ ap (λ (n : ℕ). drop n xs) (add-one k))
    ∙ sym (drop-cons xs k 0 (omega arith))

-- all of a list's octets are the list
pub octets_all : (w : ℕ) (xs : List ℕ) → length xs ≡ w → octets_at w xs 0 ≡ xs
octets_all w xs e =
    let z : 0 + w ≡ w = omega arith in
    sym (append-nil (octets_at w xs 0))
    ∙ ap (λ (l : List ℕ). octets_at w xs 0 ++ l) (sym (ap (λ (n : ℕ). drop n xs) z ∙ drop_of_length-le xs {i = w} (omega arith)))
    ∙ octets_at_lem w xs 0 (omega arith)

pub octets_at_length : (w : ℕ) (xs : List ℕ) (k : ℕ) → length (octets_at w xs k) ≡ w
octets_at_length zero xs k = refl
octets_at_length (suc w) xs k = ap suc (octets_at_length w xs (k + 1))

-- one of them
pub octets_at_at : (w : ℕ) (xs : List ℕ) (k j : ℕ) → j < w → get_or (octets_at w xs k) j 0 ≡ get_or xs (k + j) 0
octets_at_at zero xs k j h = absurd (omega arith)
octets_at_at (suc w) xs k zero h = ap (λ (n : ℕ). get_or xs n 0) (sym (add-zero k))
octets_at_at (suc w) xs k (suc j) h =
    let e : k + 1 + j ≡ k + suc j = omega arith in
    octets_at_at w xs (k + 1) j (omega arith) ∙ ap (λ (n : ℕ). get_or xs n 0) e

-- all of them, as a part of the list
pub octets_at_taken : (w : ℕ) (xs : List ℕ) (k : ℕ) → k + w ≤ length xs → take w (drop k xs) ≡ octets_at w xs k
octets_at_taken w xs k h =
    sym (ap (take w) (octets_at_lem w xs k h)) ∙ take_at (octets_at w xs k) (drop (k + w) xs) w (octets_at_length w xs k)

pub octets_at_octets : (w : ℕ) {xs : List ℕ} (k : ℕ) → Octets xs → Octets (octets_at w xs k)
octets_at_octets zero k o = octets_nil
octets_at_octets (suc w) k o = octets_cons (o.at k) (octets_at_octets w (k + 1) o)
