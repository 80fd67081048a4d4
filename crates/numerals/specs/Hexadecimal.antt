-- Octets in hexadecimal: their digits in ASCII, two each, upper case. Assumes nothing.
use Rattle.std.specs.Prelude.{◌≡◌, refl, cond, List, [], ◌∷◌, ◌++◌, ℕ, ◌+◌, ◌/◌, ◌%◌, ◌<◌, ltb, length, get_or, take}
use Rattle.std.proofs.Common.{ap, ◌∙◌, add-one, arith, take-suc}

abbrev pub hex_digit : ℕ → ℕ
hex_digit d = cond (ltb d 10) (48 + d) (55 + d)

abbrev pub hex_of : List ℕ → List ℕ
hex_of [] = []
hex_of (x ∷ xs) = hex_digit (x / 16) ∷ hex_digit (x % 16) ∷ hex_of xs

pub hex_length : (xs : List ℕ) → length (hex_of xs) ≡ length xs + length xs
hex_length [] = refl
hex_length (x ∷ xs) = omega (arith, hex_length xs)

pub hex_then : (xs ys : List ℕ) → hex_of (xs ++ ys) ≡ hex_of xs ++ hex_of ys
hex_then [] ys = refl
hex_then (x ∷ xs) ys = ap (λ (l : List ℕ). hex_digit (x / 16) ∷ hex_digit (x % 16) ∷ l) (hex_then xs ys)

-- the digits of one octet more
pub hex_more : (xs : List ℕ) (i : ℕ) → i < length xs → hex_of (take (i + 1) xs) ≡ hex_of (take i xs) ++ hex_of (get_or xs i 0 ∷ [])
hex_more xs i h =
    ap (λ (k : ℕ). hex_of (take k xs)) (add-one i) ∙ ap hex_of (take-suc xs i 0 h) ∙ hex_then (take i xs) (get_or xs i 0 ∷ [])
