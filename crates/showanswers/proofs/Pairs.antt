-- Octets from their digits, two each. Assumes nothing.
use Rattle.std.proofs.Common.{◌≡◌, refl, sym, ap, ◌∙◌, arith, add-one, List, [], ◌∷◌, ◌++◌, ℕ, zero, suc, ◌+◌, ◌*◌, ◌/◌, ◌%◌, ◌<◌, ◌≤◌, length, length-drop, set, take, drop, drop-drop, take-add, take-suc-set, take_all, get_or}
use Rattle.std.specs.Simd.{first_chunks}
use Rattle.numerals.specs.Hexadecimal.{hex_digit, hex_of, hex_then}

chunk_at : (k i : ℕ) (xs : List ℕ) → i < k → get_or (first_chunks 2 k xs) i [] ≡ take 2 (drop (i + i) xs)
chunk_at zero i xs h = absurd (omega (arith, h))
chunk_at (suc k) zero xs h = refl
chunk_at (suc k) (suc i) xs h =
    chunk_at k i (drop 2 xs) (omega (arith, h)) ∙ ap (take 2) (drop-drop (i + i) 2 xs ∙ ap (λ (n : ℕ). drop n xs) (omega arith))

two : (ys : List ℕ) → 2 ≤ length ys → take 2 ys ≡ get_or (take 2 ys) 0 0 ∷ get_or (take 2 ys) 1 0 ∷ []
two [] h = absurd (omega (arith, h))
two (x ∷ []) h = absurd (omega (arith, h))
two (x ∷ y ∷ ys) h = refl

high : (h l : ℕ) → l < 16 → (h * 16 + l) / 16 ≡ h
high h l b = omega (arith, b)

low : (h l : ℕ) → l < 16 → (h * 16 + l) % 16 ≡ l
low h l b = omega (arith, b)

-- an octet more
pub octet_more : (xs ys : List ℕ) (i h l : ℕ) → i < length xs → i < length ys / 2 → l < 16 → get_or (get_or (first_chunks 2 (length ys / 2) ys) i []) 0 0 ≡ hex_digit h → get_or (get_or (first_chunks 2 (length ys / 2) ys) i []) 1 0 ≡ hex_digit l → hex_of (take i xs) ≡ take (i + i) ys → hex_of (take (i + 1) (set xs i (h * 16 + l))) ≡ take (i + 1 + (i + 1)) ys
octet_more xs ys i h l inside some b one other w =
    let v : ℕ = h * 16 + l in
    let pair = chunk_at (length ys / 2) i ys some in
    let front : get_or (take 2 (drop (i + i) ys)) 0 0 ≡ hex_digit h = ap (λ (p : List ℕ). get_or p 0 0) (sym pair) ∙ one in
    let back : get_or (take 2 (drop (i + i) ys)) 1 0 ≡ hex_digit l = ap (λ (p : List ℕ). get_or p 1 0) (sym pair) ∙ other in
    let right : take (i + 1 + (i + 1)) ys ≡ take (i + i) ys ++ (hex_digit h ∷ hex_digit l ∷ []) =
    ap (λ (n : ℕ). take n ys) (omega arith) ∙ take-add (i + i) 2 ys
    ∙ ap (λ (p : List ℕ). take (i + i) ys ++ p) (two (drop (i + i) ys) (omega (arith, length-drop (i + i) ys, some)) ∙ ap (λ (n : ℕ). n ∷ get_or (take 2 (drop (i + i) ys)) 1 0 ∷ []) front ∙ ap (λ (n : ℕ). hex_digit h ∷ n ∷ []) back) in
    ap (λ (n : ℕ). hex_of (take n (set xs i v))) (add-one i) ∙ ap hex_of (take-suc-set xs i v inside) ∙ hex_then (take i xs) (v ∷ [])
    ∙ ap (λ (p : List ℕ). p ++ (hex_digit (v / 16) ∷ hex_digit (v % 16) ∷ [])) w
    ∙ ap (λ (n : ℕ). take (i + i) ys ++ (hex_digit n ∷ hex_digit (v % 16) ∷ [])) (high h l b)
    ∙ ap (λ (n : ℕ). take (i + i) ys ++ (hex_digit h ∷ hex_digit n ∷ [])) (low h l b)
    ∙ sym right

-- all octets
pub all_octets : (xs ys : List ℕ) (i : ℕ) → length xs ≤ i → length ys ≤ i + i → hex_of (take i xs) ≡ take (i + i) ys → hex_of xs ≡ ys
all_octets xs ys i h k w = ap hex_of (sym (take_all i xs h)) ∙ w ∙ take_all (i + i) ys k

-- a line that begins with an octet
pub begins : (xs ys : List ℕ) (x : ℕ) → 1 ≤ length xs → get_or xs 0 0 ≡ x → ys ≡ drop 1 xs → xs ≡ x ∷ ys
begins [] ys x h e d = absurd (omega (arith, h))
begins (y ∷ xs) ys x h e d = ap (λ (n : ℕ). n ∷ xs) e ∙ ap (λ (l : List ℕ). x ∷ l) (sym d)
