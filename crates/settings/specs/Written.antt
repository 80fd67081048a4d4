-- The words that settings make (words, Words.antt), straight from their octets: four octets of a filter or of the address are the word that
-- they spell as a number. Assumes nothing.
use Rattle.std.specs.Prelude.{◌≡◌, List, [], ◌∷◌, ℕ, ◌+◌, ◌/◌, ◌%◌, ◌<◌, get_or}
use Rattle.std.proofs.Common.{sym, ap, ◌∙◌, arith}
use Rattle.octets.specs.Number.{num, octets_at, octets_at_at}
use Rattle.words.specs.Words.{packed, four_at, five_words, route_words, node_words}
use Rattle.settings.specs.Settings.{route_from, node_from}

-- four octets as a word and as a number
spelled : (xs : List ℕ) (k : ℕ) → four_at xs k ≡ num 4 xs k
spelled xs k =
    let e : k + 2 ≡ k + 1 + 1 = omega arith in
    let f : k + 3 ≡ k + 1 + 1 + 1 = omega arith in
    let at : ℕ → ℕ = λ (n : ℕ). get_or xs n 0 in
    let same : packed (at k) (at (k + 1)) (at (k + 1 + 1)) (at (k + 1 + 1 + 1)) ≡ num 4 xs k = omega arith in
    (λ i. packed (at k) (at (k + 1)) (at (e i)) (at (f i))) ∙ same

pub four_spelled : (w : ℕ) (xs : List ℕ) (k j : ℕ) → j + 3 < w → four_at (octets_at w xs k) j ≡ num 4 xs (k + j)
four_spelled w xs k j h =
    let at : ℕ → ℕ = λ (n : ℕ). get_or xs n 0 in
    let b : k + (j + 1) ≡ k + j + 1 = omega arith in
    let c : k + (j + 2) ≡ k + j + 2 = omega arith in
    let d : k + (j + 3) ≡ k + j + 3 = omega arith in
    (λ i. packed
    (octets_at_at w xs k j (omega arith) i)
    ((octets_at_at w xs k (j + 1) (omega arith) ∙ ap at b) i)
    ((octets_at_at w xs k (j + 2) (omega arith) ∙ ap at c) i)
    ((octets_at_at w xs k (j + 3) h ∙ ap at d) i))
    ∙ spelled xs (k + j)

-- What the code puts together: a filter's words, a fresh route's, and the node's.
pub filter_made : (xs : List ℕ) (k : ℕ) {a b c d e : ℕ}
    → a ≡ num 4 xs k
    → b ≡ num 4 xs (k + 4)
    → c ≡ num 4 xs (k + 8)
    → d ≡ num 4 xs (k + 12)
    → e ≡ num 4 xs (k + 16)
    → (a ∷ b ∷ c ∷ d ∷ e ∷ []) ≡ five_words (octets_at 20 xs k)
filter_made xs k ea eb ec ed ee =
    let z : k ≡ k + 0 = omega arith in
    λ i.
    (ea ∙ ap (num 4 xs) z ∙ sym (four_spelled 20 xs k 0 (omega arith))) i
    ∷ (eb ∙ sym (four_spelled 20 xs k 4 (omega arith))) i
    ∷ (ec ∙ sym (four_spelled 20 xs k 8 (omega arith))) i
    ∷ (ed ∙ sym (four_spelled 20 xs k 12 (omega arith))) i
    ∷ (ee ∙ sym (four_spelled 20 xs k 16 (omega arith))) i
    ∷ []

pub route_made : (xs : List ℕ) (k : ℕ) {f : List ℕ} {configured limit age most next flag : ℕ}
    → f ≡ five_words (octets_at 20 xs (k + 2))
    → configured ≡ packed (get_or xs (k + 1) 0) (get_or xs (k + 35) 0 / 32) (get_or xs (k + 36) 0) (get_or xs (k + 35) 0 % 32)
    → limit ≡ num 4 xs (k + 22)
    → age ≡ num 4 xs (k + 26)
    → most ≡ num 4 xs (k + 30)
    → next ≡ num 4 xs (k + 37)
    → flag ≡ packed (get_or xs (k + 34) 0) 0 0 0
    → (get_or f 0 0 ∷ get_or f 1 0 ∷ get_or f 2 0 ∷ get_or f 3 0 ∷ get_or f 4 0 ∷ configured ∷ limit ∷ age ∷ most ∷ next ∷ 0 ∷ 0 ∷ 0 ∷ 0 ∷ 0 ∷ 0 ∷ flag ∷ 0 ∷ 0 ∷ [])
    ≡ route_words (route_from xs k) []
route_made xs k ef er el eg em en eg' =
    λ i.
    get_or (ef i) 0 0
    ∷ get_or (ef i) 1 0
    ∷ get_or (ef i) 2 0
    ∷ get_or (ef i) 3 0
    ∷ get_or (ef i) 4 0
    ∷ er i
    ∷ el i
    ∷ eg i
    ∷ em i
    ∷ en i
    ∷ 0
    ∷ 0
    ∷ 0
    ∷ 0
    ∷ 0
    ∷ 0
    ∷ eg' i
    ∷ 0
    ∷ 0
    ∷ []

pub node_made : (xs : List ℕ) (count : ℕ) {a b c d bias : ℕ}
    → a ≡ num 4 xs 1
    → b ≡ num 4 xs 5
    → c ≡ num 4 xs 9
    → d ≡ num 4 xs 13
    → bias ≡ num 2 xs 17
    → (a ∷ b ∷ c ∷ d ∷ bias ∷ count ∷ []) ≡ node_words (node_from xs) count []
node_made xs count ea eb ec ed ef =
    λ i.
    (ea ∙ sym (four_spelled 16 xs 1 0 (omega arith))) i
    ∷ (eb ∙ sym (four_spelled 16 xs 1 4 (omega arith))) i
    ∷ (ec ∙ sym (four_spelled 16 xs 1 8 (omega arith))) i
    ∷ (ed ∙ sym (four_spelled 16 xs 1 12 (omega arith))) i
    ∷ ef i
    ∷ count
    ∷ []
