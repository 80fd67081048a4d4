-- A word more of a line, and its number. Assumes nothing.
use Rattle.std.proofs.Common.{◌≡◌, sym, ap, ◌∙◌, arith, add-one, List, ◌∷◌, ◌++◌, ℕ, ◌+◌, ◌<◌, length, set, drop, drop_at, get_or-set_other, length-set, slice_get, Some, inl, inr}
use Rattle.std.proofs.lemmas.Bool.{cases_lt}
use Rattle.std.proofs.lemmas.Option.{slice_get-get_or}
use Rattle.std.proofs.lemmas.Grind.{get_or-set_at}
use Rattle.textlines.specs.Words.{word_of}
use Rattle.showanswers.specs.Line.{behind, word_at, printed_number}

-- what is left behind a word more
pub word_taken : (i : ℕ) (xs rest new w : List ℕ) → rest ≡ behind i xs → w ≡ word_of rest → rest ≡ 32 ∷ w ++ new → new ≡ behind (i + 1) xs
word_taken i xs rest new w v e s =
    sym (drop_at (32 ∷ w) new (1 + length w) (omega arith))
    ∙ ap (drop (1 + length w)) (sym s)
    ∙ ap (λ (l : List ℕ). drop (1 + length l) rest) e
    ∙ ap (λ (l : List ℕ). drop (1 + length (word_of l)) l) v
    ∙ ap (λ (k : ℕ). behind k xs) (sym (add-one i))

-- the number written is there
here : (ns : List ℕ) (i k v : ℕ) → i < length ns → k ≡ i → slice_get (set ns i v) k ≡ Some v
here ns i k v l e =
    slice_get-get_or (set ns i v) k v (omega (arith, length-set ns i v, l, e)) ∙ ap Some (get_or-set_at ns i k v v e l)

-- the numbers before it stay
before : (ns : List ℕ) (i k v : ℕ) → i < length ns → k < i → slice_get (set ns i v) k ≡ slice_get ns k
before ns i k v l h =
    slice_get-get_or (set ns i v) k v (omega (arith, length-set ns i v, l, h))
    ∙ ap Some (get_or-set_other ns i k v v (λ e. omega (arith, e, h)))
    ∙ sym (slice_get-get_or ns k v (omega (arith, l, h)))

pub number_taken : (ns xs : List ℕ) (i v : ℕ) → i < length ns → printed_number (word_at i xs) ≡ Some v → ((k : ℕ) → k < i → slice_get ns k ≡ printed_number (word_at k xs)) → (k : ℕ) → k < i + 1 → slice_get (set ns i v) k ≡ printed_number (word_at k xs)
number_taken ns xs i v l e w k h =
    elim (cases_lt k i) [
      | inl b ↦ before ns i k v l b ∙ w k b
      | inr b ↦
          let same : k ≡ i = omega (arith, b, h) in
          here ns i k v l same ∙ sym e ∙ ap (λ (n : ℕ). printed_number (word_at n xs)) (sym same)
    ]
