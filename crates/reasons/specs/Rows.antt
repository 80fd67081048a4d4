-- Numbers that have words: a list of rows, and other words for a number that has none. Assumes nothing.
use Rattle.std.specs.Prelude.{◌≡◌, refl, Bool, cond, List, [], ◌∷◌, ℕ, eqb}
use Rattle.std.proofs.Common.{ap, ◌∙◌, ne_eqb}
use Prim.Native.String.{String}
use Rattle.numerals.specs.Text.{ascii}

pub record Row : Type 0 where
  pub number : ℕ
  pub words : String

infix 70 ◌is◌
abbrev pub ◌is◌ : ℕ → String → Row
n is s = record { number = n; words = s }

abbrev pub words_for : ℕ → List Row → List ℕ → List ℕ
words_for n [] others = others
words_for n (row ∷ rows) others = cond (eqb n row.number) (ascii row.words) (words_for n rows others)

-- a number that has none
abbrev pub NoRow : ℕ → List Row → Type 0
NoRow n [] = Unit {0}
NoRow n (row ∷ rows) = (n ≡ row.number → ⊥) × NoRow n rows

pub no_row : (n : ℕ) (rows : List Row) (others : List ℕ) → NoRow n rows → words_for n rows others ≡ others
no_row n [] others h = refl
no_row n (row ∷ rows) others h =
    ap (λ (b : Bool). cond b (ascii row.words) (words_for n rows others)) (ne_eqb n row.number h.0) ∙ no_row n rows others h.1
