-- `judging::filters::same_filter` meets its contract: octets are the same exactly where their words are. Assumes nothing.
use mathlib.Core.Path.{◌≡◌, refl, ◌∙◌}
use mathlib.Core.Bool.{◌&&◌, and-true}
use mathlib.Core.List.{List, [], ◌∷◌}
use Prim.Native.Nat.{ℕ, ◌≤◌}
use native.Mathlib.Omega.{arith}
use lib.Dec.{eqb}
use lib.ListN.{length, get_or, take}
use lib.Pointwise.{pointwise}
use Rattle.words.specs.Laws.{same_words}
use Rattle.judging.proofs.filters.same_filter.Goals as goal

-- five words, one by one
five : (xs : List ℕ) → 5 ≤ length xs → take 5 xs ≡ (get_or xs 0 0 ∷ get_or xs 1 0 ∷ get_or xs 2 0 ∷ get_or xs 3 0 ∷ get_or xs 4 0 ∷ [])
five [] h = absurd (omega arith)
five (a ∷ []) h = absurd (omega arith)
five (a ∷ b ∷ []) h = absurd (omega arith)
five (a ∷ b ∷ c ∷ []) h = absurd (omega arith)
five (a ∷ b ∷ c ∷ d ∷ []) h = absurd (omega arith)
five (a ∷ b ∷ c ∷ d ∷ e ∷ xs) h = refl

same_five : (xs ys : List ℕ) → 5 ≤ length xs → 5 ≤ length ys → pointwise eqb (take 5 xs) (take 5 ys)
    ≡ (eqb (get_or xs 0 0) (get_or ys 0 0) && (eqb (get_or xs 1 0) (get_or ys 1 0) && (eqb (get_or xs 2 0) (get_or ys 2 0) && (eqb (get_or xs 3 0) (get_or ys 3 0) && eqb (get_or xs 4 0) (get_or ys 4 0)))))
same_five xs ys h k =
    (λ i. pointwise eqb (five xs h i) (five ys k i))
    ∙ (λ i. eqb (get_or xs 0 0) (get_or ys 0 0) && (eqb (get_or xs 1 0) (get_or ys 1 0) && (eqb (get_or xs 2 0) (get_or ys 2 0) && (eqb (get_or xs 3 0) (get_or ys 3 0) && and-true (eqb (get_or xs 4 0) (get_or ys 4 0)) i))))

pub returns : goal.returns
returns c =
    let a = c.args in
    (λ i. eqb c.top_of.result c.top_of-2.result && (c.eq.ensures ∙ same_five a.a.now a.b.now (omega arith) (omega arith)) i)
    ∙ same_words a.a.now a.b.now c.top_of.ensures c.top_of-2.ensures
