-- `filename::spelling::put_private` meets its contract: its two cases are the definition's. Assumes nothing.
use mathlib.Core.Path.{refl, sym, ap, ◌∙◌}
use mathlib.Core.List.{List, [], ◌∷◌}
use Prim.Native.Nat.{ℕ, ◌+◌}
use native.Mathlib.Omega.{arith}
use lib.ListN.{length}
use Rattle.octets.specs.Splice.{splice, splice_then, splice_nil}
use Rattle.filename.specs.Cases.{private_there, private_none}
use Rattle.filename.proofs.spelling.put_private.Goals as goal

pub returns-then-has-eq1 : goal.returns-then-has-eq1
returns-then-has-eq1 c =
    let a = c.args in
    let there = private_there a.has a.private.now c.if-has-eq1.true in
    let n = ap length there in
    c.copy-then-has-eq1.ensures
    ∙ ap (λ (o : List ℕ). splice o (a.at + 1) a.private.now) c.copy.ensures
    ∙ splice_then a.output.now a.at (46 ∷ []) (omega (arith, c.requires)) a.private.now (a.at + 1) refl
    ∙ ap (splice a.output.now a.at) (sym there)

pub returns-else-has-eq1 : goal.returns-else-has-eq1
returns-else-has-eq1 c =
    let a = c.args in
    sym (ap (splice a.output.now a.at) (private_none a.has a.private.now c.if-has-eq1.false) ∙ splice_nil a.output.now a.at)
