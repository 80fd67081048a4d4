use Rattle.std.proofs.Common.{◌<◌, List, [], ◌∷◌, ◌++◌, ℕ, length, refl, sym, ap, ◌∙◌, add-one, arith, take_all}
use Rattle.std.proofs.Math.ListN.{get_or}
use Rattle.std.proofs.Math.Seq.{take-suc, take-suc-set}
use Rattle.sorting.proofs.copy.Goals as goal

pub loop-i-init : goal.loop-i-init
loop-i-init c = refl

pub loop-i-preserved : goal.loop-i-preserved
loop-i-preserved c =
    let l = c.loop-i in
    let a = c.args in
    let h : l.i < length l.to = omega arith in
    rw add-one (take-suc-set l.to l.i _ h ∙ ap (λ (t : List ℕ). t ++ (get_or a.from.now l.i 0 ∷ [])) l.invariant ∙ sym (take-suc a.from.now l.i 0 (omega arith)))

pub returns : goal.returns
returns c =
    let l = c.loop-i in
    let a = c.args in
    sym (take_all l.i l.to (omega arith)) ∙ l.invariant ∙ take_all l.i a.from.now (omega arith)
