use Rattle.std.proofs.Common.{sym, subst, ◌∙◌, arith, add-one, take_all}
use Rattle.recordorder.specs.At.{comes_before, comes_before_total}
use Rattle.multisets.specs.Passing.{Sorted}
use Rattle.multisets.specs.Merge.{sorted_more, sorted_short}
use Rattle.sorting.proofs.is_in_order.Goals as goal

pub loop-i-init : goal.loop-i-init
loop-i-init c = let a = c.args in sorted_short (comes_before a.file.now) a.offsets.now

pub loop-i-preserved : goal.loop-i-preserved
loop-i-preserved c =
    let a = c.args in
    let l = c.loop-i in
    rw add-one (sorted_more (comes_before a.file.now) (comes_before_total a.file.now) a.offsets.now l.i (omega arith) (omega arith) l.invariant (sym c.is_before.ensures ∙ c.if-is_before.false))

pub returns : goal.returns
returns c =
    let a = c.args in
    λ _. subst (Sorted (comes_before a.file.now)) (take_all c.loop-i.i a.offsets.now (omega arith)) c.loop-i.invariant
