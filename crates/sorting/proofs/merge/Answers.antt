use Rattle.std.proofs.Common.{refl, sym, ◌∙◌, arith, ◌+◌, ◌<◌, length}
use Rattle.recordorder.specs.At.{comes_before}
use Rattle.sorting.specs.Choice.{merging_none, merging_second, merging_first, merging_end}
use Rattle.sorting.proofs.merge.Goals as goal
use Rattle.sorting.proofs.merge.Goals.{then-takes_second, else-takes_second}

pub loop-place-init : goal.loop-place-init
loop-place-init c = let a = c.args in (merging_none (comes_before a.file.now) a.x.now a.y.now a.out.now c.requires, refl)

pub loop-place-preserved : goal.loop-place-preserved
loop-place-preserved c =
    let a = c.args in
    let l = c.loop-place in
    let o = c.takes_second.ensures in
    let m = l.invariant.0 in
    let some : l.i + l.j < length l.out = omega arith in
    elim c.if-takes_second.branch [
      | then-takes_second w ↦ rw (w.out-is, w.i-is, w.j-is, l.invariant.1)
          (merging_second (comes_before a.file.now) a.x.now a.y.now l.out l.i l.j m some (sym o.is ∙ w.if-takes_second.true) (o.second w.if-takes_second.true), omega arith)
      | else-takes_second w ↦ rw (w.out-is, w.i-is, w.j-is, l.invariant.1)
          (merging_first (comes_before a.file.now) a.x.now a.y.now l.out l.i l.j m some (sym o.is ∙ w.if-takes_second.false) (o.first w.if-takes_second.false), omega arith)
    ]

pub returns : goal.returns
returns c =
    let a = c.args in
    let l = c.loop-place in
    merging_end (comes_before a.file.now) a.x.now a.y.now l.out l.i l.j l.invariant.0 (omega arith)
