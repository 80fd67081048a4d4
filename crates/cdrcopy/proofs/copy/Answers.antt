-- `cdrcopy::copy` is safe: a file that was written fits the output. Assumes nothing.
use mathlib.Core.Path.{◌≡◌, sym, ap, ◌∙◌}
use Prim.Native.Nat.{◌≤◌}
use native.Mathlib.Omega.{arith}
use lib.ListN.{length}
use lib.Seq.{length-take-le}
use Rattle.writer.specs.Writer.{After}
use Rattle.cdrcopy.specs.Rewrite.{rewrite_of, rewrite_fits}
use Rattle.cdrcopy.proofs.copy.Goals as goal
use Rattle.cdrcopy.proofs.copy.Goals.{Else-w-ne0}

-- what was written is no longer than the output
fits : (c : goal.Else-w-ne0) → c.rewrite-w.result.octets ≤ length c.args.output.now
fits c =
    let a = c.args in
    let e = c.rewrite-w.ensures.defined in
    let n : c.rewrite-w.result.octets ≡ (rewrite_of a.file.now a.output.now).answer.octets = ap (λ (s : After). s.answer.octets) e in
    let z : (rewrite_of a.file.now a.output.now).answer.refusal ≡ 0 = ap (λ (s : After). s.answer.refusal) (sym e) ∙ c.if-w-ne0.false in
    omega (arith, rewrite_fits a.file.now a.output.now z)

pub slice_bounds-write_all-end : goal.slice_bounds-write_all-end
slice_bounds-write_all-end c = omega (arith, fits (goal.at.slice_bounds-write_all-end c).Else-w-ne0)

pub slice_bounds-write_all-end-2 : goal.slice_bounds-write_all-end-2
slice_bounds-write_all-end-2 c =
    let written : c.rewrite-w.result.octets ≤ length c.rewrite-w.new.output = omega (arith, fits (goal.at.slice_bounds-write_all-end-2 c).Else-w-ne0) in
    sym (length-take-le c.rewrite-w.result.octets c.rewrite-w.new.output written)
