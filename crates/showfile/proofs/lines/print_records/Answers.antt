-- `showfile::lines::print_records` is safe: a record that the step finds lies within the file, so the offset behind it fits. Assumes nothing.
use Rattle.std.proofs.Common.{◌+◌, ◌≤◌, length, drop, arith, length-drop}
use Rattle.record.specs.Step.{Taken, taken}
use Rattle.showfile.proofs.lines.print_records.Goals as goal
use Rattle.showfile.proofs.lines.print_records.Goals.{Else-s-ne0}

-- the record at the offset lies within the file
inside_file : (c : Else-s-ne0)
    → c.loop-index.at + (c.step_at-s.result.header + c.step_at-s.result.body) ≤ length c.args.file.now
inside_file c =
    let at = c.loop-index.at in
    let file = c.args.file.now in
    let found : Taken (drop at file) c.step_at-s.result = taken _ _ c.step_at-s.ensures c.if-s-ne0.false in
    omega (arith, found.within, found.some, length-drop at file)

pub overflow_add-at : goal.overflow_add-at
overflow_add-at c = omega (arith, inside_file (goal.at.overflow_add-at c).Else-s-ne0)

pub overflow_add-at-in-loop-index : goal.overflow_add-at-in-loop-index
overflow_add-at-in-loop-index c = omega (arith, inside_file (goal.at.overflow_add-at-in-loop-index c).Else-s-ne0)
