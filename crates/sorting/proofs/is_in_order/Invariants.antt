-- `sorting::is_in_order` meets its contract: the first i offsets are in order.
use Rattle.std.proofs.Common.{take}
use Rattle.recordorder.specs.At.{comes_before}
use Rattle.multisets.specs.Passing.{Sorted}
use Rattle.sorting.proofs.is_in_order.Given as goal

abbrev pub invariant-loop-i : goal.invariant-loop-i
invariant-loop-i l = Sorted (comes_before l.file) (take l.i l.offsets)
