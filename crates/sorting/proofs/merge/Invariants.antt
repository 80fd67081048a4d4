-- `sorting::merge` meets its contract: i of the first list and j of the second stand merged.
use Rattle.std.proofs.Common.{◌≡◌, ◌+◌}
use Rattle.recordorder.specs.At.{comes_before}
use Rattle.sorting.specs.Choice.{Merging}
use Rattle.sorting.proofs.merge.Given as goal

abbrev pub invariant-loop-place : goal.invariant-loop-place
invariant-loop-place l = Merging (comes_before l.file) l.x l.y l.out l.i l.j × (l.place-index ≡ l.i + l.j)
