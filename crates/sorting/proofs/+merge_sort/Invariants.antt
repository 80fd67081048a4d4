-- The measure of the calls of `sorting::merge_sort` is the number of offsets.
use Rattle.std.proofs.Common.{length}
use Rattle.sorting.proofs.+merge_sort.Given as goal

abbrev pub decreases-merge_sort : goal.decreases-merge_sort
decreases-merge_sort l = length l.offsets.now
