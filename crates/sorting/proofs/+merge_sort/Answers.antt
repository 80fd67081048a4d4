-- `sorting::merge_sort` meets its contract: the two parts are lent, sorted and put back; where the second begins before the end of the first, they are
-- merged.
use Rattle.std.proofs.Common.{◌/◌, sym, ◌∙◌, arith, length}
use Rattle.recordorder.specs.At.{comes_before, comes_before_total}
use Rattle.multisets.specs.Merge.{arranged_short}
use Rattle.sorting.specs.Halves.{halves, halves_stand}
use Rattle.sorting.proofs.+merge_sort.Goals as goal

pub returns-then-n-lt2 : goal.returns-then-n-lt2
returns-then-n-lt2 t c = arranged_short _ c.args.offsets.now (omega arith)

pub returns-then-is_before : goal.returns-then-is_before
returns-then-is_before t c =
    let file = c.args.file.now in
    let was = c.args.offsets.now in
    halves (comes_before file) (comes_before_total file) was (length was / 2) (omega arith) c.merge_sort.new.offsets c.merge_sort-2.new.offsets c.merge_sort.ensures c.merge_sort-2.ensures c.join.new.offsets c.join.ensures

pub returns-else-is_before : goal.returns-else-is_before
returns-else-is_before t c =
    let file = c.args.file.now in
    let was = c.args.offsets.now in
    halves_stand (comes_before file) (comes_before_total file) was (length was / 2) (omega arith) c.merge_sort.new.offsets c.merge_sort-2.new.offsets c.merge_sort.ensures c.merge_sort-2.ensures (omega arith) (omega arith) (sym c.is_before.ensures ∙ c.if-is_before.false)
