-- `sorting::arrange` meets its contract: offsets in order stay as they stand, and std sorts by the order of the records.
use Rattle.std.proofs.Common.{◌≡◌, rules}
use Rattle.std.proofs.lemmas.Fn.{always_returns_same}
use Rattle.std.specs.Ordering.{is_lt}
use Rattle.recordorder.specs.At.{comes_before, comes_before_total}
use Rattle.sorting.specs.Sorted.{ranks, arranged, is_less}
use Rattle.sorting.proofs.arrange.Goals as goal

pub returns-then-is_falling : goal.returns-then-is_falling
returns-then-is_falling c =
    let file = c.args.file.now in
    let s = c.sort_unstable_by in
    arranged (comes_before file) (comes_before_total file) c.args.offsets.now s.new.self s.ensures.permutation
    (s.ensures.sorted (comes_before file) (ranks (comes_before file) (comes_before_total file)) (always_returns_same _ (λ a r. is_lt r ≡ comes_before file a.0.now a.1.0.now) _ (λ a r f k. search (rules, is_less))))
