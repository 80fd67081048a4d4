-- `judging::filters::are_sums_distinct` meets its contract: before route i the sums of the routes below i stand in their places, and `differ`
-- is the definition's answer for them. Assumes nothing.
use mathlib.Core.Path.{◌≡◌}
use lib.ListN.{length}
use Rattle.judging.specs.Sums.{distinct_sums, SumsOf}
use Rattle.judging.proofs.filters.are_sums_distinct.Given as goal

abbrev pub invariant-loop-i : goal.invariant-loop-i
invariant-loop-i l = record {
  room : length l.sums ≡ 8;
  sums : SumsOf l.words l.sums l.i;
  differ : l.differ ≡ distinct_sums l.words l.i;
}
