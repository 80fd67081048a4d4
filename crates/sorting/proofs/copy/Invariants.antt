-- `sorting::copy` meets its contract: the first i stand copied.
use Rattle.std.proofs.Common.{◌≡◌, take}
use Rattle.sorting.proofs.copy.Given as goal

abbrev pub invariant-loop-i : goal.invariant-loop-i
invariant-loop-i l = take l.i l.to ≡ take l.i l.from
