-- `sharing::count_both` meets its contract: n are counted, and what is left of the two lists gives the rest.
use Rattle.std.specs.Prelude.{map, ◌+◌, ◌≤◌, length}
use Rattle.recordorder.specs.At.{record_at}
use Rattle.multisets.specs.InBoth.{stepwise}
use Rattle.sharing.specs.Counting.{same_octets, Counting}
use Rattle.sharing.proofs.count_both.Given as goal

abbrev pub invariant-loop-x : goal.invariant-loop-x
invariant-loop-x l =
    record {
      few : l.n + length l.x ≤ length l.initial.x;
      counting : Counting (record_at l.f) (record_at l.g) l.n l.x l.y (stepwise same_octets (map (record_at l.f) l.initial.x) (map (record_at l.g) l.initial.y));
    }

abbrev pub decreases-loop-x : goal.decreases-loop-x
decreases-loop-x l = length l.x + length l.y
