-- `routing::same_first` meets its contract: before word i all octets of the words below i are the same, and more of them count. Assumes nothing.
use Rattle.std.proofs.Common.{◌≡◌, true, ◌*◌}
use Rattle.refusals.specs.Below.{all_below}
use Rattle.routing.specs.Prefix.{same_in}
use Rattle.routing.proofs.same_first.Given as goal

abbrev pub invariant-loop-i : goal.invariant-loop-i
invariant-loop-i l = all_below (same_in l.part l.five) (4 * l.i) ≡ true
