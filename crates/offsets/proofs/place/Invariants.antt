-- `offsets::place` meets its contract: n offsets stand written, and the next record begins at `at`.
use Rattle.offsets.specs.Offsets.{Placing}
use Rattle.offsets.proofs.place.Given as goal

abbrev pub invariant-loop-n : goal.invariant-loop-n
invariant-loop-n l = Placing l.file l.from l.out l.n l.at
