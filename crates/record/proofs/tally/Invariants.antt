-- `record::tally` meets its contract. The invariant: the records passed are counted, and a walk of the rest from there says
-- what a walk of the whole says. Assumes nothing.
use lib.ListN.{length}
use Rattle.record.specs.Walk.{Walking}
use Rattle.record.proofs.tally.Given as goal

abbrev pub invariant-loop-rest : goal.invariant-loop-rest
invariant-loop-rest l = Walking l.records l.rest l.count l.high l.low

abbrev pub decreases-loop-rest : goal.decreases-loop-rest
decreases-loop-rest l = length l.rest
