-- `batch::take_all` meets its contract: before each record what is answered and left in all is what those before it were answered and left, and
-- what comes of the others. Assumes nothing.
use Rattle.batch.specs.Taking.{Taking}
use Rattle.batch.proofs.take_all.Given as goal

abbrev pub invariant-loop-i : goal.invariant-loop-i
invariant-loop-i l = Taking l.packet l.n l.initial.words l.initial.store l.initial.output l.words l.store l.output l.r l.at l.used l.i
