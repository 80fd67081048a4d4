-- `placing::Target::close_if` meets its contract: where no file closes nothing is written. Assumes nothing.
use Rattle.std.proofs.Common.{sym}
use Rattle.octets.specs.Splice.{splice_nil}
use Rattle.placing.proofs.Target.close_if.Goals as goal

pub returns-in_default : goal.returns-in_default
returns-in_default c = rw c.in_default.is (sym (splice_nil _ _))
