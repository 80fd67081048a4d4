-- `wording::laying::lay_numbered` meets its contract: the words stand behind the number. Assumes nothing.
use Rattle.std.proofs.Common.{arith}
use Rattle.wording.specs.Laid.{laid_then}
use Rattle.wording.proofs.laying.lay_numbered.Goals as goal

pub returns : goal.returns
returns c = laid_then (omega (arith, c.requires)) c.lay_start-a.ensures.0 c.lay.ensures
