-- `wording::lost::lay_lost` meets its contract: the words stand behind the number. Assumes nothing.
use Rattle.std.proofs.Common.{sym, arith}
use Rattle.wording.specs.Laid.{laid_then, laid_of}
use Rattle.wording.specs.Numbered.{start}
use Rattle.wording.specs.Lost.{lost_words}
use Rattle.wording.proofs.lost.lay_lost.Goals as goal

pub returns : goal.returns
unfolding lost_words
returns c = laid_then (omega (arith, c.requires)) (laid_of start (sym c.from.ensures) c.lay_start-a.ensures.0) c.lay_phrase.ensures
