-- `settings::sets::follows` meets its contract: the set time before stands four octets before. Assumes nothing.
use Rattle.settings.specs.Sets.{follows_first, follows_made}
use Rattle.settings.proofs.sets.follows.Goals as goal

pub returns-then-j-eq0 : goal.returns-then-j-eq0
returns-then-j-eq0 c = let a = c.args in follows_first a.octets.now a.j c.if-j-eq0.true

pub returns : goal.returns
returns c =
    follows_made c.args.octets.now c.args.j c.requires.0 c.if-j-eq0.false c.num-before.ensures c.num-minute.ensures
