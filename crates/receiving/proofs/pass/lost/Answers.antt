-- `receiving::pass::lost` meets its contract: its two ways out are the definition's. Assumes nothing.
use mathlib.Core.Path.{refl}
use Rattle.receiving.specs.Told.{lost_refused, lost_done}
use Rattle.receiving.proofs.pass.lost.Goals as goal

pub returns-then-r-eq4294967295 : goal.returns-then-r-eq4294967295
returns-then-r-eq4294967295 c = lost_refused c.requires c.args.t c.args.compared c.if-r-eq4294967295.true refl

pub put-requires : goal.put-requires
put-requires c =
    let p = c.requires in
    (p.there, p.opened)

pub returns : goal.returns
returns c = lost_done c.requires c.args.t c.args.compared c.if-r-eq4294967295.false refl c.accept.ensures c.put.ensures
