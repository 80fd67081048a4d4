-- `manager::ticking::tick` meets its contract: words of another number than a state has are refused. Assumes nothing.
use Rattle.events.specs.Events.{tick_of}
use Rattle.events.specs.Lent.{tick_on}
use Rattle.events.specs.Ways.{other_number}
use Rattle.manager.proofs.ticking.tick.Goals as goal

pub returns-in_default : goal.returns-in_default
unfolding tick_on
returns-in_default c =
    let a = c.args in
    other_number a.words.now a.store.now a.output.now (λ m. tick_of m a.store.now a.output.now a.time) c.in_default.ensures.cases c.refuse.ensures
