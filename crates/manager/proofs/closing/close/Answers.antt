-- `manager::closing::close` meets its contract: words of another number than a state has are refused. Assumes nothing.
use Rattle.events.specs.Events.{close_of}
use Rattle.events.specs.Lent.{close_on}
use Rattle.events.specs.Ways.{other_number}
use Rattle.manager.proofs.closing.close.Goals as goal

pub returns-in_default : goal.returns-in_default
unfolding close_on
returns-in_default c =
    let a = c.args in
    other_number a.words.now a.store.now a.output.now (λ m. close_of m a.store.now a.output.now a.time a.route a.reason) c.in_default.ensures.cases c.refuse.ensures
