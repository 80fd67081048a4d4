-- `manager::opening::open` meets its contract: words of another number than a state has are refused. Assumes nothing.
use Rattle.events.specs.Events.{open_of}
use Rattle.events.specs.Lent.{open_on}
use Rattle.events.specs.Ways.{other_number}
use Rattle.manager.proofs.opening.open.Goals as goal

pub returns-in_default : goal.returns-in_default
unfolding open_on
returns-in_default c =
    let a = c.args in
    other_number a.words.now a.store.now a.output.now (λ m. open_of m a.store.now a.output.now a.time a.route) c.in_default.ensures.cases c.refuse.ensures
