-- `receiving::receive` meets its contract: words of another number than a state has are refused. Assumes nothing.
use Rattle.events.specs.Receive.{receive_of}
use Rattle.events.specs.Lent.{receive_on}
use Rattle.events.specs.Ways.{other_number}
use Rattle.receiving.proofs.receive.Goals as goal

pub returns-in_default : goal.returns-in_default
unfolding receive_on
returns-in_default c =
    let a = c.args in
    other_number a.words.now a.store.now a.output.now (λ m. receive_of m a.store.now a.output.now a.time a.a a.key.now a.body.now) c.in_default.ensures.cases c.refuse.ensures
