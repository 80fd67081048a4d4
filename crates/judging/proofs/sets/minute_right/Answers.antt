-- `judging::sets::minute_right` meets its contract: the two ways are the definition's. Assumes nothing.
use Rattle.state.specs.SetTimes.{set_minute, minute_first, minute_next}
use Rattle.words.specs.Words.{manager_in}
use Rattle.judging.proofs.sets.minute_right.Goals as goal

pub returns-then-j-eq0 : goal.returns-then-j-eq0
returns-then-j-eq0 c =
    let a = c.args in
    minute_first (set_minute (manager_in a.words.now).set_times a.i) a.j c.set_minute-minute.ensures c.if-j-eq0.true

pub returns : goal.returns
returns c =
    let a = c.args in
    minute_next (set_minute (manager_in a.words.now).set_times a.i) a.j c.set_minute-minute.ensures c.if-j-eq0.false c.set_minute-before.ensures
