use Rattle.std.proofs.Common.{arith}
use Rattle.refusals.specs.Below.{any_turn, any_end}
use Rattle.state.specs.SetTimes.{set_count}
use Rattle.words.specs.Words.{manager_in}
use Rattle.events.specs.Met.{falls_at}
use Rattle.events.proofs.sets.is_met.Goals as goal

pub loop-j-preserved : goal.loop-j-preserved
loop-j-preserved c =
    let a = c.args in
    any_turn (falls_at (manager_in a.words.now).set_times a.i a.bias a.opened a.time) c.loop-j.j c.loop-j.invariant c.does_fall-any.ensures

pub returns : goal.returns
returns c =
    let l = c.loop-j in
    let a = c.args in
    any_end (falls_at (manager_in a.words.now).set_times a.i a.bias a.opened a.time) l.j (set_count (manager_in a.words.now).set_times a.i) l.invariant (omega (arith, c.set_count-j-end.ensures))
