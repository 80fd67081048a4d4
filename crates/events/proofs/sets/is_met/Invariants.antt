-- `events::sets::is_met` meets its contract: before minute j `any` says whether one of those before it has fallen. Assumes nothing.
use Rattle.std.proofs.Common.{◌≡◌}
use Rattle.refusals.specs.Below.{any_below}
use Rattle.words.specs.Words.{manager_in}
use Rattle.events.specs.Met.{falls_at}
use Rattle.events.proofs.sets.is_met.Given as goal

abbrev pub invariant-loop-j : goal.invariant-loop-j
invariant-loop-j l = l.any ≡ any_below (falls_at (manager_in l.words).set_times l.i l.bias l.opened l.time) l.j
