-- `manager::ticking::close_due` meets its contract: the loop's invariant is that of `Tick`, and a turn either leaves all or
-- closes one file behind those before it. Assumes nothing.
use mathlib.Core.Path.{◌≡◌}
use Rattle.state.specs.Manager.{node_of}
use Rattle.words.specs.Words.{manager_in}
use Rattle.manager.specs.Tick.{Inv}
use Rattle.manager.proofs.ticking.close_due.Given as goal

abbrev pub invariant-loop-i : goal.invariant-loop-i
invariant-loop-i l = (l.node ≡ node_of (manager_in l.initial.words)) × Inv l.initial.words l.t l.n l.store l.initial.output l.output l.words l.from l.at l.files l.i
