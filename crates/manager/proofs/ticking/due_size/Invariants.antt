-- `manager::ticking::due_size` meets its contract: before route i the sum is the definition's, and small enough to fit. Assumes
-- nothing.
use mathlib.Core.Path.{◌≡◌}
use Prim.Native.Nat.{◌≤◌, ◌*◌}
use Rattle.words.specs.Words.{manager_in}
use Rattle.events.specs.Events.{due_size}
use Rattle.manager.proofs.ticking.due_size.Given as goal

abbrev pub invariant-loop-i : goal.invariant-loop-i
invariant-loop-i l = (l.size ≡ due_size (manager_in l.words) l.t l.i) × (l.size ≤ l.i * 8589934592)
