-- `judging::regions::region_base` meets its contract: before route i `start` is the definition's, and each of the i limits fits 32
-- bits, so the sum fits. Assumes nothing.
use mathlib.Core.Path.{◌≡◌}
use Prim.Native.Nat.{◌≤◌, ◌*◌}
use Rattle.words.specs.Words.{manager_in}
use Rattle.state.specs.Manager.{base}
use Rattle.judging.proofs.regions.region_base.Given as goal

abbrev pub invariant-loop-i : goal.invariant-loop-i
invariant-loop-i l = (l.start ≡ base (manager_in l.words) l.i) × (l.start ≤ l.i * 4294967296)
