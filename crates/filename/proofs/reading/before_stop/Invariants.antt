use Rattle.std.proofs.Common.{◌≡◌, ◌+◌, ◌<◌, ℕ, get_or}
use Rattle.filename.proofs.reading.before_stop.Given as goal

-- no octet so far is the stop
abbrev pub invariant-loop-i : goal.invariant-loop-i
invariant-loop-i l = (j : ℕ) → j < l.i → get_or l.name (l.k + j) 0 ≡ l.stop → ⊥
