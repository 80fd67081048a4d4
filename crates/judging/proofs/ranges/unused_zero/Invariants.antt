-- `judging::ranges::unused_zero` meets its contract: from the last word down a word that is 0 leaves the answer to those before it, one
-- that is not ends it, and the word with the last octet that counts decides. Assumes nothing.
use mathlib.Core.Path.{◌≡◌}
use Prim.Native.Nat.{◌*◌, ◌≤◌}
use Rattle.state.specs.Bounds.{zero_from}
use Rattle.words.specs.Words.{settings_in}
use Rattle.judging.proofs.ranges.unused_zero.Given as goal

abbrev pub invariant-loop-k : goal.invariant-loop-k
invariant-loop-k l = record { some : 1 ≤ l.k; most : l.k ≤ 5; left : zero_from (settings_in l.part).filter l.n (4 * l.k) ≡ zero_from (settings_in l.part).filter l.n 20 }
