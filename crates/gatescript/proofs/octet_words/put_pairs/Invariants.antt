use Rattle.std.proofs.Common.{◌≤◌, length}
use Rattle.gatescript.proofs.octet_words.put_pairs.Given as goal

-- the octets so far stand in the space
abbrev pub invariant-loop-i : goal.invariant-loop-i
invariant-loop-i l = l.i ≤ length l.space
