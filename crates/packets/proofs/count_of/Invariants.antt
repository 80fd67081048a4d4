-- `packets::count_of` meets its contract: before each record those before it are whole, and so many. Assumes nothing.
use Rattle.packets.proofs.Walk.{Resting}
use Rattle.packets.proofs.count_of.Given as goal

abbrev pub invariant-loop-n : goal.invariant-loop-n
invariant-loop-n l = Resting l.packet l.rest l.n
