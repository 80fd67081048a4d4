-- `timestamp::pack` meets its contract: each step is a field pushed in from the right, and the sum of products is linear.
-- Assumes nothing.
use mathlib.Core.Path.{refl, ◌∙◌}
use native.Mathlib.Omega.{arith}
use lib.Dec.{lit≤}
use Rattle.timestamp.specs.Timestamp.{word_of}
use Rattle.timestamp.proofs.Bits.{push}
use Rattle.timestamp.proofs.pack.Goals as goal

pub returns : goal.returns
unfolding word_of
returns c =
    let n = c.requires in
    let day = push 4 5 refl n.month n.day (lit≤ tt) in
    let hour = push 9 5 day (omega arith) n.hour (lit≤ tt) in
    let minute = push 14 6 hour (omega arith) n.minute (lit≤ tt) in
    let sign = push 20 1 minute (omega arith) n.sign (lit≤ tt) in
    let dev = push 21 5 sign (omega arith) n.dev_hour (lit≤ tt) in
    push 26 6 dev (omega arith) n.dev_minute (lit≤ tt) ∙ omega arith
