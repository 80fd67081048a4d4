-- `batch::words_fit` meets its contract: what its type says of each word. Assumes nothing.
use Rattle.std.proofs.Common.{arith}
use Rattle.batch.proofs.words_fit.Goals as goal

pub returns : goal.returns
returns c = record { at = λ i. omega (arith, c.type_inv.words i) }
