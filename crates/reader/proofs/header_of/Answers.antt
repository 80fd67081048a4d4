-- `reader::header_of` meets its contract: each field is the definition's, by the contract of the function that reads it.
-- Assumes nothing.
use mathlib.Core.Path.{◌∙◌, ap}
use Prim.Native.Nat.{ℕ, ◌+◌}
use lib.ListN.{get_or}
use native.Mathlib.Omega.{arith}
use Rattle.octets.specs.Number.{octets_at_taken}
use Rattle.timestamp.specs.Timestamp.{fields_of}
use Rattle.reader.specs.Places.{release_at, header_at}
use Rattle.reader.proofs.header_of.Goals as goal

pub returns : goal.returns
unfolding header_at
returns c =
    let a = c.args in
    let file = a.file.now in
    λ i. record {
      high = c.release_at.ensures i;
      low = (c.release_at-2.ensures ∙ ap (λ (n : ℕ). release_at file 9 (a.extensions + n)) c.extensions_of.ensures.0) i;
      opened = (c.unpack.ensures ∙ ap fields_of c.num.ensures) i;
      appended = (c.unpack-2.ensures ∙ ap fields_of c.num-2.ensures) i;
      sequence = c.num-3.ensures i;
      reason = get_or file 26 0;
      address = (c.copy_from_slice.ensures.after ∙ octets_at_taken 20 file 27 (omega (arith, c.requires.in_bounds))) i;
      lost = get_or file 47 0;
      statement = a.statement;
    }
