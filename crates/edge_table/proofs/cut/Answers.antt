-- `edge_table::cut` is safe: so many octets are a part of the table's file, which has 56. Assumes nothing.
use mathlib.Core.Path.{sym}
use native.Mathlib.Omega.{arith}
use lib.Seq.{length-take-le}
use Rattle.edge_table.proofs.cut.Goals as goal

pub slice_bounds-verdict-end : goal.slice_bounds-verdict-end
slice_bounds-verdict-end c = sym (length-take-le _ _ (omega arith))
