-- `wording::private::lay_some` meets its contract: what the octets say stands behind their number. Assumes nothing.
use mathlib.Core.Path.{sym, ap}
use native.Mathlib.Omega.{arith}
use Rattle.counts.specs.declared.Counts.{Counts}
use Rattle.numerals.specs.Hexadecimal.{hex_of}
use Rattle.wording.specs.Laid.{laid_then, laid_as}
use Rattle.wording.specs.Private.{counts_words}
use Rattle.wording.proofs.private.lay_some.Goals as goal

pub returns : goal.returns
returns c =
    let n = c.lay_number-a.ensures.0 in
    let w = c.lay-b.ensures in
    let x = c.lay_counts.ensures in
    let e = ap (λ (q : Counts). counts_words q (hex_of c.args.private.now)) (sym c.read.ensures) in
    laid_then (omega (arith, c.requires)) n (laid_then n.within w (laid_as e x))
