-- `wording::private::lay_counts` meets its contract. Assumes nothing.
use native.Mathlib.Omega.{arith}
use Rattle.numerals.specs.Hexadecimal.{hex_of}
use Rattle.wording.specs.Laid.{laid_then, laid_as}
use Rattle.wording.specs.Private.{counts_said}
use Rattle.wording.proofs.private.lay_counts.Goals as goal

pub returns-then-c : goal.returns-then-c
returns-then-c c =
    let v = c.lay-a.ensures in
    let n = c.lay_number-b.ensures.0 in
    let w = c.lay-d.ensures in
    let m = c.lay_number.ensures.0 in
    laid_as (counts_said c.args.c (hex_of c.args.private.now) c.if-c.true) (laid_then (omega (arith, c.requires)) v (laid_then v.within n (laid_then n.within w m)))
