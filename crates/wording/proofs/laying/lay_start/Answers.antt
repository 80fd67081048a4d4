-- `wording::laying::lay_start` meets its contract: a comma and a space stand behind the number. Assumes nothing.
use native.Mathlib.Omega.{arith}
use Rattle.wording.specs.Laid.{laid_then}
use Rattle.wording.proofs.laying.lay_start.Goals as goal

pub returns : goal.returns
returns c =
    let v = c.lay_number-a.ensures in
    let w = c.lay.ensures in
    (laid_then (omega (arith, c.requires)) v.0 w, omega (arith, v.1, w.ends))
