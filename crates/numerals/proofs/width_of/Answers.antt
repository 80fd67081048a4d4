-- `numerals::width_of` meets its contract: a number from 1 on has one digit more than its logarithm. Assumes nothing.
use mathlib.Core.Path.{sym}
use native.Mathlib.Omega.{arith}
use Rattle.numerals.specs.Decimal.{width_log}
use Rattle.numerals.proofs.width_of.Goals as goal

pub returns : goal.returns
returns c =
    let e = c.ilog10.ensures in
    let m = c.max.ensures in
    (sym (width_log c.args.n c.ilog10.result (omega (arith, e.power_le, m)) (omega (arith, e.next_power_gt, m)) e.bound), omega arith, omega (arith, e.bound))
