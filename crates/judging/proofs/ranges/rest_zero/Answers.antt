-- `judging::ranges::rest_zero` meets its contract: octets that are 0 are a number that is 0. Assumes nothing.
use mathlib.Core.Path.{sym, ap, ◌∙◌}
use native.Mathlib.Omega.{arith}
use Rattle.judging.specs.Unused.{rest_zero, four_zero, three_zero, two_zero, one_zero_lem, none_zero}
use Rattle.judging.proofs.ranges.rest_zero.Goals as goal

pub returns-in-0 : goal.returns-in-0
returns-in-0 c = let a = c.args in four_zero a.w ∙ ap (rest_zero a.w) (sym c.in-0.is)

pub returns-in-1 : goal.returns-in-1
returns-in-1 c = let a = c.args in three_zero a.w ∙ ap (rest_zero a.w) (sym c.in-1.is)

pub returns-in-2 : goal.returns-in-2
returns-in-2 c = let a = c.args in two_zero a.w ∙ ap (rest_zero a.w) (sym c.in-2.is)

pub returns-in-3 : goal.returns-in-3
returns-in-3 c = let a = c.args in one_zero_lem a.w ∙ ap (rest_zero a.w) (sym c.in-3.is)

pub returns-in_default : goal.returns-in_default
returns-in_default c = let a = c.args in sym (none_zero a.w a.u (omega arith))
