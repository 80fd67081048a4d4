use Rattle.std.proofs.Common.{refl}
use native.Mathlib.Omega.{arith}
use Rattle.refusals.specs.Below.{below_turn, below_end}
use Rattle.judging.proofs.below.all_below.Goals as goal

pub loop-i-init : goal.loop-i-init
loop-i-init g c = λ f h. refl

pub loop-i-preserved : goal.loop-i-preserved
loop-i-preserved g c = λ f h. below_turn f c.loop-i.i (c.loop-i.invariant f h) (h c.loop-i.i c.test-all.result c.loop-i-test.true c.test-all.ensures)

pub returns : goal.returns
returns g c = λ f h. below_end f c.loop-i.i c.args.n (c.loop-i.invariant f h) (omega arith)
