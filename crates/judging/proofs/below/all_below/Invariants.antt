-- `judging::below::all_below` meets its contract: before i `all` is the answer for the numbers below i, of any test that says what the calls say.
-- Assumes nothing.
use Rattle.std.proofs.Common.{◌≡◌, ℕ, Bool, ◌<◌}
use Rattle.refusals.specs.Below.{all_below}
use Rattle.judging.proofs.below.all_below.Given as goal

abbrev pub invariant-loop-i : goal.invariant-loop-i
invariant-loop-i g l = (f : ℕ → Bool) → ((i : ℕ) → (b : Bool) → i < l.n → goal.F-post g l.test i b → b ≡ f i) → l.all ≡ all_below f l.i
