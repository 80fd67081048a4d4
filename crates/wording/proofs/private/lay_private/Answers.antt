-- `wording::private::lay_private` meets its contract: each arm is a statement. Assumes nothing.
use Prim.Native.Nat.{ℕ}
use native.Mathlib.Omega.{arith}
use Rattle.wording.specs.Laid.{laid_of, laid_as}
use Rattle.wording.specs.Private.{private_words, some_words_lem}
use Rattle.wording.proofs.private.lay_private.Goals as goal

pub returns-in-0 : goal.returns-in-0
unfolding private_words
returns-in-0 c = laid_of (λ (n : ℕ). private_words n c.args.private.now) c.in-0.is c.lay.ensures

pub returns-in-1 : goal.returns-in-1
unfolding private_words
returns-in-1 c = laid_of (λ (n : ℕ). private_words n c.args.private.now) c.in-1.is c.lay-in-1.ensures

pub returns-in_default : goal.returns-in_default
returns-in_default c =
    laid_as (some_words_lem c.args.statement c.args.private.now (omega arith) (omega arith)) c.lay_some.ensures
