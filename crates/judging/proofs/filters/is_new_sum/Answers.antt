-- `judging::filters::is_new_sum` meets its contract: its test is the definition's. Assumes nothing.
use borrow.Author.Rules.{rules}
use Rattle.judging.specs.Sums.{other_sum}
use Rattle.judging.proofs.filters.is_new_sum.Goals as goal

pub returns : goal.returns
returns c = c.all_below.ensures (other_sum c.args.sums.now c.args.s) (λ i b l e. search rules)
