-- `judging::filters::are_distinct` meets its contract: one route has none to be equal to, where no two sums are equal no two filters are, and
-- else each is looked at. Assumes nothing.
use borrow.Author.Rules.{rules}
use mathlib.Core.Path.{sym, ◌∙◌}
use native.Mathlib.Omega.{arith}
use Rattle.state.specs.Bounds.{new_at}
use Rattle.words.specs.Words.{manager_in}
use Rattle.judging.specs.Sums.{sums_distinct}
use Rattle.judging.proofs.filters.are_distinct.Goals as goal

pub returns-then-are_sums_distinct : goal.returns-then-are_sums_distinct
returns-then-are_sums_distinct c =
    let a = c.args in
    sym (sums_distinct a.words.now a.n (omega arith) (sym c.are_sums_distinct.ensures ∙ c.if-are_sums_distinct.true))

pub returns : goal.returns
returns c = c.all_below.ensures (new_at (manager_in c.args.words.now)) (λ i b l e. search rules)
