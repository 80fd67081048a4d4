use borrow.Author.Rules.{rules}
use mathlib.Core.Path.{sym, ◌∙◌}
use Rattle.state.specs.SetTimes.{set_right_at, sets_right, none_right}
use Rattle.words.specs.Words.{manager_in}
use Rattle.judging.proofs.sets.sets_right.Goals as goal

pub returns-then-are_none : goal.returns-then-are_none
returns-then-are_none c =
    sym (none_right (manager_in c.args.words.now).set_times c.args.n c.requires (sym c.are_none.ensures ∙ c.if-are_none.true))

pub returns : goal.returns
unfolding sets_right
returns c =
    c.all_below.ensures (set_right_at (manager_in c.args.words.now).set_times) (λ i b l e. search rules)
