-- `judging::filters::is_new` meets its contract: the words of route j are those of the definition's. Assumes nothing.
use borrow.Author.Rules.{rules}
use mathlib.Core.Path.{◌≡◌, ◌∙◌}
use mathlib.Core.Bool.{not}
use Prim.Native.Nat.{◌+◌, ◌*◌}
use native.Mathlib.Omega.{arith}
use lib.ListN.{take, drop}
use Rattle.state.specs.Manager.{settings_at}
use Rattle.state.specs.Bounds.{same_filter, other_at}
use Rattle.words.specs.Words.{manager_in, settings_in}
use Rattle.words.specs.Laws.{settings_there}
use Rattle.judging.proofs.filters.is_new.Goals as goal

pub returns : goal.returns
returns c =
    let xs = c.args.words.now in
    let n = c.args.i in
    c.all_below.ensures (other_at (manager_in xs) (settings_at (manager_in xs) n)) (λ j b l e.
    let is : b ≡ not (same_filter (settings_in (take 19 (drop (8 + 19 * j) xs))) (settings_in (take 19 (drop (8 + 19 * n) xs)))) = search rules in
    is ∙ (λ k. not (same_filter (settings_there xs j (omega arith) k) (settings_there xs n (omega arith) k))))
