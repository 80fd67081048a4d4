-- `judging::sets::are_none` meets its contract: its eight words are those that the definition looks at. Assumes nothing.
use borrow.Author.Rules.{rules}
use mathlib.Core.Path.{◌≡◌, ap, ◌∙◌}
use Prim.Native.Nat.{ℕ, ◌+◌}
use lib.Dec.{eqb}
use lib.ListN.{get_or}
use Rattle.state.specs.SetTimes.{no_set_at}
use Rattle.words.specs.Words.{manager_in}
use Rattle.words.specs.Sets.{set_count_in}
use Rattle.judging.proofs.sets.are_none.Goals as goal

pub returns : goal.returns
returns c =
    let xs = c.args.words.now in
    c.all_below.ensures (no_set_at (manager_in xs).set_times) (λ i b l e.
    let is : b ≡ eqb (get_or xs (160 + i) 0) 0 = search rules in
    is ∙ ap (λ (n : ℕ). eqb n 0) (set_count_in xs i))
