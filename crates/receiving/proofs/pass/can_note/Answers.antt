-- `receiving::pass::can_note` meets its contract: the words that it tests are the routes' counters. Assumes nothing.
use borrow.Author.Rules.{rules}
use mathlib.Core.Path.{◌≡◌, ap, ◌∙◌}
use mathlib.Core.Bool.{not}
use Prim.Native.Nat.{ℕ, ◌+◌, ◌*◌}
use native.Mathlib.Omega.{arith}
use lib.Dec.{eqb}
use lib.ListN.{get_or}
use Rattle.words.specs.Words.{manager_in}
use Rattle.words.specs.Unrouted.{unrouted_at}
use Rattle.events.specs.Receive.{can_note}
use Rattle.receiving.proofs.pass.can_note.Goals as goal

pub returns : goal.returns
returns c =
    let xs = c.args.words.now in
    c.all_below.ensures (can_note (manager_in xs)) (λ i b l e.
    let is : b ≡ not (eqb (get_or xs (19 + 19 * i) 0) 4294967295) = search rules in
    is ∙ ap (λ (k : ℕ). not (eqb k 4294967295)) (unrouted_at xs c.told-words i (omega arith)))
