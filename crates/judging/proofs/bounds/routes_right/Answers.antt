-- `judging::bounds::routes_right` meets its contract: the words of route i are those of the definition's. Assumes nothing.
use borrow.Author.Rules.{rules}
use mathlib.Core.Path.{◌≡◌, ap, ◌∙◌}
use Prim.Native.Nat.{◌+◌, ◌*◌}
use native.Mathlib.Omega.{arith}
use lib.ListN.{get_or, take, drop}
use Rattle.words.specs.Words.{manager_in, route_in}
use Rattle.words.specs.Laws.{route_there}
use Rattle.state.specs.Bounds.{route_right, right_at}
use Rattle.judging.proofs.bounds.routes_right.Goals as goal

pub returns : goal.returns
unfolding manager_in
returns c =
    let xs = c.args.words.now in
    c.all_below.ensures (right_at (manager_in xs)) (λ i b l e.
    let is : b ≡ route_right (get_or xs 6 0) (route_in (take 19 (drop (8 + 19 * i) xs))) = search rules in
    is ∙ ap (route_right (get_or xs 6 0)) (route_there xs i (omega arith)))
