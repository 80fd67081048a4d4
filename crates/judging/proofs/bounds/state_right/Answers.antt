-- `judging::bounds::state_right` meets its contract: a count above 8 is against the definition's second test, and otherwise its
-- seven tests are the definition's. Assumes nothing.
use mathlib.Core.Path.{◌≡◌, ap, ◌∙◌}
use mathlib.Core.Bool.{false, ◌&&◌, and-false}
use native.Mathlib.Omega.{arith}
use lib.Dec.{leb}
use lib.ListN.{get_or}
use borrow.Author.Tests.{lt-leb}
use Rattle.state.specs.SetTimes.{sets_right}
use Rattle.state.specs.Bounds.{distinct, routes_right, state_right}
use Rattle.words.specs.Words.{manager_in}
use Rattle.judging.proofs.bounds.state_right.Goals as goal

pub returns-then-n-gt8 : goal.returns-then-n-gt8
unfolding state_right
returns-then-n-gt8 c =
    let n = c.count_of-n in
    let m = manager_in c.args.words.now in
    let many : leb m.count 8 ≡ false = lt-leb m.count 8 (omega (arith, n.ensures, c.if-n-gt8.true)) in
    rw (many, and-false)

pub returns : goal.returns
unfolding state_right manager_in
returns c =
    let a = c.args in
    let xs = a.words.now in
    let n = c.count_of-n.ensures in
    let routes = c.routes_right-routes.ensures ∙ ap (routes_right (manager_in xs)) n in
    let filters = c.are_distinct-filters.ensures ∙ ap (distinct (manager_in xs)) n in
    let sets = c.sets_right-sets.ensures ∙ ap (sets_right (manager_in xs).set_times) n in
    λ i. leb 1 (n i) && leb (n i) 8 && leb (get_or xs 4 0) 2878 && leb (get_or xs 6 0) 52595999 && routes i && filters i && sets i
