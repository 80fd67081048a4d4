-- `routing::route_of` meets its contract: before route i `c` has the best of the routes below i, and what they cost. Assumes nothing.
use Rattle.std.proofs.Common.{◌≡◌}
use Rattle.state.specs.Routing.{among}
use Rattle.state.specs.Compared.{compared_among}
use Rattle.words.specs.Words.{manager_in}
use Rattle.routing.specs.Best.{best_of}
use Rattle.routing.proofs.route_of.Given as goal

abbrev pub invariant-loop-i : goal.invariant-loop-i
invariant-loop-i l =
    (best_of l.c.best ≡ among (manager_in l.words) l.key l.i) × (l.c.compared ≡ compared_among (manager_in l.words) l.key l.i)
