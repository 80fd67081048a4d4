-- `manager::opening::judge_open` meets its contract: where 18, 16, 4 and 6 do not apply, the route is there. Assumes nothing.
use Rattle.std.proofs.Common.{sym}
use Rattle.words.specs.Words.{manager_in}
use Rattle.events.specs.Cases.{route_there}
use Rattle.manager.proofs.opening.judge_open.Goals as goal

pub route_at-r-requires : goal.route_at-r-requires
route_at-r-requires c = let a = c.args in route_there (manager_in a.words.now) a.store a.time a.route (sym c.in_ok-judge_route.ensures)
