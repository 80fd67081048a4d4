-- `settings::Settings::is_set_time_right` meets its contract: its tests are the definition's, and the words have the count. Assumes nothing.
use mathlib.Core.Path.{◌≡◌, ap, ◌∙◌}
use Prim.Native.Nat.{ℕ, ◌+◌, ◌<◌}
use native.Mathlib.Omega.{arith}
use lib.ListN.{get_or}
use Rattle.octets.specs.Number.{num}
use Rattle.state.specs.SetTimes.{set_count}
use Rattle.words.specs.Words.{manager_in}
use Rattle.settings.specs.Settings.{routes_in, set_route}
use Rattle.settings.specs.Sets.{setting_count, set_unknown, set_told}
use Rattle.settings.proofs.Settings.is_set_time_right.Goals as goal
use Rattle.settings.proofs.Settings.is_set_time_right.Goals.{After-from-route}

route_is : (c : goal.After-from-route) → c.from-route.result ≡ set_route c.args.self.now.octets.now c.args.j
route_is c = c.from-route.ensures ∙ ap (λ (k : ℕ). get_or c.args.self.now.octets.now (k + 1) 0) c.requires.1

pub returns-then-self-route : goal.returns-then-self-route
returns-then-self-route c =
    set_unknown c.args.self.now.octets.now c.args.j (omega (arith, route_is (goal.at.returns-then-self-route c).After-from-route, c.requires.0.routes, c.if-self-route.true))

pub set_count-count-requires : goal.set_count-count-requires
set_count-count-requires c =
    omega (arith, c.if-self-route.false, c.requires.0.few)

pub returns : goal.returns
returns c =
    let xs = c.args.self.now.octets.now in
    let known : set_route xs c.args.j < routes_in xs = omega (arith, route_is (goal.at.returns c).After-from-route, c.requires.0.routes, c.if-self-route.false) in
    let few : set_route xs c.args.j < 8 = omega (arith, known, c.requires.0.routes, c.requires.0.few) in
    set_told xs c.args.j known
    (c.num-minute.ensures ∙ ap (λ (k : ℕ). num 2 xs (k + 2)) c.requires.1) c.follows-follows.ensures
    (c.set_count-count.ensures ∙ ap (λ (r : ℕ). set_count (manager_in c.args.words.now).set_times r) (route_is (goal.at.returns c).After-from-route) ∙ setting_count c.requires.0 (set_route xs c.args.j) few)
