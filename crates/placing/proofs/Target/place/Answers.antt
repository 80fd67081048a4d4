-- `placing::Target::place` meets its contract: the plan is the definition's, the octets that it needs are there behind 17, and
-- then it can be carried out. Assumes nothing.
use Rattle.std.proofs.Common.{◌≡◌, ◌+◌, length, ap, sym, ◌∙◌, arith}
use Rattle.events.specs.Receive.{placed_size}
use Rattle.placing.specs.Plan.{Plan}
use Rattle.placing.specs.Files.{size_if}
use Rattle.placing.specs.Made.{needed_made, carried, placed_by, place_made}
use Rattle.placing.specs.Views.{plan_in, plan_of, numbered}
use Rattle.placing.proofs.Target.place.Goals as goal
use Rattle.placing.proofs.Target.place.Goals.{After-size_if-behind, After-turn_number-turn}

needed : (c : After-size_if-behind)
    → c.size_if-before.result + c.size_if-behind.result ≡ placed_size c.args.self.route c.args.a (length c.args.body.now) c.args.t
needed c =
    let a = c.args in
    needed_made a.self.route a.a (length a.body.now) a.t c.plan_for-p.ensures (c.size_if-before.ensures.0 ∙ (λ i. size_if (c.is_some.ensures i) a.self.route)) c.size_if-behind.ensures.0

-- the plan by its reason's number is the plan
steps : (c : After-turn_number-turn) → plan_in c.turn_number-turn.result c.plan_for-p.result.taker ≡ plan_of c.plan_for-p.result
steps c = (λ i. plan_in (c.turn_number-turn.ensures i) c.plan_for-p.result.taker) ∙ numbered c.plan_for-p.result

pub carry_out-requires : goal.carry_out-requires
carry_out-requires c =
    let a = c.args in
    carried a.self.node a.self.from a.self.route a.store.now a.output.now a.t a.a a.body.now c.requires (omega (arith, needed (goal.at.carry_out-requires c).After-size_if-behind, c.if-output-octets.false))
    (steps (goal.at.carry_out-requires c).After-turn_number-turn ∙ c.plan_for-p.ensures) c.header_for-h.ensures

pub returns-clause-placed : goal.returns-clause-placed
returns-clause-placed c =
    let a = c.args in
    let e = steps (goal.at.returns-clause-placed c).After-turn_number-turn in
    let octets = c.size_if-before.result + c.size_if-behind.result in
    place_made a.self.node a.self.from a.self.route a.store.now a.output.now a.t a.a a.body.now c.requires
    (e ∙ c.plan_for-p.ensures) c.header_for-h.ensures (needed (goal.at.returns-clause-placed c).After-size_if-behind) (omega (arith, c.if-output-octets.false)) c.carry_out.ensures.0
    c.carry_out.ensures.1 (c.placed_by.ensures ∙ ap (λ (p : Plan). placed_by p octets) (sym e))
