-- `manager::closing::close_in` meets its contract: each way out is a case of the definition. The refusals that were passed say that
-- the file can be closed. Assumes nothing.
use Rattle.std.proofs.Common.{rules, ◌≡◌, ℕ, List, length, ◌<◌, Err, sym, ap, ◌∙◌, refl, arith}
use Rattle.octets.specs.Splice.{splice}
use Rattle.refusals.specs.Refusal.{first}
use Rattle.refusals.specs.Number.{number}
use Rattle.state.specs.declared.Route.{Route}
use Rattle.state.specs.Manager.{Manager}
use Rattle.state.specs.Manager.{route_at, effective}
use Rattle.words.specs.Words.{manager_in}
use Rattle.filing.specs.Closing.{closed_size, closed_file}
use Rattle.events.specs.Events.{After, after, refused, close_of}
use Rattle.events.specs.Lent.{close_on}
use Rattle.events.specs.Ways.{way_refused, way_changed}
use Rattle.events.specs.Answering.{number_some, way_judged}
use Rattle.events.specs.Cases.{close_first, close_refused, close_short, close_done, closed_made, Closing, close_passed, closes, closable_as, closed_as}
use Rattle.manager.proofs.closing.close_in.Goals as goal
use Rattle.manager.proofs.closing.close_in.Goals.{After-closed_size-size, After-effective_time-t, In_ok-given}

-- The state, and the event on it.
abbrev state : List ℕ → Manager
state words = manager_in words

abbrev event : List ℕ → List ℕ → ℕ → ℕ → ℕ → Manager → After
event store output time route reason m = close_of m store output time route reason

-- none of the first refusals applies
passes : (c : goal.In_ok-given)
    → first (close_first (state c.args.words.now) (length c.args.store.now) c.args.time c.args.route c.args.reason) ≡ 0
passes c = sym c.in_ok-given.ensures.first

-- so the route is there and its file is open
ready : (c : goal.In_ok-given)
    → Closing (state c.args.words.now) (length c.args.store.now) c.args.time c.args.route c.args.reason
ready c = let a = c.args in close_passed (state c.args.words.now) (length a.store.now) a.time a.route a.reason (passes c)

there : (c : goal.In_ok-given) → c.args.route < 8
there c = omega (arith, (ready c).there, (ready c).passed.state.few)

-- its size is the state's
size_is : (c : goal.After-closed_size-size) → c.closed_size-size.result ≡ closed_size (route_at (state c.args.words.now) c.args.route)
size_is c = c.closed_size-size.ensures ∙ ap closed_size c.route_at-r.ensures.0

time_is : (c : goal.After-effective_time-t) → c.effective_time-t.result ≡ effective (state c.args.words.now) c.args.time
unfolding manager_in
time_is c = c.effective_time-t.ensures

pub returns-in_err-given : goal.returns-in_err-given
unfolding close_on
returns-in_err-given c =
    let a = c.args in
    let m = state a.words.now in
    let r = c.in_err-given.field-0.0 in
    let q : c.from_residual.result ≡ Err r = search rules in
    let n : number r ≡ first (close_first m (length a.store.now) a.time a.route a.reason) = c.in_err-given.ensures.first in
    rw q (way_judged a.words.now a.store.now a.output.now (event a.store.now a.output.now a.time a.route a.reason) c.told-words
    (close_first m (length a.store.now) a.time a.route a.reason) refl r n
    (close_refused m a.store.now a.output.now a.time a.route a.reason (number r) n (number_some r)))

pub route_at-r-requires : goal.route_at-r-requires
route_at-r-requires c = there (goal.at.route_at-r-requires c).In_ok-given

pub returns-then-output-size : goal.returns-then-output-size
unfolding close_on
returns-then-output-size c =
    let a = c.args in
    let n = size_is (goal.at.returns-then-output-size c).After-closed_size-size in
    way_refused a.words.now a.store.now a.output.now (event a.store.now a.output.now a.time a.route a.reason) c.told-words 17 c.closed_size-size.result refl
    (ap (λ (k : ℕ). after (refused 17 k (state a.words.now)) a.store.now a.output.now) n
    ∙ close_short (state a.words.now) a.store.now a.output.now a.time a.route a.reason (passes (goal.at.returns-then-output-size c).In_ok-given) (omega (arith, n, c.if-output-size.true)))

pub region_base-base-requires : goal.region_base-base-requires
region_base-base-requires c = omega (arith, there (goal.at.region_base-base-requires c).In_ok-given)

pub close_file-requires : goal.close_file-requires
close_file-requires c =
    let a = c.args in
    let w = ready (goal.at.close_file-requires c).In_ok-given in
    closable_as (state a.words.now) a.route c.node_of-n.ensures c.route_at-r.ensures.0 c.region_base-base.ensures
    (closes w.passed.state a.store.now w.passed.store a.route w.there w.live a.output.now 0
    (omega (arith, size_is (goal.at.close_file-requires c).After-closed_size-size, c.if-output-size.false)))

pub put-requires : goal.put-requires
put-requires c =
    (there (goal.at.put-requires c).In_ok-given, omega (arith, ap (λ (r : Route). r.file.opened) c.closed_route-closed.ensures))

pub overflow_cast-i-2 : goal.overflow_cast-i-2
overflow_cast-i-2 c = omega (arith, there (goal.at.overflow_cast-i-2 c).In_ok-given)

pub returns : goal.returns
unfolding close_on
returns c =
    let a = c.args in
    let q = c.route_at-r.ensures.0 in
    let r = c.closed_route-closed in
    let reason = c.in_ok-given.ensures.reason in
    let out = c.close_file.ensures
    ∙ ap (splice a.output.now 0) (closed_as (state a.words.now) a.store.now a.route _ c.node_of-n.ensures q c.region_base-base.ensures ∙ ap (closed_file (state a.words.now) a.store.now a.route) (c.number.ensures ∙ reason)) in
    way_changed a.words.now a.store.now a.output.now (event a.store.now a.output.now a.time a.route a.reason) c.told-words a.route (there (goal.at.returns c).In_ok-given) r.result
    (ap (λ (x : Route). x.settings) r.ensures ∙ ap (λ (x : Route). x.settings) q) c.effective_time-t.result 5 1 c.closed_size-size.result 0
    c.accept.ensures c.put.ensures
    (closed_made (state a.words.now) a.store.now a.output.now a.time a.route a.reason (time_is (goal.at.returns c).After-effective_time-t) q c.closed_size-size.ensures r.ensures out
    ∙ close_done (state a.words.now) a.store.now a.output.now a.time a.route a.reason (passes (goal.at.returns c).In_ok-given) (omega (arith, size_is (goal.at.returns c).After-closed_size-size, c.if-output-size.false)))
