-- `receiving::take_in` meets its contract: each way out is a case of the definition. The state was judged, so that it is within its
-- bounds, so that the key can be compared; behind 5 the fields are within their widths unless the mark is 1, so that a record
-- can be placed. Assumes nothing.
use Rattle.std.proofs.Common.{rules, ◌≡◌, true, false, ℕ, List, [], length, ◌<◌, Some, None, Err, refl, sym, ap, ◌∙◌, arith}
use Rattle.refusals.specs.Refusal.{first}
use Rattle.refusals.specs.Number.{needed}
use Rattle.state.specs.declared.Route.{Route}
use Rattle.state.specs.Manager.{Manager}
use Rattle.state.specs.Manager.{effective, node_of}
use Rattle.state.specs.Loss.{lost}
use Rattle.state.specs.Routing.{routed_of}
use Rattle.state.specs.Within.{Within, within, routable}
use Rattle.words.specs.Words.{manager_in}
use Rattle.words.specs.Laws.{routes_eight}
use Rattle.events.specs.declared.Arrival.{Arrival}
use Rattle.events.specs.Rules.{wrong_fields, header_for, record_size, routed_to}
use Rattle.events.specs.Events.{After, after, refusal_of}
use Rattle.state.specs.Common.{common, early_common, late_common}
use Rattle.events.specs.Receive.{is_lost, finished, receive_of}
use Rattle.events.specs.Lent.{receive_on}
use Rattle.events.specs.Ways.{way_refused, way_changed}
use Rattle.placing.specs.Plan.{Placeable, PlaceableAt, placeable, placeable_as}
use Rattle.placing.specs.Joining.{joins, joined_place}
use Rattle.receiving.specs.Cases.{usable, routed, unrouted_or, lost_or, receive_common, state_right_lem, receive_wrong, receive_unrouted, receive_lost, receive_short, receive_placed, placed_route, finished_settings, finished_early, placeable_there}
use Rattle.receiving.specs.Told.{ReadAt, way_told}
use Rattle.receiving.proofs.take_in.Goals as goal
use Rattle.receiving.proofs.take_in.Goals.{After-effective_time-t, After-is_lost, After-region_base-from, After-route_at-r, Else-is_lost, Else-time-gt52595999, Else-wrong_fields, In-Some, In_ok-p, Then-does_join}

-- The state, and the event on it.
abbrev state : List ℕ → Manager
state words = manager_in words

abbrev event : List ℕ → List ℕ → ℕ → Arrival → List ℕ → List ℕ → Manager → After
event store output time a key body m = receive_of m store output time a key body

passed : (c : goal.Else-time-gt52595999) → first (common (state c.args.words.now) (length c.args.store.now) c.args.time []) ≡ 0
passed c = early_common (state c.args.words.now) (length c.args.store.now) c.args.time c.requires c.if-time-gt52595999.false

-- so the state is within its bounds
bounds : (c : goal.Else-time-gt52595999) → Within (state c.args.words.now)
bounds c =
    let a = c.args in
    within (state a.words.now) (state_right_lem (state a.words.now) a.store.now a.output.now a.time a.a a.key.now a.body.now (passed c))

passed5 : (c : goal.Else-wrong_fields) → wrong_fields c.args.a (length c.args.key.now) ≡ false
passed5 c = sym c.wrong_fields.ensures ∙ c.if-wrong_fields.false

time_is : (c : goal.After-effective_time-t) → c.effective_time-t.result ≡ effective (state c.args.words.now) c.args.time
unfolding manager_in
time_is c = c.effective_time-t.ensures

-- the record is routed, to a route that is configured
to : (c : goal.In-Some) → routed_of (Some c.in-Some.found) ≡ routed_to (state c.args.words.now) c.args.a c.args.key.now
to c = ap routed_of (sym c.in-Some.is) ∙ c.routed_to-to.ensures.0

route : (c : goal.In-Some) → (c.args.a.mark ≡ 2 → ⊥) × (c.in-Some.found.at < (state c.args.words.now).count)
route c = routed (state c.args.words.now) c.args.a c.args.key.now (to c) refl

few : (c : goal.In-Some) → Within (state c.args.words.now) → c.in-Some.found.at < 8
few c w = omega (arith, (route c).1, w.few)

there : (c : goal.In-Some) → Within (state c.args.words.now) → c.in-Some.found.at < length (state c.args.words.now).routes
there c w = omega (arith, few c w, routes_eight c.args.words.now)

-- it is read out of the words
reading : (c : goal.After-route_at-r) → c.in-Some.found.at < 8 → ReadAt c.args.words.now c.in-Some.found.at c.route_at-r.result
reading c low = record { number = c.told-words; there = low; route = c.route_at-r.ensures.0; opened = c.route_at-r.ensures.1 }

lost_is : (c : goal.After-is_lost) → c.is_lost.result ≡ is_lost (state c.args.words.now) c.args.a c.in-Some.found.at (length c.args.body.now)
lost_is c =
    let a = c.args in
    c.is_lost.ensures ∙ ap (λ (x : Route). lost x.settings.limit x.settings.octets a.a.mark (header_for a.a).release (length a.body.now)) c.route_at-r.ensures.0

-- and the record is placed there
placed : (c : goal.Else-is_lost) → is_lost (state c.args.words.now) c.args.a c.in-Some.found.at (length c.args.body.now) ≡ false
placed c =
    let a = c.args in
    sym (c.is_lost.ensures ∙ ap (λ (x : Route). lost x.settings.limit x.settings.octets a.a.mark (header_for a.a).release (length a.body.now)) c.route_at-r.ensures.0) ∙ c.if-is_lost.false

ready : (c : goal.Else-is_lost) → PlaceableAt (state c.args.words.now) (length c.args.store.now) c.effective_time-t.result c.args.a (length c.args.body.now) c.in-Some.found.at
unfolding manager_in
ready c =
    let a = c.args in
    let r : routed_of (Some c.in-Some.found) ≡ routed_to (state a.words.now) a.a a.key.now = ap routed_of (sym c.in-Some.is) ∙ c.routed_to-to.ensures.0 in
    placeable_there (state a.words.now) a.store.now a.output.now a.time a.a a.key.now a.body.now c.requires c.if-time-gt52595999.false
    (sym c.wrong_fields.ensures ∙ c.if-wrong_fields.false) r refl c.effective_time-t.ensures (placed c)

-- what is known where its region is: it can be placed
fitted : (c : goal.After-region_base-from)
    → PlaceableAt (state c.args.words.now) (length c.args.store.now) c.effective_time-t.result c.args.a (length c.args.body.now) c.in-Some.found.at
    → Placeable (node_of (state c.args.words.now)) c.region_base-from.result c.route_at-r.result (length c.args.store.now) c.effective_time-t.result c.args.a (length c.args.body.now)
fitted c able = placeable_as (state c.args.words.now) c.in-Some.found.at refl c.region_base-from.ensures c.route_at-r.ensures.0 (placeable able)

-- and where it joins the open file
joining : (c : goal.Then-does_join) → joins c.route_at-r.result (header_for c.args.a) (record_size c.args.a (length c.args.body.now)) ≡ true
joining c = sym c.does_join.ensures ∙ c.if-does_join.true

pub returns-then-time-gt52595999 : goal.returns-then-time-gt52595999
unfolding receive_on
returns-then-time-gt52595999 c =
    let a = c.args in
    way_refused a.words.now a.store.now a.output.now (event a.store.now a.output.now a.time a.a a.key.now a.body.now) c.told-words 4 0 refl
    (receive_common (state a.words.now) a.store.now a.output.now a.time a.a a.key.now a.body.now
    (late_common (state a.words.now) (length a.store.now) a.time c.requires c.if-time-gt52595999.true) (λ z. omega arith))

pub returns-then-wrong_fields : goal.returns-then-wrong_fields
unfolding receive_on
returns-then-wrong_fields c =
    let a = c.args in
    way_refused a.words.now a.store.now a.output.now (event a.store.now a.output.now a.time a.a a.key.now a.body.now) c.told-words 5 0 refl
    (receive_wrong (state a.words.now) a.store.now a.output.now a.time a.a a.key.now a.body.now (passed (goal.at.returns-then-wrong_fields c).Else-time-gt52595999) (sym c.wrong_fields.ensures ∙ c.if-wrong_fields.true))

pub routed_to-to-requires : goal.routed_to-to-requires
routed_to-to-requires c = routable (bounds (goal.at.routed_to-to-requires c).Else-time-gt52595999)

pub unrouted-requires : goal.unrouted-requires
unrouted-requires c = (bounds (goal.at.unrouted-requires c).Else-time-gt52595999).few

pub returns-in_default : goal.returns-in_default
unfolding receive_on
returns-in_default c =
    let a = c.args in
    let m = state a.words.now in
    let r : routed_of None ≡ routed_to m a.a a.key.now = ap routed_of (sym c.in_default.is) ∙ c.routed_to-to.ensures.0 in
    way_told a.words.now a.store.now a.output.now (event a.store.now a.output.now a.time a.a a.key.now a.body.now) c.told-words (unrouted_or m c.effective_time-t.result c.routed_to-to.result.compared) c.unrouted.ensures
    (ap (λ (t : ℕ). after (unrouted_or m t c.routed_to-to.result.compared) a.store.now a.output.now) (time_is (goal.at.returns-in_default c).After-effective_time-t)
    ∙ receive_unrouted m a.store.now a.output.now a.time a.a a.key.now a.body.now (passed (goal.at.returns-in_default c).Else-time-gt52595999) (passed5 (goal.at.returns-in_default c).Else-wrong_fields) c.routed_to-to.ensures.1 r refl)

pub route_at-r-requires : goal.route_at-r-requires
route_at-r-requires c = few (goal.at.route_at-r-requires c).In-Some (bounds (goal.at.route_at-r-requires c).Else-time-gt52595999)

pub is_lost-requires : goal.is_lost-requires
is_lost-requires c =
    let a = c.args in
    usable a.a (length a.key.now) (passed5 (goal.at.is_lost-requires c).Else-wrong_fields) (route (goal.at.is_lost-requires c).In-Some).0

pub lost-requires : goal.lost-requires
lost-requires c = reading (goal.at.lost-requires c).After-route_at-r (few (goal.at.lost-requires c).In-Some (bounds (goal.at.lost-requires c).Else-time-gt52595999))

pub returns-then-is_lost : goal.returns-then-is_lost
unfolding receive_on
returns-then-is_lost c =
    let a = c.args in
    let m = state a.words.now in
    let i = c.in-Some.found.at in
    way_told a.words.now a.store.now a.output.now (event a.store.now a.output.now a.time a.a a.key.now a.body.now) c.told-words (lost_or m c.effective_time-t.result i c.routed_to-to.result.compared) c.lost.ensures
    (ap (λ (t : ℕ). after (lost_or m t i c.routed_to-to.result.compared) a.store.now a.output.now) (time_is (goal.at.returns-then-is_lost c).After-effective_time-t)
    ∙ receive_lost m a.store.now a.output.now a.time a.a a.key.now a.body.now (passed (goal.at.returns-then-is_lost c).Else-time-gt52595999) (passed5 (goal.at.returns-then-is_lost c).Else-wrong_fields) c.routed_to-to.ensures.1 (to (goal.at.returns-then-is_lost c).In-Some) refl (sym (lost_is (goal.at.returns-then-is_lost c).After-is_lost) ∙ c.if-is_lost.true))

pub region_base-from-requires : goal.region_base-from-requires
region_base-from-requires c = omega (arith, few (goal.at.region_base-from-requires c).In-Some (bounds (goal.at.region_base-from-requires c).Else-time-gt52595999))

pub does_join-requires : goal.does_join-requires
does_join-requires c = (fitted (goal.at.does_join-requires c).After-region_base-from (ready (goal.at.does_join-requires c).Else-is_lost)).suitable

pub join-joined-requires : goal.join-joined-requires
join-joined-requires c =
    let p = fitted (goal.at.join-joined-requires c).After-region_base-from (ready (goal.at.join-joined-requires c).Else-is_lost) in
    (p.suitable, p.region, joining (goal.at.join-joined-requires c).Then-does_join)

pub put-requires : goal.put-requires
put-requires c =
    (few (goal.at.put-requires c).In-Some (bounds (goal.at.put-requires c).Else-time-gt52595999), omega (arith, ap (λ (x : Route). x.file.opened) c.join-joined.ensures.0, c.route_at-r.ensures.1))

pub returns-then-does_join : goal.returns-then-does_join
unfolding receive_on
returns-then-does_join c =
    let a = c.args in
    let m = state a.words.now in
    let s = (goal.at.returns-then-does_join c).In-Some in
    let w = bounds (goal.at.returns-then-does_join c).Else-time-gt52595999 in
    way_changed a.words.now a.store.now a.output.now (event a.store.now a.output.now a.time a.a a.key.now a.body.now) c.told-words c.in-Some.found.at (few s w) c.join-joined.result
    (ap (λ (x : Route). x.settings) c.join-joined.ensures.0 ∙ ap (λ (x : Route). x.settings) c.route_at-r.ensures.0)
    c.effective_time-t.result 2 0 0 c.routed_to-to.result.compared c.accept.ensures c.put.ensures
    (receive_placed m a.store.now a.output.now a.time a.a a.key.now a.body.now (passed (goal.at.returns-then-does_join c).Else-time-gt52595999) (passed5 (goal.at.returns-then-does_join c).Else-wrong_fields) c.routed_to-to.ensures.1 (to s) refl
    (placed (goal.at.returns-then-does_join c).Else-is_lost) (time_is (goal.at.returns-then-does_join c).After-effective_time-t)
    refl c.region_base-from.ensures c.route_at-r.ensures.0 (there s w)
    (joined_place c.route_at-r.result a.a a.body.now c.effective_time-t.result (joining (goal.at.returns-then-does_join c).Then-does_join) (node_of m) c.region_base-from.result a.store.now a.output.now c.join-joined.ensures.0 c.join-joined.ensures.1)
    refl)

pub place-requires : goal.place-requires
place-requires c =
    placeable_as (state c.args.words.now) c.in-Some.found.at c.node_of.ensures c.region_base-from.ensures c.route_at-r.ensures.0 (placeable (ready (goal.at.place-requires c).Else-is_lost))

pub returns-in_err-p : goal.returns-in_err-p
unfolding receive_on
returns-in_err-p c =
    let a = c.args in
    let m = state a.words.now in
    let s = (goal.at.returns-in_err-p c).In-Some in
    let w = bounds (goal.at.returns-in_err-p c).Else-time-gt52595999 in
    let r = c.in_err-p.field-0.0 in
    let q : c.from_residual.result ≡ Err r = search rules in
    rw q (way_refused a.words.now a.store.now a.output.now (event a.store.now a.output.now a.time a.a a.key.now a.body.now) c.told-words 17 (needed r)
    (ap (λ (k : ℕ). refusal_of k (needed r)) c.in_err-p.ensures.refused)
    (receive_short m a.store.now a.output.now a.time a.a a.key.now a.body.now (passed (goal.at.returns-in_err-p c).Else-time-gt52595999) (passed5 (goal.at.returns-in_err-p c).Else-wrong_fields) c.routed_to-to.ensures.1 (to s) refl
    (placed (goal.at.returns-in_err-p c).Else-is_lost) (time_is (goal.at.returns-in_err-p c).After-effective_time-t)
    c.node_of.ensures c.region_base-from.ensures c.route_at-r.ensures.0 (there s w) c.in_err-p.ensures.placed refl))

-- the route that placing leaves
route_left : (c : goal.In_ok-p) → c.in_ok-p.p.route ≡ finished c.route_at-r.result c.args.a (length c.args.body.now) c.effective_time-t.result
route_left c =
    let a = c.args in
    placed_route c.node_of.result c.region_base-from.result c.route_at-r.result a.store.now a.output.now c.effective_time-t.result a.a a.body.now c.in_ok-p.ensures.placed refl

pub put-requires-2 : goal.put-requires-2
put-requires-2 c =
    let left = route_left (goal.at.put-requires-2 c).In_ok-p in
    let able = ready (goal.at.put-requires-2 c).Else-is_lost in
    let times = finished_early c.route_at-r.result c.effective_time-t.result c.route_at-r.ensures.1 (omega (arith, able.time)) c.args.a (length c.args.body.now) in
    (few (goal.at.put-requires-2 c).In-Some (bounds (goal.at.put-requires-2 c).Else-time-gt52595999), omega (arith, ap (λ (x : Route). x.file.opened) left, times))

pub returns : goal.returns
unfolding receive_on
returns c =
    let a = c.args in
    let m = state a.words.now in
    let s = (goal.at.returns c).In-Some in
    let w = bounds (goal.at.returns c).Else-time-gt52595999 in
    let p = c.in_ok-p.p in
    way_changed a.words.now a.store.now a.output.now (event a.store.now a.output.now a.time a.a a.key.now a.body.now) c.told-words c.in-Some.found.at (few s w) p.route
    (ap (λ (x : Route). x.settings) (route_left (goal.at.returns c).In_ok-p) ∙ finished_settings c.route_at-r.result a.a (length a.body.now) c.effective_time-t.result ∙ ap (λ (x : Route). x.settings) c.route_at-r.ensures.0)
    c.effective_time-t.result 2 p.files p.octets c.routed_to-to.result.compared c.accept-2.ensures c.put-2.ensures
    (receive_placed m a.store.now a.output.now a.time a.a a.key.now a.body.now (passed (goal.at.returns c).Else-time-gt52595999) (passed5 (goal.at.returns c).Else-wrong_fields) c.routed_to-to.ensures.1 (to s) refl
    (placed (goal.at.returns c).Else-is_lost) (time_is (goal.at.returns c).After-effective_time-t)
    c.node_of.ensures c.region_base-from.ensures c.route_at-r.ensures.0 (there s w) c.in_ok-p.ensures.placed refl)
