use mathlib.Core.Path.{◌≡◌, sym, ap, ◌∙◌}
use mathlib.Core.Bool.{true, cond}
use mathlib.Core.List.{List}
use Prim.Native.Nat.{ℕ, ◌+◌, ◌≤◌, ◌<◌}
use native.Mathlib.Omega.{arith}
use Rattle.octets.specs.Splice.{splice}
use Rattle.state.specs.declared.Route.{Route}
use Rattle.state.specs.declared.Node.{Node}
use Rattle.state.specs.Manager.{Manager}
use Rattle.state.specs.Manager.{route_at, base, node_of}
use Rattle.state.specs.Regions.{region_within}
use Rattle.words.specs.Words.{manager_in}
use Rattle.words.specs.Laws.{twenty}
use Rattle.filing.specs.Closing.{lost_octet, closed_file, closed_size}
use Rattle.filing.specs.Closed.{closed_length}
use Rattle.filing.specs.Needs.{Closable}
use Rattle.events.specs.Met.{met}
use Rattle.events.specs.Rules.{closed_route, due, ending}
use Rattle.events.specs.Events.{met_at, ends, end_reason}
use Rattle.events.specs.Cases.{closable_as, closed_as}
use Rattle.manager.specs.Tick.{begins, same_route, same_sets, meets, ready, turn_not, turn_due}
use Rattle.manager.proofs.ticking.close_due.Goals as goal
use Rattle.manager.proofs.ticking.close_due.Goals.{After-is_met-met, After-route_at-r, In-Some, in-Some, in_default}

abbrev state : List ℕ → Manager
state words = manager_in words

few : (c : goal.After-route_at-r) → c.args.n ≤ 8
few c = omega (arith, c.requires.few, c.requires.state.few)

below : (c : goal.After-route_at-r) → c.loop-i.i < 8
below c = omega (arith, few c, c.loop-i-test.true)

route_is : (c : goal.After-route_at-r) → c.route_at-r.result ≡ route_at (state c.args.words.now) c.loop-i.i
route_is c = c.route_at-r.ensures.0 ∙ same_route _ _ _ _ _ c.loop-i.invariant.1 c.loop-i-test.true (few c)

-- what is looked at to tell whether its file ends is the state's
looked : (c : goal.After-is_met-met) → ending c.args.t c.route_at-r.result c.is_met-met.result ≡ ends (state c.args.words.now) c.args.t c.loop-i.i
looked c =
    let l = c.loop-i in
    let m = state c.args.words.now in
    let t = c.args.t in
    let low : c.args.n ≤ 8 = omega (arith, c.requires.few, c.requires.state.few) in
    let read : c.route_at-r.result ≡ route_at m l.i = c.route_at-r.ensures.0 ∙ same_route _ _ _ _ _ l.invariant.1 c.loop-i-test.true low in
    let sets = same_sets _ _ _ _ _ l.invariant.1 c.loop-i-test.true low in
    let fell : c.is_met-met.result ≡ met_at m t l.i = c.is_met-met.ensures ∙ (λ k. met (sets k) l.i (l.invariant.0 k).bias (read k).file.opened t) in
    λ k. ending t (read k) (fell k)

-- it ends
told : (c : goal.In-Some) → ending c.args.t c.route_at-r.result c.is_met-met.result ≡ ends (state c.args.words.now) c.args.t c.loop-i.i → ends (state c.args.words.now) c.args.t c.loop-i.i ≡ true
told c same = sym (c.in-Some.ensures.ends ∙ same)

-- a file that ends can be closed behind those before it
closable : (c : goal.After-route_at-r)
    → let l = c.loop-i in
    let r = route_at (state c.args.words.now) l.i in
    ends (state c.args.words.now) c.args.t l.i ≡ true
    → Closable (node_of (state c.args.words.now)) r (lost_octet r) c.args.store.now (base (state c.args.words.now) l.i) l.output l.at
closable c e = ready _ _ _ _ _ c.loop-i.invariant.1 c.loop-i-test.true e c.requires

pub loop-i-init : goal.loop-i-init
loop-i-init c = (c.node_of-node.ensures, begins _ _ _ _ _ c.told-words)

pub route_at-r-requires : goal.route_at-r-requires
route_at-r-requires c = omega (arith, c.requires.few, c.requires.state.few, c.loop-i-test.true)

pub is_met-met-requires : goal.is_met-met-requires
is_met-met-requires c =
    let l = c.loop-i in
    meets _ _ _ _ _ l.invariant.1 c.loop-i-test.true c.requires c.route_at-r.ensures.1 (ap (λ (n : Node). n.bias) l.invariant.0)

pub close_file-requires : goal.close_file-requires
close_file-requires c =
    let l = c.loop-i in
    closable_as (state c.args.words.now) l.i l.invariant.0 (route_is (goal.at.close_file-requires c).After-route_at-r) l.invariant.1.from (closable (goal.at.close_file-requires c).After-route_at-r (told (goal.at.close_file-requires c).In-Some (looked (goal.at.close_file-requires c).After-is_met-met)))

pub put_route-requires : goal.put_route-requires
put_route-requires c =
    let l = c.loop-i in
    let file = c.closed_route-closed.ensures in
    (below (goal.at.put_route-requires c).After-route_at-r, omega (arith, ap (λ (r : Route). r.file.opened) file))

pub overflow_add-at : goal.overflow_add-at
overflow_add-at c =
    let l = c.loop-i in
    let n = c.closed_size-at.ensures ∙ ap closed_size (route_is (goal.at.overflow_add-at c).After-route_at-r) in
    omega (arith, (closable (goal.at.overflow_add-at c).After-route_at-r (told (goal.at.overflow_add-at c).In-Some (looked (goal.at.overflow_add-at c).After-is_met-met))).room, l.invariant.1.long, n, c.ranges)

pub overflow_add-files : goal.overflow_add-files
overflow_add-files c =
    omega (arith, c.loop-i.invariant.1.few, below (goal.at.overflow_add-files c).After-route_at-r)

pub overflow_add-from : goal.overflow_add-from
overflow_add-from c =
    let l = c.loop-i in
    let m = state c.args.words.now in
    let p = c.requires in
    let limit = ap (λ (r : Route). r.settings.limit) (route_is (goal.at.overflow_add-from c).After-route_at-r) in
    omega (arith, l.invariant.1.from, limit, region_within m l.i m.count (omega (arith, p.few, c.loop-i-test.true)), p.regions, c.ranges)

pub loop-i-preserved : goal.loop-i-preserved
loop-i-preserved c =
    let l = c.loop-i in
    let a = c.args in
    let v = l.invariant.1 in
    let more = c.loop-i-test.true in
    let read = route_is (goal.at.loop-i-preserved c).After-route_at-r in
    let same = looked (goal.at.loop-i-preserved c).After-is_met-met in
    let limit = ap (λ (r : Route). r.settings.limit) read in
    elim c.match-ending.branch [
      | in-Some w ↦
          let ends_now = sym (w.in-Some.ensures.ends ∙ same) in
          let able = closable (goal.at.loop-i-preserved c).After-route_at-r ends_now in
          let reason : w.number.result ≡ end_reason (state a.words.now) a.t l.i = w.number.ensures ∙ w.in-Some.ensures.reason ∙ ap (λ (r : Route). cond (due a.t r) 2 0) read in
          rw (w.words-is, w.output-is, w.at-is, w.files-is) (
            l.invariant.0,
            turn_due _ _ _ _ _ v more ends_now (few (goal.at.loop-i-preserved c).After-route_at-r) limit (ap (λ (n : ℕ). l.at + n) (w.closed_size-at.ensures ∙ ap closed_size read))
                (w.close_file.ensures
                ∙ ap (splice l.output l.at)
                (closed_as (state a.words.now) a.store.now l.i w.number.result l.invariant.0 read v.from ∙ ap (closed_file (state a.words.now) a.store.now l.i) reason))
                (closed_length (state a.words.now) a.store.now l.i (end_reason (state a.words.now) a.t l.i) able.records able.filter (twenty a.words.now l.i (below (goal.at.loop-i-preserved c).After-route_at-r)))
                w.close_file.auto.output
                (w.closed_route-closed.ensures ∙ ap closed_route read) w.put_route.ensures,
          )
      | in_default w ↦
          rw (w.words-is, w.output-is, w.at-is, w.files-is) (l.invariant.0, turn_not _ _ _ _ _ v more limit (sym (w.in_default.ensures.ends ∙ same)))
    ]
