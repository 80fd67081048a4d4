-- `manager::opening::open_in` meets its contract: a refusal of OPEN is the first of the definition's, and behind them a route and the time change.
-- Assumes nothing.
use Rattle.std.proofs.Common.{rules, ◌≡◌, ℕ, List, [], ◌∷◌, length, ◌<◌, leb, Err, sym, ap, ◌∙◌, refl, arith}
use Rattle.refusals.specs.Refusal.{◌when◌, first}
use Rattle.refusals.specs.Number.{number}
use Rattle.state.specs.declared.Route.{Route}
use Rattle.state.specs.Manager.{Manager}
use Rattle.state.specs.Manager.{route_at, effective}
use Rattle.words.specs.Words.{manager_in}
use Rattle.events.specs.Events.{open_rules, open_of}
use Rattle.events.specs.Lent.{open_on}
use Rattle.events.specs.Ways.{way_changed}
use Rattle.events.specs.Answering.{number_some, way_judged}
use Rattle.events.specs.Cases.{open_refused, open_done, opened_made, open_there}
use Rattle.events.specs.Held.{low_time}
use Rattle.manager.proofs.opening.open_in.Goals as goal
use Rattle.manager.proofs.opening.open_in.Goals.{After-effective_time-t, In_ok-judge_open}

abbrev state : List ℕ → Manager
state words = manager_in words

there : (c : goal.In_ok-judge_open) → c.args.route < 8
there c = let a = c.args in open_there (state a.words.now) a.store a.time a.route (sym c.in_ok-judge_open.ensures)

-- the effective time is early enough
early : (c : goal.In_ok-judge_open) → effective (state c.args.words.now) c.args.time < 2147483648
early c =
    let a = c.args in
    let m = state a.words.now in
    (low_time m a.store a.time ((6 when leb m.count a.route) ∷ (14 when (route_at m a.route).«open») ∷ []) (sym c.in_ok-judge_open.ensures)).0

time_is : (c : goal.After-effective_time-t) → c.effective_time-t.result ≡ effective (state c.args.words.now) c.args.time
unfolding manager_in
time_is c = c.effective_time-t.ensures

pub returns-in_err-judge_open : goal.returns-in_err-judge_open
unfolding open_on
returns-in_err-judge_open c s o e =
    let a = c.args in
    let m = state a.words.now in
    let r = c.in_err-judge_open.field-0.0 in
    let q : c.from_residual.result ≡ Err r = search rules in
    let n : number r ≡ first (open_rules m (length s) a.time a.route) = c.in_err-judge_open.ensures ∙ ap (λ (k : ℕ). first (open_rules m k a.time a.route)) (sym e) in
    rw q (way_judged a.words.now s o (λ k. open_of k s o a.time a.route) c.told-words (open_rules m (length s) a.time a.route) refl r n
    (open_refused m s o a.time a.route (number r) n (number_some r)))

pub route_at-r-requires : goal.route_at-r-requires
route_at-r-requires c = there (goal.at.route_at-r-requires c).In_ok-judge_open

pub put-requires : goal.put-requires
put-requires c =
    let t = early (goal.at.put-requires c).In_ok-judge_open in
    let l = time_is (goal.at.put-requires c).After-effective_time-t in
    (there (goal.at.put-requires c).In_ok-judge_open, omega (arith, ap (λ (r : Route). r.file.opened) c.opened_route-opened.ensures, t, l))

pub overflow_cast-i-2 : goal.overflow_cast-i-2
overflow_cast-i-2 c = omega (arith, there (goal.at.overflow_cast-i-2 c).In_ok-judge_open)

pub returns : goal.returns
unfolding open_on
returns c s o e =
    let a = c.args in
    let m = state a.words.now in
    let r = c.opened_route-opened in
    let q = c.route_at-r.ensures.0 in
    let p : first (open_rules m (length s) a.time a.route) ≡ 0 = ap (λ (k : ℕ). first (open_rules m k a.time a.route)) e ∙ sym c.in_ok-judge_open.ensures in
    way_changed a.words.now s o (λ k. open_of k s o a.time a.route) c.told-words a.route (there (goal.at.returns c).In_ok-judge_open) r.result
    (ap (λ (x : Route). x.settings) r.ensures ∙ ap (λ (x : Route). x.settings) q) c.effective_time-t.result 1 0 0 0
    c.accept.ensures c.put.ensures
    (opened_made m s o a.time a.route (time_is (goal.at.returns c).After-effective_time-t) q r.ensures ∙ open_done m s o a.time a.route p)
