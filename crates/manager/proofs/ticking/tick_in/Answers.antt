-- `manager::ticking::tick_in` meets its contract: each way out is a case of the definition. The refusals that were passed say what
-- the closings need. Assumes nothing.
use Rattle.std.proofs.Common.{rules, ◌≡◌, ℕ, List, [], length, ◌≤◌, Err, sym, ap, ◌∙◌, refl, arith}
use Rattle.refusals.specs.Refusal.{first}
use Rattle.refusals.specs.Number.{number}
use Rattle.state.specs.Manager.{Manager}
use Rattle.state.specs.Manager.{effective}
use Rattle.words.specs.Words.{manager_in}
use Rattle.events.specs.Events.{After, after, refused, due_size, tick_of}
use Rattle.state.specs.Common.{common}
use Rattle.events.specs.Lent.{tick_on}
use Rattle.events.specs.Ways.{right_number, way_refused}
use Rattle.events.specs.Answering.{number_some, way_judged}
use Rattle.events.specs.Cases.{Passed, common_passed, tick_refused, tick_short, tick_done}
use Rattle.manager.specs.Tick.{ticked_none, ticked_made}
use Rattle.manager.proofs.ticking.tick_in.Goals as goal
use Rattle.manager.proofs.ticking.tick_in.Goals.{After-due_size-size, After-effective_time-t, In_ok-judge}

-- The state, and the event on it.
abbrev state : List ℕ → Manager
state words = manager_in words

abbrev event : List ℕ → List ℕ → ℕ → Manager → After
event store output time m = tick_of m store output time

-- none of the first refusals applies
passes : (c : goal.In_ok-judge) → first (common (state c.args.words.now) (length c.args.store.now) c.args.time []) ≡ 0
passes c = sym c.in_ok-judge.ensures

-- so the state is within its bounds
ready : (c : goal.In_ok-judge) → Passed (state c.args.words.now) (length c.args.store.now) c.args.time
ready c = let a = c.args in (common_passed (state c.args.words.now) (length a.store.now) a.time [] (passes c)).0

time_is : (c : goal.After-effective_time-t) → c.effective_time-t.result ≡ effective (state c.args.words.now) c.args.time
unfolding manager_in
time_is c = c.effective_time-t.ensures

-- which is in range
early : (c : goal.After-effective_time-t) → c.effective_time-t.result ≤ 52595999
early c =
    let a = c.args in
    let p = (common_passed (state a.words.now) (length a.store.now) a.time [] (sym c.in_ok-judge.ensures)).0 in
    omega (arith, time_is c, p.state.last, p.early)

needed : (c : goal.After-due_size-size)
    → c.due_size-size.result ≡ due_size (state c.args.words.now) (effective (state c.args.words.now) c.args.time) (state c.args.words.now).count
unfolding manager_in
needed c =
    let early_time : c.effective_time-t.result ≡ effective (state c.args.words.now) c.args.time = c.effective_time-t.ensures in
    c.due_size-size.ensures ∙ (λ i. due_size (state c.args.words.now) (early_time i) (c.count_of-n.ensures i))

pub returns-in_err-judge : goal.returns-in_err-judge
unfolding tick_on
returns-in_err-judge c =
    let a = c.args in
    let m = state a.words.now in
    let r = c.in_err-judge.field-0.0 in
    let q : c.from_residual.result ≡ Err r = search rules in
    let n : number r ≡ first (common m (length a.store.now) a.time []) = c.in_err-judge.ensures in
    rw q (way_judged a.words.now a.store.now a.output.now (event a.store.now a.output.now a.time) c.told-words (common m (length a.store.now) a.time []) refl r n
    (tick_refused m a.store.now a.output.now a.time (number r) n (number_some r)))

pub due_size-size-requires : goal.due_size-size-requires
due_size-size-requires c =
    record { state = (ready (goal.at.due_size-size-requires c).In_ok-judge).state; few = omega (arith, c.count_of-n.ensures); time = early (goal.at.due_size-size-requires c).After-effective_time-t }

pub returns-then-output-size : goal.returns-then-output-size
unfolding tick_on
returns-then-output-size c =
    let a = c.args in
    let n = needed (goal.at.returns-then-output-size c).After-due_size-size in
    way_refused a.words.now a.store.now a.output.now (event a.store.now a.output.now a.time) c.told-words 17 c.due_size-size.result refl
    (ap (λ (k : ℕ). after (refused 17 k (state a.words.now)) a.store.now a.output.now) n
    ∙ tick_short (state a.words.now) a.store.now a.output.now a.time (passes (goal.at.returns-then-output-size c).In_ok-judge) (omega (arith, n, c.if-output-size.true)))

pub returns-then-size-eq0 : goal.returns-then-size-eq0
unfolding tick_on
returns-then-size-eq0 c =
    let a = c.args in
    let m = state a.words.now in
    let n = c.count_of-n.ensures in
    let zero = c.due_size-size.ensures in
    let none = ticked_none a.words.now a.store.now a.output.now c.effective_time-t.result c.count_of-n.result c.told-words (sym zero ∙ c.if-size-eq0.true) in
    ticked_made m a.store.now a.output.now a.time (time_is (goal.at.returns-then-size-eq0 c).After-effective_time-t) n (sym c.if-size-eq0.true ∙ zero) none c.accept.ensures
    ∙ right_number a.words.now a.store.now a.output.now (event a.store.now a.output.now a.time) c.told-words
    (tick_done m a.store.now a.output.now a.time (passes (goal.at.returns-then-size-eq0 c).In_ok-judge) (omega (arith, needed (goal.at.returns-then-size-eq0 c).After-due_size-size, c.if-output-size.false)))

pub close_due-files-requires : goal.close_due-files-requires
close_due-files-requires c =
    let p = ready (goal.at.close_due-files-requires c).In_ok-judge in
    record {
      state = p.state;
      few = omega (arith, c.count_of-n.ensures);
      regions = p.store;
      room = omega (arith, c.due_size-size.ensures, c.if-output-size.false);
      time = early (goal.at.close_due-files-requires c).After-effective_time-t;
    }

pub returns : goal.returns
unfolding tick_on
returns c =
    let a = c.args in
    let m = state a.words.now in
    let d = c.close_due-files in
    let n = c.count_of-n.ensures in
    ticked_made m a.store.now a.output.now a.time (time_is (goal.at.returns c).After-effective_time-t) n c.due_size-size.ensures d.ensures c.accept-2.ensures
    ∙ right_number a.words.now a.store.now a.output.now (event a.store.now a.output.now a.time) c.told-words
    (tick_done m a.store.now a.output.now a.time (passes (goal.at.returns c).In_ok-judge) (omega (arith, needed (goal.at.returns c).After-due_size-size, c.if-output-size.false)))
