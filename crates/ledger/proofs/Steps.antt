-- One event: where a manager and its store agree with a ledger, the event's answer and output are the ledger's, its files are
-- right, and both agree behind it. Here what every event shares, and OPEN. Assumes nothing.
use Rattle.std.specs.Prelude.{◌≡◌, refl, true, cond, not, ◌&&◌, List, [], ◌∷◌, ℕ, zero, suc, ◌≤◌, ◌<◌, max, ltb, leb, eqb, length}
use Rattle.std.proofs.Common.{sym, ap, arith, ltb-false, leb-false, ne_eqb}
use Rattle.std.proofs.Math.Path.{subst}
use Rattle.std.proofs.Math.Decide.{ℕ_discrete}
use Rattle.octets.specs.Splice.{splice, splice_nil}
use Rattle.refusals.specs.Refusal.{Rule, ◌when◌, first, passed}
use Rattle.roundtrip.specs.Described.{RightFile}
use Rattle.state.specs.declared.Route.{Route}
use Rattle.state.specs.Manager.{Manager}
use Rattle.state.specs.Manager.{route_at, settings_at, regions, effective, with_route, with_time}
use Rattle.state.specs.Bounds.{route_right, state_right}
use Rattle.state.specs.Within.{RouteWithin, route_within, within, right_within}
use Rattle.state.specs.Keep.{within_kept, settings_kept, route_set, route_unset, route_later}
use Rattle.events.specs.declared.Answer.{Answer}
use Rattle.events.specs.Rules.{opened_route}
use Rattle.events.specs.Events.{After, settled, answered, open_rules, opened, open_of}
use Rattle.state.specs.Common.{common}
use Rattle.ledger.specs.Event.{Event, open_event}
use Rattle.ledger.specs.Ledger.{Ledger, line_at, Closing, Entry, lengths, open_line, carried, outcome_of, compared_of, needed_by, refusal, answer_by, entry_by, answer_of, entry_of}
use Rattle.ledger.specs.Ledger.{effective as book_time}
use Rattle.ledger.specs.Ledger.{route_of as route_booked}
use Rattle.ledger.specs.Run.{happens, joined}
use Rattle.ledger.proofs.Agrees.{Agrees}
use Rattle.events.specs.Right.{opened_right}
use Rattle.ledger.proofs.Lines.{open_agrees}
use Rattle.ledger.proofs.Regions.{few, last_right, settings_right_lem, settings_bounds, agrees_with}
use Rattle.ledger.proofs.Refusals.{open_refusal}

abbrev pub AllRightFiles : List Closing → Type 0
AllRightFiles [] = Unit {0}
AllRightFiles (c ∷ cs) = RightFile c.file × AllRightFiles cs

-- what an event leaves, beside what the ledger books
pub record Holds (store output : List ℕ) (done : After) (answer : Answer) (entry : Entry) : Type 0 where
  pub answers : done.outcome.answer ≡ answer
  pub agrees : Agrees done.store done.outcome.manager entry.ledger
  pub long : length done.store ≡ length store
  pub writes : done.output ≡ splice output 0 (joined entry.closings)
  pub room : length (joined entry.closings) ≤ length output
  pub right : AllRightFiles entry.closings

-- an accepted event's answer, at the effective time t
abbrev pub answer_at : Ledger → ℕ → Event → Answer
answer_at l t e = answered (outcome_of l e) (route_booked l e) (length (carried l t e).closings) (lengths (carried l t e).closings) (compared_of l e)

-- Refused or not: an event holds if its number is the ledger's, its needed octets are where it is 17, and it holds where it is
-- accepted.
module _ {store : List ℕ} (output : List ℕ) {m : Manager} {l : Ledger} (a : Agrees store m l) (e : Event) (needed : ℕ) (done : After) where
  at_time : (t : ℕ) → t ≡ book_time l e → Holds store output done (answer_at l t e) (carried l t e) → Holds store output done (answer_by zero l e) (entry_by zero l e)
  at_time t p h = subst (λ (u : ℕ). Holds store output done (answer_at l u e) (carried l u e)) p h

  -- a refusal's octets are those of 17, or none
  octets_same : (n : ℕ) → (n ≡ 17 → needed ≡ needed_by l e) → cond (eqb n 17) needed 0 ≡ cond (eqb n 17) (needed_by l e) 0
  octets_same n q = go (ℕ_discrete n 17)
    where
      go : Dec (n ≡ 17) → cond (eqb n 17) needed 0 ≡ cond (eqb n 17) (needed_by l e) 0
      go (yes p) = ap (λ (x : ℕ). cond (eqb n 17) x 0) (q p)
      go (no p) = rw (ne_eqb n 17 p)

  settles : (n : ℕ) → (n ≡ 17 → needed ≡ needed_by l e) → (n ≡ 0 → Holds store output done (answer_by zero l e) (entry_by zero l e))
      → Holds store output (settled n needed m store output done) (answer_by n l e) (entry_by n l e)
  settles zero q z = z refl
  settles (suc n) q z =
      record {
        answers = λ i. record { refusal = suc n; outcome = 0; route = 0; files = 0; compared = 0; octets = octets_same (suc n) q i };
        agrees = a;
        long = refl;
        writes = sym (splice_nil output 0);
        room = omega arith;
        right = tt;
      }

  pub event_holds : (n : ℕ) → n ≡ refusal l (length store) (length output) e → (n ≡ 17 → needed ≡ needed_by l e)
      → (n ≡ 0 → (t : ℕ) × (t ≡ book_time l e) × Holds store output done (answer_at l t e) (carried l t e))
      → Holds store output (settled n needed m store output done) (answer_of l (length store) (length output) e) (entry_of l (length store) (length output) e)
  unfolding answer_of entry_of
  event_holds n r q z =
      subst (λ (k : ℕ). Holds store output (settled n needed m store output done) (answer_by k l e) (entry_by k l e)) r
      (settles n q (λ p. let w = z p in at_time w.0 w.1 w.2))

-- What the first three tests leave open.
module _ {store : List ℕ} {m : Manager} {l : Ledger} (a : Agrees store m l) where
  pub common_passed : (n time : ℕ) (rs : List Rule) → first (common m n time rs) ≡ 0 → (regions m ≤ n) × (time ≤ 52595999) × (first rs ≡ 0)
  common_passed n time rs e =
      let p18 = passed 17 (not (state_right m)) ((16 when ltb n (regions m)) ∷ ((4 when ltb 52595999 time) ∷ rs)) e in
      let p16 = passed 15 (ltb n (regions m)) ((4 when ltb 52595999 time) ∷ rs) p18.1 in
      let p4 = passed 3 (ltb 52595999 time) rs p16.1 in
      (ltb-false n (regions m) p16.0, ltb-false 52595999 time p4.0, p4.1)

  -- the effective time is in range and no earlier
  pub effective_right : (time : ℕ) → time ≤ 52595999 → (m.last ≤ effective m time) × (effective m time ≤ 52595999)
  effective_right time h = (omega arith, omega (arith, last_right a))

  pub time_same : (time : ℕ) → effective m time ≡ max l.time time
  time_same time = ap (λ (x : ℕ). max x time) a.time

  -- a route replaced by one that is right at a later time: the state stays within its bounds
  pub state_kept : (i : ℕ) (r : Route) (t : ℕ) → i < m.count → r.settings ≡ settings_at m i → route_right t r ≡ true → m.last ≤ t → t ≤ 52595999
      → state_right (with_time (with_route m i r) t) ≡ true
  state_kept i r t h same right later most =
      let w = within m a.right in
      let there : i < length m.routes = omega (arith, a.eight, few a) in
      let n : Manager = with_time (with_route m i r) t in
      right_within n (within_kept m n (settings_kept m i r there same) w refl refl refl most (λ j k. go there j k (ℕ_discrete j i)))
    where
      go : i < length m.routes → (j : ℕ) → j < m.count → Dec (j ≡ i) → RouteWithin t (route_at (with_route m i r) j)
      go there j k (yes p) = rw (p, route_set m i r there) (route_within t r right)
      go there j k (no p) = rw (route_unset m i r there j p) (route_later ((within m a.right).routes j k) later)

-- OPEN.
module _ {store : List ℕ} {m : Manager} {l : Ledger} (a : Agrees store m l) (output : List ℕ) (time i : ℕ) where
  open_done : first (open_rules m (length store) time i) ≡ 0
      → (t : ℕ) × (t ≡ book_time l (open_event time i)) × Holds store output (opened m store output time i) (answer_at l t (open_event time i)) (carried l t (open_event time i))
  open_done e =
      let c = common_passed a (length store) time ((6 when leb m.count i) ∷ (14 when (route_at m i).«open») ∷ []) e in
      let p6 = passed 5 (leb m.count i) ((14 when (route_at m i).«open») ∷ []) c.2 in
      let h : i < m.count = leb-false m.count i p6.0 in
      let t = effective m time in
      let w = effective_right a time c.1 in
      let b = settings_bounds a i h in
      let right : route_right t (opened_route (route_at m i) t) ≡ true = λ j. settings_right_lem a i h j && opened_right (settings_at m i) (route_at m i).next t b.octets b.limit_least b.release j in (
        t,
        time_same a time,
        record {
          answers = refl;
          agrees =
              agrees_with a i (opened_route (route_at m i) t) (open_line (line_at l i) t) t h (open_agrees (a.lines i h) t) refl
              (state_kept a i (opened_route (route_at m i) t) t h refl right w.0 w.1) (λ j k z. a.lines j k);
          long = refl;
          writes = sym (splice_nil output 0);
          room = omega arith;
          right = tt;
        },
      )

  pub open_holds : Holds store output (happens m store output (open_event time i)) (answer_of l (length store) (length output) (open_event time i)) (entry_of l (length store) (length output) (open_event time i))
  unfolding open_of
  open_holds =
      event_holds output a (open_event time i) 0 (opened m store output time i) (first (open_rules m (length store) time i)) (open_refusal a (length output) time i) (λ z. refl) open_done
