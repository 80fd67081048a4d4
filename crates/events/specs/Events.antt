-- OPEN, CLOSE and TICK (document 01, The events; Refusals; document 02, ask 6) over any state, store, output and arguments: the refusals in
-- their order, or what the event leaves: answer, state, store and output. Assumes nothing.
use Rattle.std.specs.Prelude.{ℕ, zero, suc, ◌+◌, Bool, cond, not, List, [], ◌∷◌, ◌++◌, length, ◌==◌, nat_le, nat_lt}
use Rattle.octets.specs.Splice.{splice}
use Rattle.refusals.specs.Refusal.{Rule, ◌when◌, first}
use Rattle.state.specs.declared.Route.{Route}
use Rattle.state.specs.Manager.{Manager}
use Rattle.state.specs.Manager.{route_at, effective, with_route, with_time}
use Rattle.state.specs.Common.{common}
use Rattle.filing.specs.Closing.{closed_file, closed_size}
use Rattle.events.specs.declared.Answer.{Answer}
use Rattle.events.specs.Met.{met}
use Rattle.events.specs.Rules.{opened_route, closed_route, due, ending, allowed}

-- an event's answer and the state behind it
pub record Outcome : Type 0 where
  pub answer : Answer
  pub manager : Manager

-- what an event leaves
pub record After : Type 0 where
  pub outcome : Outcome
  pub store : List ℕ
  pub output : List ℕ

abbrev pub after : Outcome → List ℕ → List ℕ → After
after o store output = record { outcome = o; store = store; output = output }

-- a refusal carries its number and zeros elsewhere, but 17 the needed octets; state, store and output stay
abbrev pub refusal_of : ℕ → ℕ → Answer
refusal_of number needed = record { refusal = number; outcome = 0; route = 0; files = 0; compared = 0; octets = cond (number == 17) needed 0 }

abbrev pub refused : ℕ → ℕ → Manager → Outcome
refused number needed m = record { answer = refusal_of number needed; manager = m }

abbrev pub settled : ℕ → ℕ → Manager → List ℕ → List ℕ → After → After
settled zero needed m store output done = done
settled (suc n) needed m store output done = after (refused (suc n) needed m) store output

-- an accepted event's answer; `compared` are the octets of filters that RECEIVE compared, of which the others compare none (document 02, ask 7)
abbrev pub answered : ℕ → ℕ → ℕ → ℕ → ℕ → Answer
answered outcome route files octets compared =
    record { refusal = 0; outcome = outcome; route = route; files = files; compared = compared; octets = octets }

-- an accepted event at time t that leaves the route i as r
abbrev pub changed : Manager → ℕ → ℕ → Route → ℕ → ℕ → ℕ → ℕ → Outcome
changed m t i r outcome files octets compared =
    record { answer = answered outcome i files octets compared; manager = with_time (with_route m i r) t }

-- OPEN
abbrev pub open_rules : Manager → ℕ → ℕ → ℕ → List Rule
open_rules m store time route =
    common m store time
    ((6 when nat_le m.count route)
    ∷ (14 when (route_at m route).«open»)
    ∷ [])

abbrev pub opened : Manager → List ℕ → List ℕ → ℕ → ℕ → After
opened m store output time route =
    after (changed m (effective m time) route (opened_route (route_at m route) (effective m time)) 1 0 0 0) store output

unfoldable pub open_of : Manager → List ℕ → List ℕ → ℕ → ℕ → After
open_of m store output time route =
    settled (first (open_rules m (length store) time route)) 0 m store output (opened m store output time route)

-- CLOSE
abbrev pub close_rules : Manager → ℕ → ℕ → ℕ → ℕ → ℕ → List Rule
close_rules m store output time route reason =
    common m store time
    ((6 when nat_le m.count route)
    ∷ (7 when not (allowed reason))
    ∷ (15 when not (route_at m route).«open»)
    ∷ (17 when nat_lt output (closed_size (route_at m route)))
    ∷ [])

abbrev pub closed : Manager → List ℕ → List ℕ → ℕ → ℕ → ℕ → After
closed m store output time route reason =
    after
    (changed m (effective m time) route (closed_route (route_at m route)) 5 1 (closed_size (route_at m route)) 0)
    store
    (splice output 0 (closed_file m store route reason))

unfoldable pub close_of : Manager → List ℕ → List ℕ → ℕ → ℕ → ℕ → After
close_of m store output time route reason =
    settled (first (close_rules m (length store) (length output) time route reason)) (closed_size (route_at m route)) m store output
    (closed m store output time route reason)

-- TICK: the routes below n, in order. A file closes with 2 if its age has reached the limit, or else with 0 if a set minute has fallen in
-- its time (document 02, ask 6)
abbrev pub met_at : Manager → ℕ → ℕ → Bool
met_at m t i = met m.set_times i m.bias (route_at m i).file.opened t

abbrev pub ends : Manager → ℕ → ℕ → Bool
ends m t i = ending t (route_at m i) (met_at m t i)

abbrev pub end_reason : Manager → ℕ → ℕ → ℕ
end_reason m t i = cond (due t (route_at m i)) 2 0

pub record Run : Type 0 where
  pub manager : Manager
  pub octets : List ℕ
  pub files : ℕ

abbrev pub closing : Manager → List ℕ → ℕ → ℕ → Run → Run
closing m store t i run =
    record {
      manager = with_route run.manager i (closed_route (route_at m i));
      octets = run.octets ++ closed_file m store i (end_reason m t i);
      files = run.files + 1;
    }

abbrev pub up_to : Manager → List ℕ → ℕ → ℕ → Run
up_to m store t zero = record { manager = m; octets = []; files = 0 }
up_to m store t (suc n) = cond (ends m t n) (closing m store t n (up_to m store t n)) (up_to m store t n)

-- the octets of the files that end, from the state alone
abbrev pub due_size : Manager → ℕ → ℕ → ℕ
due_size m t zero = 0
due_size m t (suc n) = due_size m t n + cond (ends m t n) (closed_size (route_at m n)) 0

abbrev pub tick_rules : Manager → ℕ → ℕ → ℕ → List Rule
tick_rules m store output time =
    common m store time
    ((17 when nat_lt output (due_size m (effective m time) m.count))
    ∷ [])

abbrev pub ticked : Manager → List ℕ → List ℕ → ℕ → After
ticked m store output time =
    after
    (record {
      answer = answered 6 255 (up_to m store (effective m time) m.count).files (due_size m (effective m time) m.count) 0;
      manager = with_time (up_to m store (effective m time) m.count).manager (effective m time);
    })
    store
    (splice output 0 (up_to m store (effective m time) m.count).octets)

unfoldable pub tick_of : Manager → List ℕ → List ℕ → ℕ → After
tick_of m store output time =
    settled (first (tick_rules m (length store) (length output) time)) (due_size m (effective m time) m.count) m store output
    (ticked m store output time)
