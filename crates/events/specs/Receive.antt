-- RECEIVE (document 01, Routing and loss, The events; Refusals) over any state, store, output and arguments. A record is
-- *unrouted*, *lost* or *placed*. A placed one may first close the file with 5 or 1, opens a file if none is open, is written
-- behind the file's records, and may fill the file, which then closes with 3. Assumes nothing.
use Rattle.std.specs.Prelude.{ℕ, zero, suc, ◌+◌, Bool, cond, not, ◌&&◌, ◌||◌, List, [], ◌∷◌, ◌++◌, length, ◌==◌, nat_lt, slice_set}
use Rattle.octets.specs.Splice.{splice}
use Rattle.refusals.specs.Refusal.{Rule, ◌when◌, first}
use Rattle.refusals.specs.Below.{all_below}
use Rattle.record.specs.Record.{Record, record_octets}
use Rattle.state.specs.declared.Route.{Route}
use Rattle.state.specs.Manager.{Manager}
use Rattle.state.specs.Manager.{route_at, base, effective, with_route}
use Rattle.state.specs.Loss.{lost}
use Rattle.filing.specs.Closing.{closed_file, closed_size}
use Rattle.events.specs.declared.Arrival.{Arrival}
use Rattle.events.specs.Rules.{opened_route, closed_route, lost_route, noted_route, appended_route, differs, exceeds, full, wrong_fields, header_for, record_size, routed_to, compared_to}
use Rattle.events.specs.Events.{After, after, answered, changed, settled}
use Rattle.state.specs.Common.{common}

-- what becomes of a record
abbrev pub is_lost : Manager → Arrival → ℕ → ℕ → Bool
is_lost m a i body = lost (route_at m i).settings.limit (route_at m i).settings.octets a.mark (header_for a).release body

-- a placed record closes the open file first: with 5, else with 1
abbrev pub turns : Route → Arrival → ℕ → Bool
turns r a body = differs r (header_for a) || exceeds r (header_for a) (record_size a body)

abbrev pub turn_reason : Route → Arrival → ℕ
turn_reason r a = cond (differs r (header_for a)) 5 1

-- the route with an open file for the record
abbrev pub ready : Route → Arrival → ℕ → ℕ → Route
ready r a body t =
    cond (turns r a body) (opened_route (closed_route r) t) (cond r.«open» r (opened_route r t))

-- and with the record in it
abbrev pub holding : Route → Arrival → ℕ → ℕ → Route
holding r a body t = appended_route (ready r a body t) (header_for a) (record_size a body) t

-- and closed if that fills it
abbrev pub finished : Route → Arrival → ℕ → ℕ → Route
finished r a body t = cond (full (holding r a body t)) (closed_route (holding r a body t)) (holding r a body t)

abbrev pub record_of : Arrival → List ℕ → Record
record_of a body = record { header = header_for a; body = body }

-- the store with the record, behind the file's other records
abbrev pub store_with : Manager → List ℕ → ℕ → Arrival → List ℕ → ℕ → List ℕ
store_with m store i a body t =
    splice store (base m i + (ready (route_at m i) a (length body) t).file.octets) (record_octets (record_of a body))

-- the octets of the file that closes before the record, and of the one that it fills; at most one of them is there
abbrev pub turned_file : Manager → List ℕ → ℕ → Arrival → ℕ → List ℕ
turned_file m store i a body =
    cond (turns (route_at m i) a body) (closed_file m store i (turn_reason (route_at m i) a)) []

abbrev pub filled_file : Manager → List ℕ → ℕ → Arrival → List ℕ → ℕ → List ℕ
filled_file m store i a body t =
    cond (full (holding (route_at m i) a (length body) t))
    (closed_file (with_route m i (holding (route_at m i) a (length body) t)) (store_with m store i a body t) i 3)
    []

abbrev pub placed_size : Route → Arrival → ℕ → ℕ → ℕ
placed_size r a body t =
    cond (turns r a body) (closed_size r) 0 + cond (full (holding r a body t)) (closed_size (holding r a body t)) 0

abbrev pub placed_files : Route → Arrival → ℕ → ℕ → ℕ
placed_files r a body t = cond (turns r a body) 1 0 + cond (full (holding r a body t)) 1 0

-- the octets that the event needs: none unless the record is placed
abbrev pub needed : Manager → Arrival → List ℕ → ℕ → ℕ → ℕ
needed m a key body t =
    cond ((routed_to m a key).found && not (is_lost m a (routed_to m a key).at body))
    (placed_size (route_at m (routed_to m a key).at) a body t)
    0

-- 19: a loss counter at 4,294,967,295 that would rise. An unrouted record raises the manager's counter and that of each configured
-- route
abbrev pub can_note : Manager → ℕ → Bool
can_note m i = not ((route_at m i).unrouted == 4294967295)

abbrev pub unrouted_full : Manager → Bool
unrouted_full m = m.unrouted == 4294967295 || not (all_below (can_note m) m.count)

abbrev pub counters_full : Manager → Arrival → List ℕ → ℕ → Bool
counters_full m a key body =
    cond (routed_to m a key).found
    (is_lost m a (routed_to m a key).at body && (route_at m (routed_to m a key).at).losses == 4294967295)
    (unrouted_full m)

abbrev pub receive_rules : Manager → ℕ → ℕ → ℕ → Arrival → List ℕ → ℕ → List Rule
receive_rules m store output time a key body =
    common m store time
    ((5 when wrong_fields a (length key))
    ∷ (19 when counters_full m a key body)
    ∷ (17 when nat_lt output (needed m a key body (effective m time)))
    ∷ [])

-- unrouted: counted on all configured routes
abbrev pub noted : Manager → ℕ → List Route
noted m zero = m.routes
noted m (suc n) = slice_set (noted m n) n (noted_route (route_at m n))

abbrev pub unrouted : Manager → List ℕ → List ℕ → ℕ → ℕ → After
unrouted m store output t compared =
    after
    (record {
      answer = answered 4 255 0 0 compared;
      manager = record { routes = noted m m.count; count = m.count; address = m.address; bias = m.bias; last = t; unrouted = m.unrouted + 1; set_times = m.set_times };
    })
    store output

abbrev pub lost_at : Manager → List ℕ → List ℕ → ℕ → ℕ → ℕ → After
lost_at m store output t i compared =
    after (changed m t i (lost_route (route_at m i)) 3 0 0 compared) store output

abbrev pub placed_at : Manager → List ℕ → List ℕ → ℕ → Arrival → List ℕ → ℕ → ℕ → After
placed_at m store output t a body i compared =
    after
    (changed m t i (finished (route_at m i) a (length body) t) 2 (placed_files (route_at m i) a (length body) t) (placed_size (route_at m i) a (length body) t) compared)
    (store_with m store i a body t)
    (splice output 0 (turned_file m store i a (length body) ++ filled_file m store i a body t))

abbrev pub taken : Manager → List ℕ → List ℕ → ℕ → Arrival → List ℕ → List ℕ → After
taken m store output t a key body =
    cond (routed_to m a key).found
    (cond (is_lost m a (routed_to m a key).at (length body))
    (lost_at m store output t (routed_to m a key).at (compared_to m a key))
    (placed_at m store output t a body (routed_to m a key).at (compared_to m a key)))
    (unrouted m store output t (compared_to m a key))

unfoldable pub receive_of : Manager → List ℕ → List ℕ → ℕ → Arrival → List ℕ → List ℕ → After
receive_of m store output time a key body =
    settled (first (receive_rules m (length store) (length output) time a key (length body))) (needed m a key (length body) (effective m time)) m store output
    (taken m store output (effective m time) a key body)
