-- DEMAND 3 of document 01, stated alone: read this file without its proof (proofs/Demand3Holds.antt).
--
-- Take any settings octets that are accepted, with set times of day (document 02, ask 6) or without, a store of any length and content, and
-- any list that mixes OPEN, CLOSE, TICK and RECEIVE with packets of records (ask 8), refused ones included and packets that stop half way,
-- with any clock and any output lent to each. Run the manager on the list, each call on the words of the state that the one before left, and
-- keep the ledger of document 01 beside it, which is fed the settings, the store's length and each call's arguments and output length, and
-- nothing of the manager. Then, in plain words, a line for each clause of the record `Demand3`, in its order; "of the list" means of each
-- event that was tried, by itself or in a packet, and a route is a configured one:
--
-- `answered`: what is said to each call is what the ledger says: every answer, with the octets of filters that were compared (ask 7), and of a packet
--   the refusal that stopped it, how many records were accepted, and the answer of each that was tried; 18 never comes. Each call's output keeps its
--   length, begins with the files that the ledger closes at that call, one behind another, and its other octets are as lent: all, if it closes none.
-- `configured`: each file closes on a configured route.
-- `filed`: a route's closed files in the ledger are those that closed on it, in order of closing.
-- `lost_exactly`: an event's outcome is 3, lost, exactly when it is an accepted RECEIVE that is routed and that the loss rule calls lost there.
-- `balance`: received = closed counts + open count + lost, for each route: received and lost by the rules on the list, the closed counts as the reader reads them.
-- `kept`: a route's received records that are not lost, in order of receipt, are those of its closed files and then right records whose octets stand in the store for its open file.
-- `accepted`: the reader accepts every closed file and hands back the fields and records that the ledger gives.
-- `counts`: the private octets of every closed file, as the reader hands them back, are loss counts (ask 3).
-- `known_losses`: the known losses in a route's closed files, as the reader finds them, plus those pending in the state are as many as its lost records of the list.
-- `unrouted_records`: the unrouted records in a route's closed files plus those pending on the route are as many as the unrouted records of the list.
-- `counters`: the open count, the known losses and the unrouted records of each route in the state are the ledger's.
-- `booked`: the ledger's numbers of received and of lost records of each route are those of the list.
-- `unrouted_counter`: the state's counter of all unrouted records is the ledger's.
-- `unrouted_listed`: and it is the number of accepted unrouted records of the list.
--
-- `loaded_of`, `open_on`, `close_on`, `tick_on`, `receive_on` and `packet_on`, of which `done_by` and `run_of` are made, are the definitions that
-- the contracts of the calls cite; `manager_in` says what words stand for. Two facts about closings stand beside this: a RECEIVE closes at most
-- one file (`receive_one`, events, Closes.antt), and no empty file closes with 5 or 1 (`empty_files`, proofs/EmptyFiles.antt).
use Rattle.std.specs.Prelude.{◌≡◌, ◌↔◌, Bool, true, false, cond, not, ◌&&◌, List, [], ◌∷◌, ◌++◌, ℕ, ◌+◌, ◌≤◌, ◌<◌, eqb, length, take, drop}
use Rattle.octets.specs.Number.{Octets}
use Rattle.octets.specs.Splice.{splice}
use Rattle.record.specs.Record.{Record, AllRight, records_octets}
use Rattle.cdrfile.specs.File.{File, layout}
use Rattle.counts.specs.declared.Counts.{Counts}
use Rattle.counts.specs.Counts.{counts_in}
use Rattle.reader.specs.Reader.{read_of}
use Rattle.roundtrip.specs.Handed.{handed_back}
use Rattle.state.specs.declared.Route.{Route}
use Rattle.state.specs.Manager.{Manager}
use Rattle.state.specs.Manager.{route_at, base}
use Rattle.settings.specs.Settings.{loaded_of}
use Rattle.events.specs.declared.Answer.{Answer}
use Rattle.words.specs.Words.{manager_in}
use Rattle.events.specs.Receive.{record_of}
use Rattle.ledger.specs.Event.{Event, open_event, close_event, tick_event, receive_event, Call, event_call, packet_call, Lent, refusal_in, Heard, heard}
use Rattle.ledger.specs.Ledger.{Ledger, line_at, Closing, routed_to, lost_by, records_of}
use Rattle.ledger.specs.Run.{Done, run_of, said_in, Booked, books_of, closings_in, joined, end_of, store_after, ledger_after, ledger_from}

-- a call as the machine can be given it: a body's octets are below 256, a record's extension too, and a packet's octets
abbrev pub Given : Event → Type 0
Given (open_event time i) = Unit {0}
Given (close_event time i reason) = Unit {0}
Given (tick_event time) = Unit {0}
Given (receive_event time a key body) = (a.extension < 256) × Octets body

abbrev pub GivenCall : Call → Type 0
GivenCall (event_call e) = Given e
GivenCall (packet_call xs) = Octets xs

abbrev pub AllGiven : List Lent → Type 0
AllGiven [] = Unit {0}
AllGiven (c ∷ cs) = GivenCall c.call × AllGiven cs

-- What the list itself says, by the rules of routing and loss on the settings (l is the fresh ledger, of which only the
-- settings count here) and by the answers: of each event that was tried, by itself or in a packet (`heard`).

-- *received* on the route i: routed there by an accepted RECEIVE
abbrev pub received_on : Ledger → ℕ → Event → Answer → Bool
received_on l i (open_event time r) answer = false
received_on l i (close_event time r reason) answer = false
received_on l i (tick_event time) answer = false
received_on l i (receive_event time a key body) answer = eqb answer.refusal 0 && (routed_to l a key).found && eqb (routed_to l a key).at i

-- *lost* by the loss rule
abbrev pub lost_rule : Ledger → ℕ → Event → Bool
lost_rule l i (open_event time r) = false
lost_rule l i (close_event time r reason) = false
lost_rule l i (tick_event time) = false
lost_rule l i (receive_event time a key body) = lost_by (line_at l i).settings a (length body)

-- the same on whichever route it was received
abbrev pub lost_there : Ledger → Event → Answer → Bool
lost_there l (open_event time r) answer = false
lost_there l (close_event time r reason) answer = false
lost_there l (tick_event time) answer = false
lost_there l (receive_event time a key body) answer =
    eqb answer.refusal 0 && (routed_to l a key).found && lost_by (line_at l (routed_to l a key).at).settings a (length body)

-- the outcome of each event is 3 exactly where that says so
abbrev pub LostExactly : Ledger → List Heard → Type 0
LostExactly l [] = Unit {0}
LostExactly l (h ∷ hs) = ((h.answer.outcome ≡ 3) ↔ (lost_there l h.event h.answer ≡ true)) × LostExactly l hs

-- *unrouted*: by an accepted RECEIVE, and no route is found
abbrev pub unrouted_by : Ledger → Event → Answer → Bool
unrouted_by l (open_event time r) answer = false
unrouted_by l (close_event time r reason) answer = false
unrouted_by l (tick_event time) answer = false
unrouted_by l (receive_event time a key body) answer = eqb answer.refusal 0 && not (routed_to l a key).found

abbrev pub one : Bool → ℕ
one true = 1
one false = 0

abbrev pub received : Ledger → ℕ → List Heard → ℕ
received l i [] = 0
received l i (h ∷ hs) = one (received_on l i h.event h.answer) + received l i hs

abbrev pub lost : Ledger → ℕ → List Heard → ℕ
lost l i [] = 0
lost l i (h ∷ hs) = one (received_on l i h.event h.answer && lost_rule l i h.event) + lost l i hs

abbrev pub unrouted : Ledger → List Heard → ℕ
unrouted l [] = 0
unrouted l (h ∷ hs) = one (unrouted_by l h.event h.answer) + unrouted l hs

-- the records received on a route and not lost, in order of receipt
abbrev pub placed_if : Bool → Event → List Record
placed_if false e = []
placed_if true (open_event time r) = []
placed_if true (close_event time r reason) = []
placed_if true (tick_event time) = []
placed_if true (receive_event time a key body) = record_of a body ∷ []

abbrev pub placed : Ledger → ℕ → List Heard → List Record
placed l i [] = []
placed l i (h ∷ hs) = placed_if (received_on l i h.event h.answer && not (lost_rule l i h.event)) h.event ++ placed l i hs

-- What the files say, as the reader reads them.
abbrev pub counted : List File → ℕ
counted [] = 0
counted (f ∷ fs) = (read_of (layout f)).count + counted fs

abbrev pub walked : List File → List Record
walked [] = []
walked (f ∷ fs) = (handed_back (layout f) (read_of (layout f))).records ++ walked fs

abbrev pub AllAccepted : List File → Type 0
AllAccepted [] = Unit {0}
AllAccepted (f ∷ fs) = (((read_of (layout f)).refusal ≡ 0) × (handed_back (layout f) (read_of (layout f)) ≡ f)) × AllAccepted fs

-- the loss counts in a file's private octets, as the reader hands them back
abbrev pub counts_read : File → Counts
counts_read f = counts_in (handed_back (layout f) (read_of (layout f))).private

abbrev pub AllCounted : List File → Type 0
AllCounted [] = Unit {0}
AllCounted (f ∷ fs) = ((counts_read f).there ≡ true) × AllCounted fs

abbrev pub losses_in : List File → ℕ
losses_in [] = 0
losses_in (f ∷ fs) = (counts_read f).losses + losses_in fs

abbrev pub unrouted_in : List File → ℕ
unrouted_in [] = 0
unrouted_in (f ∷ fs) = (counts_read f).unrouted + unrouted_in fs

-- the files that close on a route, in order, over what the ledger booked
abbrev pub on_route : ℕ → List Closing → List File
on_route i [] = []
on_route i (c ∷ cs) = cond (eqb c.route i) (c.file ∷ on_route i cs) (on_route i cs)

abbrev pub closed_on : ℕ → List Booked → List File
closed_on i bs = on_route i (closings_in bs)

-- the routes that close files are below n
abbrev pub AllBelow : ℕ → List Closing → Type 0
AllBelow n [] = Unit {0}
AllBelow n (c ∷ cs) = (c.route < n) × AllBelow n cs

-- What is said to each call and its output, beside what the ledger booked for it.
abbrev pub Answered : List Lent → List Done → List Booked → Type 0
Answered [] [] [] = Unit {0}
Answered [] [] (b ∷ bs) = ⊥
Answered [] (x ∷ done) bs = ⊥
Answered (c ∷ cs) [] bs = ⊥
Answered (c ∷ cs) (x ∷ done) [] = ⊥
Answered (c ∷ cs) (x ∷ done) (b ∷ bs) =
    ((x.said ≡ b.said)
    × (refusal_in x.said ≡ 18 → ⊥)
    × (length (joined b.entry.closings) ≤ length c.output)
    × (x.output ≡ splice c.output 0 (joined b.entry.closings))
    × (length x.output ≡ length c.output))
    × Answered cs done bs

-- the open count of a route in the state, 0 with no file open, and the octets of its open file in the store
abbrev pub open_count : Route → ℕ
open_count r = cond r.«open» r.file.count 0

abbrev pub standing : Manager → List ℕ → ℕ → List ℕ
standing m store i = cond (route_at m i).«open» (take (route_at m i).file.octets (drop (base m i) store)) []

-- the state that the words behind a list stand for, and the events that were tried over it
abbrev pub behind : List ℕ → List ℕ → List Lent → Manager
behind words store cs = manager_in (end_of words store cs)

abbrev pub happened : List ℕ → List ℕ → List Lent → List Heard
happened words store cs = heard cs (said_in (run_of words store cs))

-- The claim, of a state's words and a ledger l, a store and a list of calls.
pub record Demand3 (words : List ℕ) (l : Ledger) (store : List ℕ) (cs : List Lent) : Type 0 where
  -- all that is said and every output is the ledger's
  pub answered : Answered cs (run_of words store cs) (books_of l (length store) cs)
  -- each file belongs to the route that closes it, and that route is configured
  pub configured : AllBelow (manager_in words).count (closings_in (books_of l (length store) cs))
  pub filed : (i : ℕ) → i < (manager_in words).count → (line_at (ledger_after l (length store) cs) i).closed ≡ closed_on i (books_of l (length store) cs)
  -- a record is lost exactly when the loss rule says so
  pub lost_exactly : LostExactly l (happened words store cs)
  -- received = closed counts + open count + lost
  pub balance : (i : ℕ) → i < (manager_in words).count
      → received l i (happened words store cs)
      ≡ counted (closed_on i (books_of l (length store) cs)) + open_count (route_at (behind words store cs) i) + lost l i (happened words store cs)
  -- the others stand in the files, in order, octet for octet
  pub kept : (i : ℕ) → i < (manager_in words).count
      → (rs : List Record)
      × AllRight rs
      × (standing (behind words store cs) (store_after words store cs) i ≡ records_octets rs)
      × (placed l i (happened words store cs) ≡ walked (closed_on i (books_of l (length store) cs)) ++ rs)
  -- every closed file is accepted by the reader, with the fields the ledger gives
  pub accepted : (i : ℕ) → i < (manager_in words).count → AllAccepted (closed_on i (books_of l (length store) cs))
  -- each closed file has the loss counts; with those pending in the state they are the lost and the unrouted records
  pub counts : (i : ℕ) → i < (manager_in words).count → AllCounted (closed_on i (books_of l (length store) cs))
  pub known_losses : (i : ℕ) → i < (manager_in words).count
      → losses_in (closed_on i (books_of l (length store) cs)) + (route_at (behind words store cs) i).losses ≡ lost l i (happened words store cs)
  pub unrouted_records : (i : ℕ) → i < (manager_in words).count
      → unrouted_in (closed_on i (books_of l (length store) cs)) + (route_at (behind words store cs) i).unrouted ≡ unrouted l (happened words store cs)
  -- the counters are the ledger's
  pub counters : (i : ℕ) → i < (manager_in words).count
      → (open_count (route_at (behind words store cs) i) ≡ length (records_of (line_at (ledger_after l (length store) cs) i)))
      × ((route_at (behind words store cs) i).losses ≡ (line_at (ledger_after l (length store) cs) i).losses)
      × ((route_at (behind words store cs) i).unrouted ≡ (line_at (ledger_after l (length store) cs) i).unrouted)
  -- and the ledger's own counts of received and lost records are those of the list
  pub booked : (i : ℕ) → i < (manager_in words).count
      → ((line_at (ledger_after l (length store) cs) i).received ≡ received l i (happened words store cs))
      × ((line_at (ledger_after l (length store) cs) i).lost ≡ lost l i (happened words store cs))
  pub unrouted_counter : (behind words store cs).unrouted ≡ (ledger_after l (length store) cs).unrouted
  pub unrouted_listed : (behind words store cs).unrouted ≡ unrouted l (happened words store cs)

-- DEMAND 3: it holds of the fresh manager and the ledger of any accepted settings, any store, and any list of calls.
abbrev pub Claim : Type 0
Claim =
    (xs store : List ℕ) (cs : List Lent) → Octets xs → (loaded_of xs).refusal ≡ 0 → AllGiven cs
    → Demand3 (loaded_of xs).words (ledger_from xs) store cs
