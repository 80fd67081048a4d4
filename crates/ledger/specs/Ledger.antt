-- The ledger (document 01, The ledger of demand 3; document 02, asks 3, 6 and 7). It is fed the settings, the store's length, and each
-- event's arguments and output length: no answers, nothing of the manager's state, no octets of the store. Records are records and files
-- are files: it holds the last time, the number of unrouted records and for each route how many records were received and lost (without
-- bound), the next sequence number, known losses and unrouted records since its last file closed, its closed files, and its open file if
-- any. Opening, appending, closing, ages, sizes and every refusal are stated here anew, on records. Shared with the manager's
-- definitions, and held apart from both: how many routes and set times the settings have, where their octets stand and how they are read
-- (`routes_in`, `sets_in`, `route_start`, `settings_from`, `minutes_of`, `num`, `octets_at`), what a packet's octets say (`wrong_packet`, `delivered`),
-- the choice of a filter (`better`, `nobody`) and what a header carries of it (`filter_of`), the loss rule (`lost`), the indicator, the order and
-- sameness of releases (`later`, `earlier`, `same_release`), the header and the record of an arrival (`header_for`, `record_of`), the header's size
-- (`header_size`), the octets of records and the layout (`records_octets`, `layout`), the octets of the loss counts (`count_octets`), local time
-- (`timestamp_of`), which refusal is the first (`first`), and the form of an answer (`answered`). Edge_table's Shared, Packets, LossCounts,
-- Indicators and EdgeTable evaluate these; `packet_whole` and `read_back` (packets), `header_size_lem` (filing), `counts_back` (counts),
-- `indicator_true` and `says_only` (state), `timestamp_right` (timestamp) and record's Order are laws of theirs.
use Rattle.std.specs.Prelude.{Bool, true, false, cond, not, ◌&&◌, ◌||◌, List, [], ◌∷◌, ◌++◌, ℕ, zero, suc, ◌+◌, ◌-◌, ◌%◌, ◌^◌, max, ltb, leb, eqb, length, get_or, set, take}
use Rattle.refusals.specs.Refusal.{Rule, ◌when◌, first}
use Rattle.timestamp.specs.LocalTime.{timestamp_of}
use Rattle.record.specs.declared.Release.{Release}
use Rattle.record.specs.Record.{Record, records_octets}
use Rattle.cdrfile.specs.File.{File, layout}
use Rattle.counts.specs.Counts.{count_octets}
use Rattle.state.specs.declared.RouteSettings.{RouteSettings}
use Rattle.state.specs.Routing.{Routed}
use Rattle.state.specs.Manager.{no_release, filter_of}
use Rattle.state.specs.Size.{header_size}
use Rattle.state.specs.Loss.{lost, indicator}
use Rattle.state.specs.Bounds.{same_release}
use Rattle.state.specs.Routing.{nobody, better}
use Rattle.events.specs.declared.Answer.{Answer}
use Rattle.events.specs.declared.Arrival.{Arrival}
use Rattle.events.specs.Rules.{later, earlier, header_for}
use Rattle.events.specs.Events.{answered}
use Rattle.events.specs.Receive.{record_of}
use Rattle.ledger.specs.Event.{Event, open_event, close_event, tick_event, receive_event}

-- an open file: its records in order
pub record OpenFile : Type 0 where
  pub sequence : ℕ
  pub opened : ℕ
  pub appended : ℕ
  pub records : List Record

pub data Current : Type 0 where
  none : Current
  some : OpenFile → Current

-- what the ledger holds of a route
pub record Line : Type 0 where
  pub settings : RouteSettings
  pub received : ℕ
  pub lost : ℕ
  pub next : ℕ
  pub losses : ℕ
  pub unrouted : ℕ
  pub closed : List File
  pub current : Current

-- `sets` are the set minutes of each route (document 02, ask 6)
pub record Ledger : Type 0 where
  pub address : List ℕ
  pub bias : ℕ
  pub time : ℕ
  pub unrouted : ℕ
  pub sets : List (List ℕ)
  pub lines : List Line

abbrev pub no_line : Line
no_line =
    record {
      settings = record { filter = []; octets = 0; limit = 0; age = 0; most = 0; flag = 0; release = no_release };
      received = 0;
      lost = 0;
      next = 0;
      losses = 0;
      unrouted = 0;
      closed = [];
      current = none;
    }

abbrev pub line_at : Ledger → ℕ → Line
line_at l i = get_or l.lines i no_line

-- Files.

-- the greatest and the least release of some records, the configured one where there are none
abbrev pub greatest : Release → List Record → Release
greatest r [] = r
greatest r (x ∷ xs) = greatest (later r x.header.release) xs

abbrev pub highest : Release → List Record → Release
highest configured [] = configured
highest configured (x ∷ xs) = greatest x.header.release xs

abbrev pub least : Release → List Record → Release
least r [] = r
least r (x ∷ xs) = least (earlier r x.header.release) xs

abbrev pub lowest : Release → List Record → Release
lowest configured [] = configured
lowest configured (x ∷ xs) = least x.header.release xs

-- how long a file of the route with these records is
abbrev pub size_of : RouteSettings → List Record → ℕ
size_of s rs = header_size s.octets (highest s.release rs) (lowest s.release rs) + length (records_octets rs)

-- a closing lays out the whole file from the settings and the ledger
abbrev pub file_from : Ledger → Line → OpenFile → ℕ → File
file_from l x f reason =
    record {
      header =
          record {
            high = highest x.settings.release f.records;
            low = lowest x.settings.release f.records;
            opened = timestamp_of f.opened l.bias;
            appended = timestamp_of f.appended l.bias;
            sequence = f.sequence;
            reason = reason;
            address = 0xFF ∷ 0xFF ∷ 0xFF ∷ 0xFF ∷ l.address;
            lost = indicator x.losses (ltb 0 x.unrouted);
            statement = 2;
          };
      filter = filter_of x.settings;
      private = count_octets x.losses x.unrouted;
      records = f.records;
    }

-- What is done to a route.
abbrev pub open_line : Line → ℕ → Line
open_line x t =
    record {
      settings = x.settings;
      received = x.received;
      lost = x.lost;
      next = (x.next + 1) % 2 ^ 32;
      losses = x.losses;
      unrouted = x.unrouted;
      closed = x.closed;
      current = some (record { sequence = x.next; opened = t; appended = t; records = [] });
    }

-- the file is added to the closed ones, and the known losses and the unrouted records of its time are cleared
abbrev pub close_line : Line → File → Line
close_line x file =
    record {
      settings = x.settings;
      received = x.received;
      lost = x.lost;
      next = x.next;
      losses = 0;
      unrouted = 0;
      closed = x.closed ++ (file ∷ []);
      current = none;
    }

abbrev pub with_current : Line → Current → Line
with_current x c =
    record {
      settings = x.settings;
      received = x.received;
      lost = x.lost;
      next = x.next;
      losses = x.losses;
      unrouted = x.unrouted;
      closed = x.closed;
      current = c;
    }

abbrev pub received_line : Line → Line
received_line x =
    record {
      settings = x.settings;
      received = x.received + 1;
      lost = x.lost;
      next = x.next;
      losses = x.losses;
      unrouted = x.unrouted;
      closed = x.closed;
      current = x.current;
    }

-- a lost record: one more received, one more lost, one more known loss
abbrev pub lost_line : Line → Line
lost_line x =
    record {
      settings = x.settings;
      received = x.received + 1;
      lost = x.lost + 1;
      next = x.next;
      losses = x.losses + 1;
      unrouted = x.unrouted;
      closed = x.closed;
      current = x.current;
    }

abbrev pub noted_line : Line → Line
noted_line x =
    record {
      settings = x.settings;
      received = x.received;
      lost = x.lost;
      next = x.next;
      losses = x.losses;
      unrouted = x.unrouted + 1;
      closed = x.closed;
      current = x.current;
    }

abbrev pub append_to : OpenFile → Record → ℕ → OpenFile
append_to f r t = record { sequence = f.sequence; opened = f.opened; appended = t; records = f.records ++ (r ∷ []) }

abbrev pub with_line : Ledger → ℕ → Line → Ledger
with_line l i x = record { address = l.address; bias = l.bias; time = l.time; unrouted = l.unrouted; sets = l.sets; lines = set l.lines i x }

abbrev pub with_time : Ledger → ℕ → Ledger
with_time l t = record { address = l.address; bias = l.bias; time = t; unrouted = l.unrouted; sets = l.sets; lines = l.lines }

-- a file that closes at an event, and the route that closes it
pub record Closing : Type 0 where
  pub route : ℕ
  pub file : File

abbrev pub lengths : List Closing → ℕ
lengths [] = 0
lengths (c ∷ cs) = length (layout c.file) + lengths cs

-- what an event does to the ledger: the ledger behind it, and the files that close, in order
pub record Entry : Type 0 where
  pub ledger : Ledger
  pub closings : List Closing

-- the records of the open file, none with no file open
abbrev pub records_in : Current → List Record
records_in none = []
records_in (some f) = f.records

abbrev pub records_of : Line → List Record
records_of x = records_in x.current

-- OPEN
abbrev pub is_open : Current → Bool
is_open none = false
is_open (some f) = true

abbrev pub opens : Ledger → ℕ → ℕ → Entry
opens l t i = record { ledger = with_time (with_line l i (open_line (line_at l i) t)) t; closings = [] }

-- CLOSE
abbrev pub close_entry : Ledger → ℕ → ℕ → ℕ → Current → Entry
close_entry l t i reason none = record { ledger = l; closings = [] }
close_entry l t i reason (some f) =
    record {
      ledger = with_time (with_line l i (close_line (line_at l i) (file_from l (line_at l i) f reason))) t;
      closings = record { route = i; file = file_from l (line_at l i) f reason } ∷ [];
    }

abbrev pub closes : Ledger → ℕ → ℕ → ℕ → Entry
closes l t i reason = close_entry l t i reason (line_at l i).current

-- TICK: in route order, each file whose age has reached a limit above 0 closes with 2
abbrev pub due_file : ℕ → Line → OpenFile → Bool
due_file t x f = ltb 0 x.settings.age && leb (f.opened + x.settings.age) t

-- and each other closes with 0 for which a set minute has come: the first time behind its opening with that minute of the local day.
-- Local time is minutes plus offset, which is bias less 1,439; a day more does not change the minute
abbrev pub minute_of : ℕ → ℕ → ℕ
minute_of bias time = (time + (bias + 1)) % 1440

abbrev pub next_with : ℕ → ℕ → ℕ → ℕ
next_with bias opened minute = opened + 1 + (1440 - minute_of bias (opened + 1) + minute) % 1440

abbrev pub one_came : ℕ → ℕ → ℕ → List ℕ → Bool
one_came bias opened t [] = false
one_came bias opened t (minute ∷ minutes) = leb (next_with bias opened minute) t || one_came bias opened t minutes

abbrev pub minutes_at : Ledger → ℕ → List ℕ
minutes_at l i = get_or l.sets i []

-- so an open file goes on, or ends with a reason
pub data Fate : Type 0 where
  goes_on : Fate
  ends_with : ℕ → Fate

abbrev pub fate_of : ℕ → ℕ → Line → List ℕ → OpenFile → Fate
fate_of bias t x minutes f = cond (due_file t x f) (ends_with 2) (cond (one_came bias f.opened t minutes) (ends_with 0) goes_on)

abbrev pub close_by : Fate → Ledger → ℕ → Line → OpenFile → Entry → Entry
close_by goes_on l i x f e = e
close_by (ends_with reason) l i x f e =
    record {
      ledger = with_line e.ledger i (close_line x (file_from l x f reason));
      closings = e.closings ++ (record { route = i; file = file_from l x f reason } ∷ []);
    }

abbrev pub close_due : Ledger → ℕ → ℕ → Line → Current → Entry → Entry
close_due l t i x none e = e
close_due l t i x (some f) e = close_by (fate_of l.bias t x (minutes_at l i) f) l i x f e

-- the routes below n
abbrev pub tick_to : Ledger → ℕ → ℕ → Entry
tick_to l t zero = record { ledger = l; closings = [] }
tick_to l t (suc n) = close_due l t n (line_at l n) (line_at l n).current (tick_to l t n)

abbrev pub ticks : Ledger → ℕ → Entry
ticks l t = record { ledger = with_time (tick_to l t (length l.lines)).ledger t; closings = (tick_to l t (length l.lines)).closings }

-- RECEIVE: routing by the settings alone
abbrev pub among_lines : Ledger → List ℕ → ℕ → Routed
among_lines l key zero = nobody
among_lines l key (suc n) = better (among_lines l key n) n (line_at l n).settings key

abbrev pub routed_to : Ledger → Arrival → List ℕ → Routed
routed_to l a key = cond (eqb a.mark 2) nobody (among_lines l key (length l.lines))

-- the octets of filters that are compared for that (document 02, ask 7): from the first on as far as they are the same, and the one that
-- differs; a filter that is longer than the key is passed over. Nothing is compared with a key that is not to be trusted
abbrev pub steps_to : List ℕ → List ℕ → ℕ
steps_to [] key = 0
steps_to (x ∷ filter) [] = 0
steps_to (x ∷ filter) (y ∷ key) = cond (eqb x y) (suc (steps_to filter key)) 1

abbrev pub compared_on : RouteSettings → List ℕ → ℕ
compared_on s key = cond (ltb (length key) s.octets) 0 (steps_to (take s.octets s.filter) key)

abbrev pub compared_lines : List Line → List ℕ → ℕ
compared_lines [] key = 0
compared_lines (x ∷ xs) key = compared_on x.settings key + compared_lines xs key

abbrev pub lost_by : RouteSettings → Arrival → ℕ → Bool
lost_by s a body = lost s.limit s.octets a.mark (header_for a).release body

-- a record differs from a new one: in format, or with flag 1 in release, extension or version
abbrev pub differs_one : RouteSettings → Record → Record → Bool
differs_one s x r =
    not (eqb x.header.format r.header.format)
    || (eqb s.flag 1 && not (same_release x.header.release r.header.release))

-- one of a file's records does
abbrev pub differs_from : RouteSettings → List Record → Record → Bool
differs_from s [] r = false
differs_from s (x ∷ xs) r = differs_one s x r || differs_from s xs r

abbrev pub exceeds_with : RouteSettings → List Record → Record → Bool
exceeds_with s rs r = ltb s.limit (size_of s (rs ++ (r ∷ [])))

abbrev pub full_with : RouteSettings → List Record → Bool
full_with s rs = ltb 0 s.most && eqb (length rs) s.most

-- the route with an open file for the record, behind a closing with 5 or 1 if need be
pub record Ready : Type 0 where
  pub line : Line
  pub file : OpenFile
  pub closings : List Closing

abbrev pub open_for : Line → ℕ → List Closing → Ready
open_for x t cs =
    record {
      line = open_line x t;
      file = record { sequence = x.next; opened = t; appended = t; records = [] };
      closings = cs;
    }

abbrev pub turn_over : Ledger → Line → ℕ → ℕ → OpenFile → ℕ → Ready
turn_over l x t i f reason =
    open_for (close_line x (file_from l x f reason)) t (record { route = i; file = file_from l x f reason } ∷ [])

abbrev pub ready_by : Ledger → Line → ℕ → ℕ → Record → Current → Ready
ready_by l x t i r none = open_for x t []
ready_by l x t i r (some f) =
    cond (differs_from x.settings f.records r) (turn_over l x t i f 5)
    (cond (exceeds_with x.settings f.records r) (turn_over l x t i f 1) (record { line = x; file = f; closings = [] }))

-- the record is appended, and the file closes with 3 if that fills it
abbrev pub append_entry : Ledger → ℕ → ℕ → Record → Ready → Entry
append_entry l t i r y =
    cond (full_with y.line.settings (y.file.records ++ (r ∷ [])))
    (record {
      ledger = with_time (with_line l i (close_line y.line (file_from l y.line (append_to y.file r t) 3))) t;
      closings = y.closings ++ (record { route = i; file = file_from l y.line (append_to y.file r t) 3 } ∷ []);
    })
    (record {
      ledger = with_time (with_line l i (with_current y.line (some (append_to y.file r t)))) t;
      closings = y.closings;
    })

abbrev pub places : Ledger → ℕ → ℕ → Record → Entry
places l t i r = append_entry l t i r (ready_by l (received_line (line_at l i)) t i r (line_at l i).current)

abbrev pub loses : Ledger → ℕ → ℕ → Entry
loses l t i = record { ledger = with_time (with_line l i (lost_line (line_at l i))) t; closings = [] }

abbrev pub noted_lines : List Line → List Line
noted_lines [] = []
noted_lines (x ∷ xs) = noted_line x ∷ noted_lines xs

abbrev pub unroutes : Ledger → ℕ → Entry
unroutes l t =
    record {
      ledger = record { address = l.address; bias = l.bias; time = t; unrouted = l.unrouted + 1; sets = l.sets; lines = noted_lines l.lines };
      closings = [];
    }

abbrev pub receives : Ledger → ℕ → Arrival → List ℕ → List ℕ → Entry
receives l t a key body =
    cond (routed_to l a key).found
    (cond (lost_by (line_at l (routed_to l a key).at).settings a (length body))
    (loses l t (routed_to l a key).at)
    (places l t (routed_to l a key).at (record_of a body)))
    (unroutes l t)

-- an event carried out at an effective time
abbrev pub carried : Ledger → ℕ → Event → Entry
carried l t (open_event time i) = opens l t i
carried l t (close_event time i reason) = closes l t i reason
carried l t (tick_event time) = ticks l t
carried l t (receive_event time a key body) = receives l t a key body

abbrev pub time_of : Event → ℕ
time_of (open_event time i) = time
time_of (close_event time i reason) = time
time_of (tick_event time) = time
time_of (receive_event time a key body) = time

abbrev pub effective : Ledger → Event → ℕ
effective l e = max l.time (time_of e)

-- The refusals, judged by what the ledger holds and is fed; 18 never applies.
abbrev pub regions : List Line → ℕ
regions [] = 0
regions (x ∷ xs) = x.settings.limit + regions xs

-- 19: a counter at its end that would rise; an unrouted record raises that of the ledger and that of every route
abbrev pub any_full : List Line → Bool
any_full [] = false
any_full (x ∷ xs) = eqb x.unrouted 4294967295 || any_full xs

abbrev pub counters_full : Ledger → Arrival → List ℕ → ℕ → Bool
counters_full l a key body =
    cond (routed_to l a key).found
    (lost_by (line_at l (routed_to l a key).at).settings a body && eqb (line_at l (routed_to l a key).at).losses 4294967295)
    (eqb l.unrouted 4294967295 || any_full l.lines)

-- 7: CLOSE may give the reasons 0, 4 and 128 to 131
abbrev pub closing_reasons : List ℕ
closing_reasons = 0 ∷ 4 ∷ 128 ∷ 129 ∷ 130 ∷ 131 ∷ []

abbrev pub is_one_of : ℕ → List ℕ → Bool
is_one_of n [] = false
is_one_of n (x ∷ xs) = eqb n x || is_one_of n xs

-- 5: what the mark lets be trusted is in range. 0, usable: the key's length and the record's fields; 1, body unusable, key good:
-- the key's length; 2: nothing is to be trusted, so nothing is asked; there is no other mark
abbrev pub fields_fit : Arrival → Bool
fields_fit a =
    leb a.release 7 && leb a.format 7 && leb a.version 31 && leb a.ts 31 && (eqb a.release 7 || eqb a.extension 0)

abbrev pub fits_mark : ℕ → Arrival → ℕ → Bool
fits_mark zero a key = leb key 20 && fields_fit a
fits_mark (suc zero) a key = leb key 20
fits_mark (suc (suc zero)) a key = true
fits_mark (suc (suc (suc n))) a key = false

-- the octets of the files that the event would close
abbrev pub needed_by : Ledger → Event → ℕ
needed_by l e = lengths (carried l (effective l e) e).closings

abbrev pub own_rules : Ledger → Event → List Rule
own_rules l (open_event time i) = (6 when leb (length l.lines) i) ∷ (14 when is_open (line_at l i).current) ∷ []
own_rules l (close_event time i reason) =
    (6 when leb (length l.lines) i) ∷ (7 when not (is_one_of reason closing_reasons)) ∷ (15 when not (is_open (line_at l i).current)) ∷ []
own_rules l (tick_event time) = []
own_rules l (receive_event time a key body) = (5 when not (fits_mark a.mark a (length key))) ∷ (19 when counters_full l a key (length body)) ∷ []

abbrev pub rules : Ledger → ℕ → ℕ → Event → List Rule
rules l store output e =
    (16 when ltb store (regions l.lines))
    ∷ (4 when ltb 52595999 (time_of e))
    ∷ (own_rules l e ++ ((17 when ltb output (needed_by l e)) ∷ []))

abbrev pub refusal : Ledger → ℕ → ℕ → Event → ℕ
refusal l store output e = first (rules l store output e)

-- The answer, and the ledger behind an event: a refusal leaves it as it was.
abbrev pub outcome_of : Ledger → Event → ℕ
outcome_of l (open_event time i) = 1
outcome_of l (close_event time i reason) = 5
outcome_of l (tick_event time) = 6
outcome_of l (receive_event time a key body) =
    cond (routed_to l a key).found (cond (lost_by (line_at l (routed_to l a key).at).settings a (length body)) 3 2) 4

abbrev pub route_of : Ledger → Event → ℕ
route_of l (open_event time i) = i
route_of l (close_event time i reason) = i
route_of l (tick_event time) = 255
route_of l (receive_event time a key body) = cond (routed_to l a key).found (routed_to l a key).at 255

abbrev pub compared_of : Ledger → Event → ℕ
compared_of l (open_event time i) = 0
compared_of l (close_event time i reason) = 0
compared_of l (tick_event time) = 0
compared_of l (receive_event time a key body) = cond (eqb a.mark 2) 0 (compared_lines l.lines key)

abbrev pub answer_by : ℕ → Ledger → Event → Answer
answer_by zero l e =
    answered (outcome_of l e) (route_of l e) (length (carried l (effective l e) e).closings) (needed_by l e) (compared_of l e)
answer_by (suc n) l e =
    record { refusal = suc n; outcome = 0; route = 0; files = 0; compared = 0; octets = cond (eqb (suc n) 17) (needed_by l e) 0 }

abbrev pub entry_by : ℕ → Ledger → Event → Entry
entry_by zero l e = carried l (effective l e) e
entry_by (suc n) l e = record { ledger = l; closings = [] }

unfoldable pub answer_of : Ledger → ℕ → ℕ → Event → Answer
answer_of l store output e = answer_by (refusal l store output e) l e

unfoldable pub entry_of : Ledger → ℕ → ℕ → Event → Entry
entry_of l store output e = entry_by (refusal l store output e) l e
