-- A list of calls from a fresh manager, and from a fresh ledger fed the same (document 01, The ledger of demand 3; document 02, ask 8).
-- The manager's side is the fold of the very definitions that the contracts of the calls cite, on the words that it is lent.
-- Assumes nothing.
use Rattle.std.specs.Prelude.{List, [], ◌∷◌, ◌++◌, ℕ, zero, suc, ◌+◌, length}
use Rattle.octets.specs.Number.{num, octets_at}
use Rattle.cdrfile.specs.File.{layout}
use Rattle.state.specs.Manager.{Manager}
use Rattle.settings.specs.Settings.{routes_in, sets_in, route_start, settings_from, minutes_of}
use Rattle.events.specs.declared.Answer.{Answer}
use Rattle.events.specs.Events.{After, open_of, close_of, tick_of}
use Rattle.events.specs.Receive.{receive_of}
use Rattle.events.specs.Lent.{Left, open_on, close_on, tick_on, receive_on}
use Rattle.packets.specs.Fold.{Taken, packet_on}
use Rattle.ledger.specs.Event.{Event, open_event, close_event, tick_event, receive_event, Call, event_call, packet_call, Lent, Said, event_answer, packet_answers}
use Rattle.ledger.specs.Ledger.{none, Line, Ledger, Closing, Entry, answer_of, entry_of}
use Rattle.ledger.specs.Packets.{Packed, packet_of}

-- an event on the state
abbrev pub happens : Manager → List ℕ → List ℕ → Event → After
happens m store output (open_event time i) = open_of m store output time i
happens m store output (close_event time i reason) = close_of m store output time i reason
happens m store output (tick_event time) = tick_of m store output time
happens m store output (receive_event time a key body) = receive_of m store output time a key body

-- and on its words, as the calls have it
abbrev pub leaves : List ℕ → List ℕ → List ℕ → Event → Left
leaves words store output (open_event time i) = open_on words store output time i
leaves words store output (close_event time i reason) = close_on words store output time i reason
leaves words store output (tick_event time) = tick_on words store output time
leaves words store output (receive_event time a key body) = receive_on words store output time a key body

-- what a call says, and leaves of what it was lent
pub record Done : Type 0 where
  pub said : Said
  pub words : List ℕ
  pub store : List ℕ
  pub output : List ℕ

abbrev pub by_event : Left → Done
by_event x = record { said = event_answer x.answer; words = x.words; store = x.store; output = x.output }

abbrev pub by_packet : Taken → Done
by_packet t = record { said = packet_answers t.refusal t.accepted t.answers; words = t.words; store = t.store; output = t.output }

abbrev pub done_by : List ℕ → List ℕ → List ℕ → Call → Done
done_by words store output (event_call e) = by_event (leaves words store output e)
done_by words store output (packet_call xs) = by_packet (packet_on words store output xs)

-- what each call of a list leaves
abbrev pub run_of : List ℕ → List ℕ → List Lent → List Done
run_of words store [] = []
run_of words store (c ∷ cs) =
    done_by words store c.output c.call
    ∷ run_of (done_by words store c.output c.call).words (done_by words store c.output c.call).store cs

-- what is said to each
abbrev pub said_in : List Done → List Said
said_in [] = []
said_in (x ∷ done) = x.said ∷ said_in done

-- what the ledger says of each call, and its entry
pub record Booked : Type 0 where
  pub said : Said
  pub entry : Entry

abbrev pub by_entry : Answer → Entry → Booked
by_entry answer e = record { said = event_answer answer; entry = e }

abbrev pub by_packed : Packed → Booked
by_packed p = record { said = packet_answers p.refusal p.accepted p.answers; entry = p.entry }

abbrev pub booked : Ledger → ℕ → ℕ → Call → Booked
booked l store output (event_call e) = by_entry (answer_of l store output e) (entry_of l store output e)
booked l store output (packet_call xs) = by_packed (packet_of l store output xs)

abbrev pub books_of : Ledger → ℕ → List Lent → List Booked
books_of l store [] = []
books_of l store (c ∷ cs) =
    booked l store (length c.output) c.call ∷ books_of (booked l store (length c.output) c.call).entry.ledger store cs

-- what the ledger says to each
abbrev pub booked_in : List Booked → List Said
booked_in [] = []
booked_in (b ∷ bs) = b.said ∷ booked_in bs

-- the files that close over a list of calls, in order
abbrev pub closings_in : List Booked → List Closing
closings_in [] = []
closings_in (b ∷ bs) = b.entry.closings ++ closings_in bs

-- the octets of files that close, one behind another
abbrev pub joined : List Closing → List ℕ
joined [] = []
joined (c ∷ cs) = layout c.file ++ joined cs

-- where a list of calls ends
abbrev pub end_of : List ℕ → List ℕ → List Lent → List ℕ
end_of words store [] = words
end_of words store (c ∷ cs) =
    end_of (done_by words store c.output c.call).words (done_by words store c.output c.call).store cs

abbrev pub store_after : List ℕ → List ℕ → List Lent → List ℕ
store_after words store [] = store
store_after words store (c ∷ cs) =
    store_after (done_by words store c.output c.call).words (done_by words store c.output c.call).store cs

abbrev pub ledger_after : Ledger → ℕ → List Lent → Ledger
ledger_after l store [] = l
ledger_after l store (c ∷ cs) = ledger_after (booked l store (length c.output) c.call).entry.ledger store cs

-- the ledger of accepted settings: time and counts 0, no files, each route's first sequence number
abbrev pub line_from : List ℕ → ℕ → Line
line_from xs k =
    record {
      settings = settings_from xs k;
      received = 0;
      lost = 0;
      next = num 4 xs (k + 37);
      losses = 0;
      unrouted = 0;
      closed = [];
      current = none;
    }

abbrev pub lines_from : List ℕ → ℕ → List Line
lines_from xs zero = []
lines_from xs (suc n) = lines_from xs n ++ (line_from xs (route_start n) ∷ [])

-- each route's set minutes
abbrev pub sets_from : List ℕ → ℕ → List (List ℕ)
sets_from xs zero = []
sets_from xs (suc n) = sets_from xs n ++ (minutes_of xs n (sets_in xs) ∷ [])

abbrev pub ledger_from : List ℕ → Ledger
ledger_from xs =
    record {
      address = octets_at 16 xs 1;
      bias = num 2 xs 17;
      time = 0;
      unrouted = 0;
      sets = sets_from xs (routes_in xs);
      lines = lines_from xs (routes_in xs);
    }
