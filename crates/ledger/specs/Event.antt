-- The calls of a list: the four events (document 01, The events) and packets of records (document 02, ask 8), each with the output that it is
-- lent; what is said to each; and the events that were tried by them, each with its answer. Assumes nothing.
use Rattle.std.specs.Prelude.{List, [], ◌∷◌, ◌++◌, ℕ}
use Rattle.events.specs.declared.Answer.{Answer}
use Rattle.events.specs.declared.Arrival.{Arrival}
use Rattle.packets.specs.Packet.{Delivered, delivered}

pub data Event : Type 0 where
  open_event : (time route : ℕ) → Event
  close_event : (time route reason : ℕ) → Event
  tick_event : (time : ℕ) → Event
  receive_event : (time : ℕ) → Arrival → (key body : List ℕ) → Event

-- an event, or a packet of any octets
pub data Call : Type 0 where
  event_call : Event → Call
  packet_call : (octets : List ℕ) → Call

-- a call and the output that it is lent, of any length and content
pub record Lent : Type 0 where
  pub call : Call
  pub output : List ℕ

-- to an event its answer; to a packet the refusal that stopped it or 0, how many records were accepted, and the answer of each that was tried
pub data Said : Type 0 where
  event_answer : Answer → Said
  packet_answers : (refusal accepted : ℕ) → List Answer → Said

abbrev pub refusal_in : Said → ℕ
refusal_in (event_answer a) = a.refusal
refusal_in (packet_answers refusal accepted answers) = refusal

-- an event that was tried, and its answer
pub record Heard : Type 0 where
  pub event : Event
  pub answer : Answer

-- a record of a packet is a RECEIVE
abbrev pub as_receive : Delivered → Event
as_receive d = receive_event d.time d.arrival d.key d.body

-- of a packet's records those are tried that have an answer
abbrev pub tried_of : List Delivered → List Answer → List Heard
tried_of ds [] = []
tried_of [] (a ∷ answers) = []
tried_of (d ∷ ds) (a ∷ answers) = record { event = as_receive d; answer = a } ∷ tried_of ds answers

abbrev pub tried : Call → Said → List Heard
tried (event_call e) (event_answer a) = record { event = e; answer = a } ∷ []
tried (event_call e) (packet_answers refusal accepted answers) = []
tried (packet_call xs) (event_answer a) = []
tried (packet_call xs) (packet_answers refusal accepted answers) = tried_of (delivered xs) answers

-- those of a list of calls
abbrev pub heard : List Lent → List Said → List Heard
heard [] ss = []
heard (c ∷ cs) [] = []
heard (c ∷ cs) (s ∷ ss) = tried c.call s ++ heard cs ss
