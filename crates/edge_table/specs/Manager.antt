-- The node and the route of document 01's edge table, and what a list of events gives on them: the rows of the table that
-- speak of the manager are stated with these (EdgeTable). The settings are octets, so that a row starts where a user does.
-- Assumes nothing.
use Rattle.std.specs.Prelude.{List, [], ◌∷◌, ◌++◌, ℕ, replicate}
use Rattle.settings.specs.Settings.{loaded_of}
use Rattle.events.specs.declared.Answer.{Answer}
use Rattle.events.specs.declared.Arrival.{Arrival}
use Rattle.ledger.specs.Event.{Event, receive_event, event_call, Lent, Said, event_answer, packet_answers}
use Rattle.ledger.specs.Run.{Done, run_of, said_in, Booked, books_of, booked_in, joined, ledger_from}

-- node: address ::ffff:192.0.2.1, offset 0; route: f 0, size limit 128, no other limits, flag 0, release 4, version 3, first
-- sequence number 7
abbrev pub settings : List ℕ
settings =
    1
    ∷ 0 ∷ 0 ∷ 0 ∷ 0 ∷ 0 ∷ 0 ∷ 0 ∷ 0 ∷ 0 ∷ 0 ∷ 0xFF ∷ 0xFF ∷ 192 ∷ 0 ∷ 2 ∷ 1
    ∷ 0x05 ∷ 0x9F
    ∷ 2
    ∷ 0
    ∷ replicate 20 0
    ++ (0 ∷ 0 ∷ 0 ∷ 128
    ∷ 0 ∷ 0 ∷ 0 ∷ 0
    ∷ 0 ∷ 0 ∷ 0 ∷ 0
    ∷ 0
    ∷ 0x83 ∷ 0
    ∷ 0 ∷ 0 ∷ 0 ∷ 7 ∷ [])

abbrev pub fresh : List ℕ
fresh = (loaded_of settings).words

abbrev pub store : List ℕ
store = replicate 128 0xDD

-- a usable record of a release, with as many octets of body
abbrev pub release4 : Arrival
release4 = record { mark = 0; release = 4; version = 3; extension = 0; format = 1; ts = 15 }

abbrev pub release7 : Arrival
release7 = record { mark = 0; release = 7; version = 3; extension = 2; format = 1; ts = 15 }

abbrev pub receive : Arrival → ℕ → Event
receive a body = receive_event 0 a [] (replicate body 0xAB)

-- the events, each lent an output of so many octets 0xEE
abbrev pub lent : ℕ → List Event → List Lent
lent n [] = []
lent n (e ∷ es) = record { call = event_call e; output = replicate n 0xEE } ∷ lent n es

-- the answers in what is said
abbrev pub answers_in : List Said → List Answer
answers_in [] = []
answers_in (event_answer a ∷ ss) = a ∷ answers_in ss
answers_in (packet_answers refusal accepted answers ∷ ss) = answers ++ answers_in ss

-- what the events leave, and what the ledger says of them
abbrev leaves : ℕ → List Event → List Done
leaves n es = run_of fresh store (lent n es)

abbrev pub answers : List Event → List Answer
answers es = answers_in (said_in (leaves 128 es))

abbrev outputs_in : List Done → List (List ℕ)
outputs_in [] = []
outputs_in (x ∷ done) = x.output ∷ outputs_in done

abbrev pub outputs : ℕ → List Event → List (List ℕ)
outputs n es = outputs_in (leaves n es)

abbrev pub booked : List Event → List Answer
booked es = answers_in (booked_in (books_of (ledger_from settings) 128 (lent 128 es)))

abbrev files_in : List Booked → List (List ℕ)
files_in [] = []
files_in (b ∷ bs) = joined b.entry.closings ∷ files_in bs

abbrev pub filed : List Event → List (List ℕ)
filed es = files_in (books_of (ledger_from settings) 128 (lent 128 es))
