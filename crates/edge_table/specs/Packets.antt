-- Packets of records, by evaluation (document 02, ask 8): what a packet's octets say and which are refused with 11; and what comes of packets on
-- the edge table's route, on the manager's side and on the ledger's: one that is taken whole, one that stops half way, outputs that are
-- filled one behind another, and those without records. Assumes nothing.
use Rattle.std.specs.Prelude.{◌≡◌, refl, true, false, List, [], ◌∷◌, ◌++◌, ℕ, length, take, replicate}
use Rattle.octets.specs.Splice.{splice}
use Rattle.timestamp.specs.Timestamp.{word_of}
use Rattle.timestamp.specs.LocalTime.{timestamp_of}
use Rattle.calendar.specs.Calendar.{date_from, month_days}
use Rattle.record.specs.Record.{record_octets, records_octets, highest, lowest}
use Rattle.cdrfile.specs.File.{fixed_octets, file_octets}
use Rattle.state.specs.SetTimes.{sets_right}
use Rattle.state.specs.Bounds.{same_filter, settings_right, file_right, state_right}
use Rattle.state.specs.Routing.{fits, route_of}
use Rattle.state.specs.Compared.{compared_for}
use Rattle.settings.specs.Settings.{routes_in, wrong_shape, beyond_range, equal_filters, wrong_sets, set_times_from, fresh_of}
use Rattle.settings.specs.Settings.{verdict as settings_verdict}
use Rattle.filing.specs.Closing.{closed_file}
use Rattle.events.specs.declared.Answer.{Answer}
use Rattle.events.specs.Events.{refusal_of, answered}
use Rattle.events.specs.Receive.{receive_of}
use Rattle.events.specs.Lent.{receive_on}
use Rattle.words.specs.Words.{route_in, manager_in, words_of}
use Rattle.packets.specs.Packet.{wrong_packet, delivered, packet_octets}
use Rattle.packets.specs.Fold.{packet_on}
use Rattle.ledger.specs.Event.{packet_call, Said, packet_answers}
use Rattle.ledger.specs.Ledger.{answer_of, entry_of}
use Rattle.ledger.specs.Run.{done_by, booked, ledger_from}
use Rattle.edge_table.specs.Manager.{settings, fresh, store}

-- One record: time 0x01020304, mark 1, a key of two octets, release 4, version 3, extension 5, format 6, TS number 7, a body of three.
abbrev one : List ℕ
one = 1 ∷ 2 ∷ 3 ∷ 4 ∷ 1 ∷ 2 ∷ 4 ∷ 3 ∷ 5 ∷ 6 ∷ 7 ∷ 0 ∷ 0 ∷ 0 ∷ 3 ∷ 0x31 ∷ 0x32 ∷ 0xA1 ∷ 0xA2 ∷ 0xA3 ∷ []

abbrev pub Format : Type 0
Format =
    (delivered one
    ≡ record {
      time = 0x01020304;
      arrival = record { mark = 1; release = 4; version = 3; extension = 5; format = 6; ts = 7 };
      key = 0x31 ∷ 0x32 ∷ [];
      body = 0xA1 ∷ 0xA2 ∷ 0xA3 ∷ [];
    }
    ∷ [])
    × (packet_octets (delivered one) ≡ one)
    × (length (delivered (one ++ one)) ≡ 2)
    -- whole, without records, cut in the body, in the key, in the fifteen octets; an octet too many is a cut record
    × (wrong_packet one ≡ false)
    × (wrong_packet [] ≡ false)
    × (wrong_packet (take 19 one) ≡ true)
    × (wrong_packet (take 16 one) ≡ true)
    × (wrong_packet (take 14 one) ≡ true)
    × (wrong_packet (one ++ (0 ∷ [])) ≡ true)
    -- 64 records and 65
    × (wrong_packet (replicate 960 0) ≡ false)
    × (wrong_packet (replicate 975 0) ≡ true)

pub format : Format
unfolding wrong_packet delivered
format = (refl, refl, refl, refl, refl, refl, refl, refl, refl, refl, refl)

-- On the edge table's route: a usable record of release 4 at time 0 with no key, of this version and with so many octets of body.
abbrev usable : ℕ → ℕ → List ℕ
usable version body = 0 ∷ 0 ∷ 0 ∷ 0 ∷ 0 ∷ 0 ∷ 4 ∷ version ∷ 0 ∷ 1 ∷ 15 ∷ 0 ∷ 0 ∷ 0 ∷ body ∷ replicate body 0xAB

abbrev placed : Answer
placed = answered 2 0 0 0 0

-- a packet is lent an output of so many octets 0xEE; what both sides say
abbrev Says : ℕ → List ℕ → Said → Type 0
Says n xs said =
    ((done_by fresh store (replicate n 0xEE) (packet_call xs)).said ≡ said) × ((booked (ledger_from settings) 128 n (packet_call xs)).said ≡ said)

-- a file of the route with a body of 40 octets has 61 + 44
abbrev pub Taken : Type 0
Taken =
    -- all are taken
    Says 0 (usable 3 2 ++ usable 3 2) (packet_answers 0 2 (placed ∷ placed ∷ []))
    -- the second is refused, and the third is not tried; what stands is the first
    × Says 0 (usable 3 2 ++ (usable 32 2 ++ usable 3 2)) (packet_answers 5 1 (placed ∷ refusal_of 5 0 ∷ []))
    × ((done_by fresh store [] (packet_call (usable 3 2 ++ (usable 32 2 ++ usable 3 2)))).words ≡ (done_by fresh store [] (packet_call (usable 3 2))).words)
    × ((done_by fresh store [] (packet_call (usable 3 2 ++ (usable 32 2 ++ usable 3 2)))).store ≡ (done_by fresh store [] (packet_call (usable 3 2))).store)
    -- each is lent what the others left: two files of 105 octets into 210, and into 209
    × Says 210 (usable 3 40 ++ (usable 3 40 ++ usable 3 40)) (packet_answers 0 3 (placed ∷ answered 2 0 1 105 0 ∷ answered 2 0 1 105 0 ∷ []))
    × Says 209 (usable 3 40 ++ (usable 3 40 ++ usable 3 40)) (packet_answers 17 2 (placed ∷ answered 2 0 1 105 0 ∷ refusal_of 17 105 ∷ []))
    -- refused whole
    × Says 0 (usable 3 2 ++ (0 ∷ [])) (packet_answers 11 0 [])
    -- without records nothing changes
    × Says 0 [] (packet_answers 0 0 [])
    × ((done_by fresh store [] (packet_call [])).words ≡ fresh)
    -- and 18 and then 16 are tested, behind 11; with records they are the first record's
    × ((packet_on [] [] [] []).refusal ≡ 18)
    × ((packet_on fresh [] [] []).refusal ≡ 16)
    × ((booked (ledger_from settings) 127 0 (packet_call [])).said ≡ packet_answers 16 0 [])
    × ((packet_on [] [] [] (0 ∷ [])).refusal ≡ 11)
    × ((packet_on [] [] [] (usable 3 2)).answers ≡ refusal_of 18 0 ∷ [])
    × ((packet_on fresh [] [] (usable 3 2)).answers ≡ refusal_of 16 0 ∷ [])

pub taken : Taken
unfolding wrong_packet delivered packet_on words_of manager_in route_in receive_on timestamp_of word_of date_from month_days file_octets fixed_octets records_octets record_octets highest lowest fresh_of settings_verdict routes_in wrong_shape beyond_range equal_filters wrong_sets set_times_from settings_right same_filter state_right sets_right file_right fits route_of compared_for receive_of closed_file splice answer_of entry_of
taken = ((refl, refl), (refl, refl), refl, refl, (refl, refl), (refl, refl), (refl, refl), (refl, refl), refl, refl, refl, refl, refl, refl, refl)
