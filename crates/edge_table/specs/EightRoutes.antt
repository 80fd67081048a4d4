-- Eight routes by evaluation (document 01, Settings; The events), on the manager's side and on the ledger's: settings of eight are accepted and
-- a ninth gets refusal 1; a key goes to the eighth; its record stands in the eighth region of the store, which starts after seven size limits, no
-- two of them equal; and the eighth is opened and closed, while a ninth is not configured.
use Rattle.std.specs.Prelude.{◌≡◌, refl, true, List, [], ◌∷◌, ◌++◌, ℕ, zero, suc, ◌+◌, set, replicate}
use Rattle.octets.specs.Number.{be}
use Rattle.octets.specs.Splice.{splice}
use Rattle.calendar.specs.Calendar.{date_from, month_days}
use Rattle.timestamp.specs.Timestamp.{word_of}
use Rattle.timestamp.specs.LocalTime.{timestamp_of}
use Rattle.record.specs.Record.{record_octets, records_octets, highest, lowest}
use Rattle.cdrfile.specs.File.{fixed_octets, file_octets}
use Rattle.state.specs.SetTimes.{sets_right}
use Rattle.state.specs.Bounds.{same_filter, settings_right, file_right, state_right}
use Rattle.state.specs.Routing.{nobody, fits, route_of}
use Rattle.state.specs.Compared.{compared_for}
use Rattle.settings.specs.Settings.{routes_in, wrong_shape, beyond_range, equal_filters, wrong_sets, set_times_from, fresh_of, loaded_of}
use Rattle.settings.specs.Settings.{verdict as settings_verdict}
use Rattle.filing.specs.Closing.{closed_file}
use Rattle.events.specs.declared.Answer.{Answer}
use Rattle.events.specs.Events.{refusal_of, answered, open_of, close_of, tick_of}
use Rattle.events.specs.Receive.{receive_of}
use Rattle.events.specs.Lent.{open_on, close_on, tick_on, receive_on}
use Rattle.words.specs.Words.{route_in, manager_in, words_of}
use Rattle.ledger.specs.Event.{Event, open_event, close_event, receive_event}
use Rattle.ledger.specs.Ledger.{answer_of, entry_of}
use Rattle.ledger.specs.Run.{run_of, said_in, store_after, books_of, booked_in, ledger_from}
use Rattle.edge_table.specs.Manager.{release4, lent, answers_in}

-- route i: a filter of one octet 0x30 + i, size limit 128 + i
abbrev route : ℕ → List ℕ
route i = 2 ∷ 1 ∷ (0x30 + i) ∷ replicate 19 0 ++ (be 4 (128 + i) ++ (replicate 8 0 ++ (0 ∷ 0x83 ∷ 0 ∷ be 4 7)))

abbrev routes : ℕ → List ℕ
routes zero = []
routes (suc n) = routes n ++ route n

-- a node at offset 0 and the first n routes
abbrev settings : ℕ → List ℕ
settings n = 1 ∷ replicate 16 0 ++ (be 2 1439 ++ routes n)

abbrev pub Eight : Type 0
Eight =
    -- eight are accepted, and nine are not
    ((fresh_of (settings 8)).refusal ≡ 0) × ((fresh_of (settings 8)).manager.count ≡ 8)
    × ((fresh_of (settings 9)).refusal ≡ 1)
    -- keys that only the first filter fits, only the eighth, and none
    × (route_of (fresh_of (settings 8)).manager (0x30 ∷ []) ≡ record { found = true; at = 0; octets = 1 })
    × (route_of (fresh_of (settings 8)).manager (0x37 ∷ 0x30 ∷ []) ≡ record { found = true; at = 7; octets = 1 })
    × (route_of (fresh_of (settings 8)).manager (0x38 ∷ []) ≡ nobody)

pub eight : Eight
unfolding fresh_of settings_verdict routes_in wrong_shape beyond_range equal_filters wrong_sets settings_right same_filter fits route_of
eight = (refl, refl, refl, refl, refl, refl)

-- both sides say so, with a store of n octets; each event is lent an output of 62
abbrev BothSay : ℕ → List Event → List Answer → Type 0
BothSay n events answers =
    (answers_in (said_in (run_of (loaded_of (settings 8)).words (replicate n 0xDD) (lent 62 events))) ≡ answers)
    × (answers_in (booked_in (books_of (ledger_from (settings 8)) n (lent 62 events))) ≡ answers)

-- a record with a key that only the eighth filter fits
abbrev received : Event
received = receive_event 0 release4 (0x37 ∷ 0x30 ∷ []) (0xA1 ∷ 0xB2 ∷ [])

abbrev pub Eighth : Type 0
Eighth =
    -- the record is placed on the eighth route, and an octet of each of the eight filters is compared
    BothSay 1052 (received ∷ []) (answered 2 7 0 0 8 ∷ [])
    -- refusal 16: all regions together have 1,052 octets
    × BothSay 1051 (received ∷ []) (refusal_of 16 0 ∷ [])
    -- the eighth region starts at 917, after limits of 128 to 134 octets
    × (store_after (loaded_of (settings 8)).words (replicate 1052 0xDD) (lent 0 (received ∷ []))
    ≡ replicate 917 0xDD ++ (0x00 ∷ 0x02 ∷ 0x83 ∷ 0x2F ∷ 0xA1 ∷ 0xB2 ∷ replicate 129 0xDD))
    -- the eighth is opened and closed; a ninth gets refusal 6
    × BothSay 1052 (open_event 0 7 ∷ open_event 0 8 ∷ close_event 0 7 4 ∷ close_event 0 8 4 ∷ []) (answered 1 7 0 0 0 ∷ refusal_of 6 0 ∷ answered 5 7 1 62 0 ∷ refusal_of 6 0 ∷ [])
    -- refusal 18: word 5 of the state, the number of routes, is 9
    × ((tick_on (set (loaded_of (settings 8)).words 5 8) (replicate 1052 0xDD) [] 0).answer.refusal ≡ 0)
    × ((tick_on (set (loaded_of (settings 8)).words 5 9) (replicate 1052 0xDD) [] 0).answer.refusal ≡ 18)

pub eighth : Eighth
unfolding words_of manager_in route_in open_on close_on tick_on receive_on open_of close_of tick_of receive_of closed_file splice answer_of entry_of
    fresh_of settings_verdict routes_in wrong_shape beyond_range equal_filters wrong_sets set_times_from settings_right same_filter state_right sets_right file_right
    fits route_of compared_for timestamp_of word_of date_from month_days file_octets fixed_octets records_octets record_octets highest lowest
eighth = ((refl, refl), (refl, refl), refl, (refl, refl), refl, refl)
