-- The octets of filters that RECEIVE compares, by evaluation (document 02, ask 7), on the manager's side and on the ledger's: one key with
-- filters that are longer, equal, a prefix, and different in the first and in the last octet; the outcomes and the refusals. Assumes nothing.
use Rattle.std.specs.Prelude.{◌≡◌, refl, List, [], ◌∷◌, ◌++◌, ℕ, ◌-◌, length, replicate}
use Rattle.octets.specs.Number.{be}
use Rattle.octets.specs.Splice.{splice}
use Rattle.record.specs.Record.{record_octets, records_octets, highest, lowest}
use Rattle.state.specs.declared.RouteSettings.{RouteSettings}
use Rattle.state.specs.Manager.{no_release}
use Rattle.state.specs.SetTimes.{sets_right}
use Rattle.state.specs.Bounds.{same_filter, settings_right, file_right, state_right}
use Rattle.state.specs.Routing.{fits, route_of}
use Rattle.state.specs.Compared.{compared_with, compared_for}
use Rattle.settings.specs.Settings.{routes_in, wrong_shape, beyond_range, equal_filters, wrong_sets, set_times_from, fresh_of, loaded_of}
use Rattle.settings.specs.Settings.{verdict as settings_verdict}
use Rattle.events.specs.declared.Answer.{Answer}
use Rattle.events.specs.declared.Arrival.{Arrival}
use Rattle.events.specs.Events.{refusal_of, answered, open_of, tick_of}
use Rattle.events.specs.Receive.{receive_of}
use Rattle.events.specs.Lent.{open_on, tick_on, receive_on}
use Rattle.words.specs.Words.{route_in, manager_in, words_of}
use Rattle.ledger.specs.Event.{Event, open_event, tick_event, receive_event}
use Rattle.ledger.specs.Ledger.{compared_on, answer_of, entry_of}
use Rattle.ledger.specs.Run.{run_of, said_in, books_of, booked_in, ledger_from}
use Rattle.edge_table.specs.Manager.{lent, answers_in}

-- One filter and one key, in both definitions.
abbrev filtered : List ℕ → RouteSettings
filtered filter =
    record { filter = filter ++ replicate (20 - length filter) 0; octets = length filter; limit = 128; age = 0; most = 0; flag = 0; release = no_release }

abbrev Costs : List ℕ → List ℕ → ℕ → Type 0
Costs filter key n = (compared_with (filtered filter) key ≡ n) × (compared_on (filtered filter) key ≡ n)

abbrev pub OneFilter : Type 0
OneFilter =
    -- longer than the key: nothing, whatever it begins with
    Costs (0x31 ∷ 0x32 ∷ 0x33 ∷ 0x34 ∷ []) (0x31 ∷ 0x32 ∷ 0x33 ∷ []) 0
    -- equal, and a prefix: its whole length
    × Costs (0x31 ∷ 0x32 ∷ 0x33 ∷ []) (0x31 ∷ 0x32 ∷ 0x33 ∷ []) 3
    × Costs (0x31 ∷ []) (0x31 ∷ 0x32 ∷ 0x33 ∷ []) 1
    -- different in the first octet, in one between, in the last
    × Costs (0x41 ∷ 0x32 ∷ 0x33 ∷ []) (0x31 ∷ 0x32 ∷ 0x33 ∷ []) 1
    × Costs (0x31 ∷ 0x42 ∷ 0x33 ∷ []) (0x31 ∷ 0x32 ∷ 0x33 ∷ []) 2
    × Costs (0x31 ∷ 0x32 ∷ 0x43 ∷ []) (0x31 ∷ 0x32 ∷ 0x33 ∷ []) 3
    -- no filter, no key
    × Costs [] (0x31 ∷ []) 0 × Costs [] [] 0 × Costs (0 ∷ []) [] 0
    -- twenty octets, the last of which differs
    × Costs (replicate 19 0x31 ++ (0x32 ∷ [])) (replicate 20 0x31) 20

pub one_filter : OneFilter
one_filter = ((refl, refl), (refl, refl), (refl, refl), (refl, refl), (refl, refl), (refl, refl), (refl, refl), (refl, refl), (refl, refl), (refl, refl))

-- A manager with a filter of each kind for the key 31 32 33: they cost 0, 3, 1, 1 and 3, and the second takes the record.
abbrev route : List ℕ → List ℕ
route filter = 2 ∷ length filter ∷ filter ++ (replicate (20 - length filter) 0 ++ (be 4 128 ++ (replicate 8 0 ++ (0 ∷ 0x83 ∷ 0 ∷ be 4 7))))

abbrev settings : List ℕ
settings =
    1 ∷ replicate 16 0
    ++ (be 2 1439
    ++ (route (0x31 ∷ 0x32 ∷ 0x33 ∷ 0x34 ∷ [])
    ++ (route (0x31 ∷ 0x32 ∷ 0x33 ∷ [])
    ++ (route (0x31 ∷ []) ++ (route (0x41 ∷ 0x32 ∷ []) ++ route (0x31 ∷ 0x32 ∷ 0x43 ∷ []))))))

abbrev arrival : ℕ → Arrival
arrival mark = record { mark = mark; release = 4; version = 3; extension = 0; format = 1; ts = 15 }

abbrev Answered : List Event → List Answer → Type 0
Answered events told =
    (answers_in (said_in (run_of (loaded_of settings).words (replicate 640 0xDD) (lent 0 events))) ≡ told)
    × (answers_in (booked_in (books_of (ledger_from settings) 640 (lent 0 events))) ≡ told)

abbrev key : List ℕ
key = 0x31 ∷ 0x32 ∷ 0x33 ∷ []

abbrev pub AllFilters : Type 0
AllFilters =
    -- placed and lost: all filters are counted, not that of the chosen route alone
    Answered (receive_event 0 (arrival 0) key [] ∷ receive_event 0 (arrival 1) key [] ∷ []) (answered 2 1 0 0 8 ∷ answered 3 1 0 0 8 ∷ [])
    -- unrouted by its key, which only the one octet of 31 is compared with; with no key nothing is
    × Answered (receive_event 0 (arrival 0) (0x32 ∷ []) [] ∷ receive_event 0 (arrival 0) [] [] ∷ []) (answered 4 255 0 0 1 ∷ answered 4 255 0 0 0 ∷ [])
    -- mark 2, a refusal, and the other events: nothing
    × Answered (receive_event 0 (arrival 2) key [] ∷ receive_event 0 (arrival 3) key [] ∷ open_event 0 1 ∷ tick_event 0 ∷ [])
    (answered 4 255 0 0 0 ∷ refusal_of 5 0 ∷ answered 1 1 0 0 0 ∷ answered 6 255 0 0 0 ∷ [])

pub all_filters : AllFilters
unfolding words_of manager_in route_in open_on tick_on receive_on records_octets record_octets highest lowest fresh_of settings_verdict routes_in wrong_shape beyond_range equal_filters wrong_sets set_times_from settings_right same_filter state_right sets_right file_right fits route_of compared_for open_of tick_of receive_of splice answer_of entry_of
all_filters = ((refl, refl), (refl, refl), (refl, refl))
