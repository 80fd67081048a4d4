-- Set times of day by evaluation (document 02, ask 6), on the manager's side and on the ledger's: a file opened on the minute, and one
-- opened a minute before it; local midnight at five offsets; the open-time limit beside it; two routes of which one has the minute. Then
-- refusal 22, and 18 for a state that breaks it. Assumes nothing.
use Rattle.std.specs.Prelude.{◌≡◌, refl, List, [], ◌∷◌, ◌++◌, ℕ, zero, suc, get_or, set, replicate}
use Rattle.octets.specs.Number.{be}
use Rattle.octets.specs.Splice.{splice}
use Rattle.calendar.specs.Calendar.{date_from, month_days}
use Rattle.timestamp.specs.Timestamp.{word_of}
use Rattle.timestamp.specs.LocalTime.{timestamp_of}
use Rattle.record.specs.Record.{record_octets, records_octets}
use Rattle.cdrfile.specs.File.{fixed_octets, file_octets}
use Rattle.state.specs.SetTimes.{sets_right}
use Rattle.state.specs.Bounds.{same_filter, settings_right, file_right, state_right}
use Rattle.settings.specs.Settings.{routes_in, wrong_shape, beyond_range, equal_filters, wrong_sets, set_times_from, fresh_of, loaded_of}
use Rattle.settings.specs.Settings.{verdict as settings_verdict}
use Rattle.filing.specs.Closing.{closed_file}
use Rattle.events.specs.Events.{open_of, tick_of}
use Rattle.events.specs.Lent.{open_on, tick_on}
use Rattle.words.specs.Words.{route_in, manager_in, words_of}
use Rattle.ledger.specs.Event.{Event, open_event, tick_event, Said, event_answer, packet_answers}
use Rattle.ledger.specs.Ledger.{answer_of, entry_of}
use Rattle.ledger.specs.Run.{Done, run_of, Booked, books_of, joined, ledger_from}
use Rattle.edge_table.specs.Manager.{lent}

-- A node at an offset, and routes that have a filter of one octet, an open-time limit, and a first sequence number.
abbrev node : ℕ → List ℕ
node bias = 1 ∷ replicate 16 0 ++ be 2 bias

abbrev route : ℕ → ℕ → ℕ → List ℕ
route filter age first = 2 ∷ 1 ∷ filter ∷ replicate 19 0 ++ (be 4 128 ++ (be 4 age ++ (replicate 4 0 ++ (0 ∷ 0x83 ∷ 0 ∷ be 4 first))))

abbrev at : ℕ → ℕ → List ℕ
at number minute = 3 ∷ number ∷ be 2 minute

-- what each event closes: the number of files, and of the first its sequence number and its reason; 0xEE is the output as it was
abbrev said_of : ℕ → List ℕ → List ℕ
said_of files octets = files ∷ get_or octets 25 0xEE ∷ get_or octets 26 0xEE ∷ []

abbrev files_in : Said → ℕ
files_in (event_answer a) = a.files
files_in (packet_answers refusal accepted answers) = 0

abbrev done_in : List Done → List (List ℕ)
done_in [] = []
done_in (x ∷ done) = said_of (files_in x.said) x.output ∷ done_in done

abbrev booked_in : List Booked → List (List ℕ)
booked_in [] = []
booked_in (b ∷ bs) = said_of (files_in b.said) (joined b.entry.closings) ∷ booked_in bs

abbrev quiet : List ℕ
quiet = 0 ∷ 0xEE ∷ 0xEE ∷ []

abbrev closed : ℕ → ℕ → List ℕ
closed sequence reason = 1 ∷ sequence ∷ reason ∷ []

-- both sides say so
abbrev Says : List ℕ → List Event → List (List ℕ) → Type 0
Says settings events told =
    (done_in (run_of (loaded_of settings).words (replicate 256 0xDD) (lent 128 events)) ≡ told)
    × (booked_in (books_of (ledger_from settings) 256 (lent 128 events)) ≡ told)

-- one route, without an open-time limit
abbrev one : ℕ → ℕ → List ℕ
one bias minute = node bias ++ (route 0x31 0 7 ++ at 0 minute)

-- local midnight at an offset: not a minute before, and then
abbrev Midnight : ℕ → ℕ → ℕ → ℕ → Type 0
Midnight bias opened before midnight = Says (one bias 0) (open_event opened 0 ∷ tick_event before ∷ tick_event midnight ∷ []) (quiet ∷ quiet ∷ closed 7 0 ∷ [])

abbrev pub Minutes : Type 0
Minutes =
    -- opened on the minute, it waits a day
    Says (one 1439 600) (open_event 600 0 ∷ tick_event 600 ∷ tick_event 2039 ∷ tick_event 2040 ∷ []) (quiet ∷ quiet ∷ quiet ∷ closed 7 0 ∷ [])
    -- opened a minute before, it closes on it
    × Says (one 1439 600) (open_event 599 0 ∷ tick_event 599 ∷ tick_event 600 ∷ []) (quiet ∷ quiet ∷ closed 7 0 ∷ [])
    -- a TICK that comes late finds it passed
    × Says (one 1439 600) (open_event 599 0 ∷ tick_event 52595999 ∷ []) (quiet ∷ closed 7 0 ∷ [])
    -- offsets 0, 60, -60, 1,439 and -1,439
    × Midnight 1439 1 1439 1440
    × Midnight 1499 1 1379 1380
    × Midnight 1379 1 59 60
    × Midnight 2878 0 0 1
    × Midnight 0 0 1438 1439

pub minutes : Minutes
unfolding words_of manager_in route_in open_on tick_on timestamp_of word_of date_from month_days file_octets fixed_octets records_octets record_octets fresh_of settings_verdict routes_in wrong_shape beyond_range equal_filters wrong_sets set_times_from settings_right same_filter state_right sets_right file_right open_of tick_of closed_file splice answer_of entry_of
minutes = ((refl, refl), (refl, refl), (refl, refl), (refl, refl), (refl, refl), (refl, refl), (refl, refl), (refl, refl))

abbrev pub Reasons : Type 0
Reasons =
    -- both causes at one TICK: 2; the minute alone: 0; the limit alone: 2
    Says (node 1439 ++ (route 0x31 10 7 ++ at 0 10)) (open_event 0 0 ∷ tick_event 9 ∷ tick_event 10 ∷ []) (quiet ∷ quiet ∷ closed 7 2 ∷ [])
    × Says (node 1439 ++ (route 0x31 11 7 ++ at 0 10)) (open_event 0 0 ∷ tick_event 10 ∷ []) (quiet ∷ closed 7 0 ∷ [])
    × Says (node 1439 ++ (route 0x31 10 7 ++ at 0 11)) (open_event 0 0 ∷ tick_event 10 ∷ []) (quiet ∷ closed 7 2 ∷ [])
    -- two routes, of which the second has the minute
    × Says (node 1439 ++ (route 0x31 0 7 ++ (route 0x32 0 9 ++ at 1 10))) (open_event 0 0 ∷ open_event 0 1 ∷ tick_event 10 ∷ []) (quiet ∷ quiet ∷ closed 9 0 ∷ [])

pub reasons : Reasons
unfolding words_of manager_in route_in open_on tick_on timestamp_of word_of date_from month_days file_octets fixed_octets records_octets record_octets fresh_of settings_verdict routes_in wrong_shape beyond_range equal_filters wrong_sets set_times_from settings_right same_filter state_right sets_right file_right open_of tick_of closed_file splice answer_of entry_of
reasons = ((refl, refl), (refl, refl), (refl, refl), (refl, refl))

-- Refusal 22, and what comes before it.
abbrev two : List ℕ
two = node 1439 ++ (route 0x31 0 7 ++ route 0x32 0 9)

-- so many set times of a route, a minute apart
abbrev many : ℕ → List ℕ
many zero = []
many (suc n) = many n ++ at 0 n

abbrev Refused : ℕ → List ℕ → Type 0
Refused number settings = (loaded_of settings).refusal ≡ number

abbrev pub Refusals : Type 0
Refusals =
    Refused 0 (two ++ (at 0 0 ++ (at 0 1439 ++ (at 1 0 ++ at 1 1439))))
    × Refused 0 (two ++ at 1 5)
    -- a minute above 1,439; a route that is not configured; minutes that do not rise; routes out of order
    × Refused 22 (two ++ at 0 1440)
    × Refused 22 (two ++ at 2 0)
    × Refused 22 (two ++ (at 0 5 ++ at 0 5))
    × Refused 22 (two ++ (at 0 6 ++ at 0 5))
    × Refused 22 (two ++ (at 1 5 ++ at 0 6))
    -- a 25th
    × Refused 0 (two ++ many 24)
    × Refused 22 (two ++ many 25)
    -- behind 1: a cut one, another kind behind it, one before a route
    × Refused 1 (two ++ (at 2 0 ++ (3 ∷ [])))
    × Refused 1 (two ++ (at 2 0 ++ route 0x33 0 9))
    × Refused 1 (node 1439 ++ (at 2 0 ++ route 0x33 0 9))
    -- behind 2 and 3
    × Refused 2 (node 2879 ++ (route 0x31 0 7 ++ at 2 0))
    × Refused 3 (node 1439 ++ (route 0x31 0 7 ++ (route 0x31 0 9 ++ at 2 0)))

pub refusals : Refusals
unfolding fresh_of settings_verdict routes_in wrong_shape beyond_range equal_filters wrong_sets settings_right same_filter
refusals = (refl, refl, refl, refl, refl, refl, refl, refl, refl, refl, refl, refl, refl, refl)

-- 18, for set minutes that break 22's conditions, in the words of a route with one: word 160 has how many, word 168 the first, word 169 the
-- next, which does not count; word 161 has how many the second route has, which is not configured.
abbrev answer : ℕ → ℕ → ℕ
answer word n = (tick_on (set (loaded_of (one 1439 600)).words word n) (replicate 128 0xDD) [] 0).answer.refusal

abbrev pub States : Type 0
States =
    (answer 168 1439 ≡ 0) × (answer 168 1440 ≡ 18)
    × (answer 160 2 ≡ 18) × (answer 160 25 ≡ 18) × (answer 160 0 ≡ 0)
    × (answer 169 601 ≡ 0) × (answer 169 9999 ≡ 0) × (answer 161 25 ≡ 0)

pub states : States
unfolding words_of manager_in route_in tick_on fresh_of settings_verdict routes_in wrong_shape beyond_range equal_filters wrong_sets set_times_from settings_right same_filter state_right sets_right file_right tick_of
states = (refl, refl, refl, refl, refl, refl, refl, refl)
