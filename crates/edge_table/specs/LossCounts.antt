-- The loss counts of document 02, ask 3, by evaluation: their octets, which the manager's definitions and the ledger share, what private
-- octets of any kind say, and the counts through the events, in which no two are equal, so that two that change places are seen. Losses and
-- unrouted records before an opening stand in the file; a closing begins again. Then refusal 19, on words that no events reach. Assumes
-- nothing.
use Rattle.std.specs.Prelude.{◌≡◌, refl, true, List, [], ◌∷◌, ◌++◌, ℕ, get_or, set, take, drop}
use Rattle.octets.specs.Splice.{splice}
use Rattle.calendar.specs.Calendar.{date_from, month_days}
use Rattle.timestamp.specs.Timestamp.{word_of}
use Rattle.timestamp.specs.LocalTime.{timestamp_of}
use Rattle.record.specs.Record.{record_octets, records_octets, highest, lowest}
use Rattle.cdrfile.specs.File.{fixed_octets, file_octets}
use Rattle.counts.specs.Counts.{count_octets, no_counts, counts_in}
use Rattle.state.specs.Routing.{fits, route_of}
use Rattle.state.specs.Compared.{compared_for}
use Rattle.state.specs.SetTimes.{sets_right}
use Rattle.state.specs.Bounds.{same_filter, settings_right, file_right, state_right}
use Rattle.settings.specs.Settings.{routes_in, wrong_shape, beyond_range, equal_filters, wrong_sets, set_times_from, fresh_of}
use Rattle.settings.specs.Settings.{verdict as settings_verdict}
use Rattle.filing.specs.Closing.{closed_file}
use Rattle.events.specs.declared.Answer.{Answer}
use Rattle.events.specs.declared.Arrival.{Arrival}
use Rattle.events.specs.Events.{refusal_of, answered, open_of, close_of}
use Rattle.events.specs.Receive.{receive_of}
use Rattle.events.specs.Lent.{open_on, close_on, receive_on}
use Rattle.words.specs.Words.{route_in, manager_in, words_of}
use Rattle.ledger.specs.Event.{Event, open_event, close_event, receive_event}
use Rattle.ledger.specs.Ledger.{answer_of, entry_of}
use Rattle.edge_table.specs.Manager.{fresh, store, outputs, filed}

-- 40,000 known losses and 3 unrouted records
abbrev many : List ℕ
many = 0x01 ∷ 0x00 ∷ 0x00 ∷ 0x9C ∷ 0x40 ∷ 0x00 ∷ 0x00 ∷ 0x00 ∷ 0x03 ∷ []

abbrev pub Octets : Type 0
Octets =
    (count_octets 40000 3 ≡ many)
    × (count_octets 0 4294967295 ≡ 0x01 ∷ 0x00 ∷ 0x00 ∷ 0x00 ∷ 0x00 ∷ 0xFF ∷ 0xFF ∷ 0xFF ∷ 0xFF ∷ [])
    × (counts_in many ≡ record { there = true; losses = 40000; unrouted = 3 })
    -- none counted is not the same as no such extension
    × (counts_in (count_octets 0 0) ≡ record { there = true; losses = 0; unrouted = 0 })
    -- no octets, one too few and one too many, another kind
    × (counts_in [] ≡ no_counts)
    × (counts_in (take 8 many) ≡ no_counts)
    × (counts_in (many ++ (0 ∷ [])) ≡ no_counts)
    × (counts_in (0 ∷ drop 1 many) ≡ no_counts)
    × (counts_in (2 ∷ drop 1 many) ≡ no_counts)

pub octets : Octets
unfolding counts_in
octets = (refl, refl, refl, refl, refl, refl, refl, refl, refl)

-- two unrouted records and three lost ones, of which one of each comes before the opening; closed twice
abbrev arrival : ℕ → Arrival
arrival mark = record { mark = mark; release = 4; version = 3; extension = 0; format = 1; ts = 15 }

abbrev marked : ℕ → Event
marked mark = receive_event 0 (arrival mark) [] []

abbrev events : List Event
events = marked 1 ∷ marked 2 ∷ open_event 0 0 ∷ marked 1 ∷ marked 2 ∷ marked 1 ∷ close_event 0 0 4 ∷ open_event 0 0 ∷ close_event 0 0 4 ∷ []

-- the lost indicator and the extension, of the file that the k-th event closes
abbrev said : List (List ℕ) → ℕ → List ℕ
said files k = get_or (get_or files k []) 47 0 ∷ take 11 (drop 50 (get_or files k []))

abbrev pub Filed : Type 0
Filed =
    (said (outputs 61 events) 6 ≡ 3 ∷ 0 ∷ 9 ∷ count_octets 3 2)
    × (said (outputs 61 events) 8 ≡ 0 ∷ 0 ∷ 9 ∷ count_octets 0 0)
    × (said (filed events) 6 ≡ 3 ∷ 0 ∷ 9 ∷ count_octets 3 2)
    × (said (filed events) 8 ≡ 0 ∷ 0 ∷ 9 ∷ count_octets 0 0)

pub files : Filed
unfolding words_of manager_in route_in open_on close_on receive_on timestamp_of word_of date_from month_days file_octets fixed_octets records_octets record_octets highest lowest fresh_of settings_verdict routes_in wrong_shape beyond_range equal_filters wrong_sets set_times_from settings_right same_filter state_right sets_right file_right fits route_of compared_for open_of close_of receive_of closed_file splice answer_of entry_of
files = (refl, refl, refl, refl)

-- A counter at its end, or one below it, in the words of the fresh manager (words, Words.antt): the manager's unrouted records are
-- word 7, of route 0 the known losses word 18 and the unrouted records word 19, of route 1, which is not configured, these word 38.
abbrev last : ℕ
last = 4294967295

abbrev told : ℕ → ℕ → ℕ → Answer
told word n mark = (receive_on (set fresh word n) store [] 0 (arrival mark) [] []).answer

abbrev unrouted : Answer
unrouted = answered 4 255 0 0 0

abbrev lost : Answer
lost = answered 3 0 0 0 0

abbrev pub Full : Type 0
Full =
    -- an unrouted record: the manager's counter, and that of the configured route
    (told 7 4294967294 2 ≡ unrouted) × (told 7 last 2 ≡ refusal_of 19 0)
    × (told 19 4294967294 2 ≡ unrouted) × (told 19 last 2 ≡ refusal_of 19 0)
    -- and of one that is not configured, which nobody raises; nor does it raise known losses
    × (told 38 last 2 ≡ unrouted) × (told 18 last 2 ≡ unrouted)
    -- a lost record: its route's known losses, and no other counter
    × (told 18 4294967294 1 ≡ lost) × (told 18 last 1 ≡ refusal_of 19 0)
    × (told 7 last 1 ≡ lost) × (told 19 last 1 ≡ lost)

pub full : Full
unfolding words_of manager_in route_in receive_on fresh_of settings_verdict routes_in wrong_shape beyond_range equal_filters wrong_sets set_times_from settings_right same_filter state_right sets_right file_right fits route_of compared_for receive_of
full = (refl, refl, refl, refl, refl, refl, refl, refl, refl, refl)
