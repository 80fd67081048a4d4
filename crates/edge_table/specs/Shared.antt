-- What the manager's definitions and the ledger share, held apart from both by evaluation: where each setting stands in the
-- octets, when a filter fits, which one is chosen and what a header carries of it, the loss rule, which of two releases is later and
-- when two are the same, the record of an arrival, which refusal is the first, and the form of an answer. LossCounts has the octets of the loss
-- counts, Indicators the indicator, Packets what a packet's octets say, EdgeTable sizes, layout and local time. A mistake in one of these
-- would stand on both sides of demand 3 and prove (document 01, Settings; Record header; Routing and loss; Refusals). Then each
-- condition of refusals 5 and 7 with its neighbour that passes, which the ledger states in words of its own.
use Rattle.std.specs.Prelude.{◌≡◌, refl, true, false, List, [], ◌∷◌, ◌++◌, ℕ, replicate}
use Rattle.refusals.specs.Refusal.{◌when◌, first}
use Rattle.record.specs.declared.Release.{Release}
use Rattle.state.specs.declared.RouteSettings.{RouteSettings}
use Rattle.state.specs.declared.Route.{Route}
use Rattle.state.specs.Manager.{Manager}
use Rattle.state.specs.Manager.{no_file, filter_of}
use Rattle.state.specs.Bounds.{same_filter, settings_right, same_release}
use Rattle.state.specs.Loss.{lost}
use Rattle.state.specs.Routing.{nobody, better, fits}
use Rattle.settings.specs.Settings.{unused_route, routes_in, wrong_shape, beyond_range, equal_filters, wrong_sets, set_times_from, fresh_of}
use Rattle.settings.specs.Settings.{verdict as settings_verdict}
use Rattle.events.specs.declared.Arrival.{Arrival}
use Rattle.events.specs.Rules.{later, earlier, allowed, wrong_fields}
use Rattle.events.specs.Events.{answered}
use Rattle.events.specs.Receive.{record_of}
use Rattle.ledger.specs.Ledger.{none, Line, Ledger}
use Rattle.ledger.specs.Run.{ledger_from}

-- Settings of two routes with set times in which no two fields of one width are equal and none is 0, but for the kinds, the flags (1 and 0) and the
-- route numbers of the set times (0, 0 and 1), which have no other values to choose from.
abbrev address : List ℕ
address = 0xA0 ∷ 0xA1 ∷ 0xA2 ∷ 0xA3 ∷ 0xA4 ∷ 0xA5 ∷ 0xA6 ∷ 0xA7 ∷ 0xA8 ∷ 0xA9 ∷ 0xAA ∷ 0xAB ∷ 0xAC ∷ 0xAD ∷ 0xAE ∷ 0xAF ∷ []

abbrev first_filter : List ℕ
first_filter = 0x31 ∷ 0x32 ∷ 0x33 ∷ replicate 17 0

abbrev second_filter : List ℕ
second_filter = 0x41 ∷ 0x42 ∷ 0x43 ∷ 0x44 ∷ replicate 16 0

abbrev octets : List ℕ
octets =
    (1 ∷ address)
    -- offset +60: 1,499
    ++ (0x05 ∷ 0xDB
    -- kind and filter
    ∷ 2 ∷ 3 ∷ first_filter)
    -- size limit, open-time limit, most records
    ++ (0x00 ∷ 0x01 ∷ 0x02 ∷ 0x03
    ∷ 0x04 ∷ 0x05 ∷ 0x06 ∷ 0x07
    ∷ 0x08 ∷ 0x09 ∷ 0x0A ∷ 0x0B
    -- flag; release 7, version 5; extension 9; first sequence number
    ∷ 1
    ∷ 0xE5
    ∷ 9
    ∷ 0x0C ∷ 0x0D ∷ 0x0E ∷ 0x0F
    ∷ 2 ∷ 4 ∷ second_filter)
    ++ (0x00 ∷ 0x0F ∷ 0x10 ∷ 0x11
    ∷ 0x12 ∷ 0x13 ∷ 0x14 ∷ 0x15
    ∷ 0x16 ∷ 0x17 ∷ 0x18 ∷ 0x19
    -- flag; release 7, version 6; extension 10; first sequence number
    ∷ 0
    ∷ 0xE6
    ∷ 10
    ∷ 0x1A ∷ 0x1B ∷ 0x1C ∷ 0x1D
    -- set times: two of the first route, one of the second
    ∷ 3 ∷ 0 ∷ 0x02 ∷ 0x03
    ∷ 3 ∷ 0 ∷ 0x04 ∷ 0x05
    ∷ 3 ∷ 1 ∷ 0x05 ∷ 0x06 ∷ [])

abbrev first_settings : RouteSettings
first_settings =
    record {
      filter = first_filter;
      octets = 3;
      limit = 0x00010203;
      age = 0x04050607;
      most = 0x08090A0B;
      flag = 1;
      release = record { release = 7; extension = 9; version = 5 };
    }

abbrev second_settings : RouteSettings
second_settings =
    record {
      filter = second_filter;
      octets = 4;
      limit = 0x000F1011;
      age = 0x12131415;
      most = 0x16171819;
      flag = 0;
      release = record { release = 7; extension = 10; version = 6 };
    }

abbrev route : RouteSettings → ℕ → Route
route s next = record { settings = s; next = next; losses = 0; unrouted = 0; «open» = false; file = no_file }

abbrev line : RouteSettings → ℕ → Line
line s next = record { settings = s; received = 0; lost = 0; next = next; losses = 0; unrouted = 0; closed = []; current = none }

abbrev manager : Manager
manager =
    record {
      routes = route first_settings 0x0C0D0E0F ∷ route second_settings 0x1A1B1C1D ∷ replicate 6 unused_route;
      count = 2;
      address = address;
      bias = 1499;
      last = 0;
      unrouted = 0;
      set_times = 2 ∷ 1 ∷ (replicate 6 0 ++ (0x0203 ∷ 0x0405 ∷ (replicate 22 0 ++ (0x0506 ∷ replicate 167 0))));
    }

abbrev ledger : Ledger
ledger =
    record {
      address = address;
      bias = 1499;
      time = 0;
      unrouted = 0;
      sets = (0x0203 ∷ 0x0405 ∷ []) ∷ (0x0506 ∷ []) ∷ [];
      lines = line first_settings 0x0C0D0E0F ∷ line second_settings 0x1A1B1C1D ∷ [];
    }

abbrev pub SettingsOctets : Type 0
SettingsOctets = (fresh_of octets ≡ record { refusal = 0; manager = manager }) × (ledger_from octets ≡ ledger)

pub settings_octets : SettingsOctets
unfolding fresh_of settings_verdict routes_in wrong_shape beyond_range equal_filters wrong_sets set_times_from settings_right same_filter
settings_octets = (refl, refl)

-- A filter of three octets: equal to the key, a prefix of it, longer than it, different in the last octet, and in the first.
abbrev pub Filters : Type 0
Filters =
    (fits first_settings (0x31 ∷ 0x32 ∷ 0x33 ∷ []) ≡ true)
    × (fits first_settings (0x31 ∷ 0x32 ∷ 0x33 ∷ 0x34 ∷ []) ≡ true)
    × (fits first_settings (0x31 ∷ 0x32 ∷ []) ≡ false)
    × (fits first_settings (0x31 ∷ 0x32 ∷ 0x34 ∷ []) ≡ false)
    × (fits first_settings (0x32 ∷ 0x32 ∷ 0x33 ∷ []) ≡ false)

pub filters : Filters
unfolding fits
filters = (refl, refl, refl, refl, refl)

-- a route with a filter of so many of these octets, and nothing else that counts here
abbrev filtered : ℕ → List ℕ → RouteSettings
filtered n filter =
    record { filter = filter; octets = n; limit = 128; age = 0; most = 0; flag = 0; release = record { release = 4; extension = 0; version = 3 } }

-- The filter of no octets and the filter 0x00 have the same twenty octets, and differ.
abbrev no_octets : RouteSettings
no_octets = filtered 0 (replicate 20 0)

abbrev one_zero : RouteSettings
one_zero = filtered 1 (replicate 20 0)

abbrev pub NoneAndZero : Type 0
NoneAndZero =
    (same_filter no_octets one_zero ≡ false)
    × (same_filter no_octets no_octets ≡ true)
    × (same_filter one_zero one_zero ≡ true)
    × (fits no_octets [] ≡ true)
    × (fits one_zero [] ≡ false)
    × (better (better nobody 0 no_octets (0 ∷ [])) 1 one_zero (0 ∷ []) ≡ record { found = true; at = 1; octets = 1 })
    × (better (better nobody 0 no_octets (1 ∷ [])) 1 one_zero (1 ∷ []) ≡ record { found = true; at = 0; octets = 0 })

pub none_and_zero : NoneAndZero
unfolding same_filter fits
none_and_zero = (refl, refl, refl, refl, refl, refl, refl)

-- A header carries the octets of the filter that count, and no others.
abbrev pub FilterWritten : Type 0
FilterWritten = (filter_of first_settings ≡ 0x31 ∷ 0x32 ∷ 0x33 ∷ []) × (filter_of no_octets ≡ []) × (filter_of one_zero ≡ 0 ∷ [])

pub filter_written : FilterWritten
filter_written = (refl, refl, refl)

-- The longest filter that fits is chosen, whatever its place.
abbrev prefix : RouteSettings
prefix = filtered 1 (0x31 ∷ replicate 19 0)

abbrev key : List ℕ
key = 0x31 ∷ 0x32 ∷ 0x33 ∷ 0x34 ∷ []

abbrev pub Longest : Type 0
Longest =
    (better (better nobody 0 first_settings key) 1 prefix key ≡ record { found = true; at = 0; octets = 3 })
    × (better (better nobody 0 prefix key) 1 first_settings key ≡ record { found = true; at = 1; octets = 3 })
    × (better (better nobody 0 prefix key) 1 second_settings key ≡ record { found = true; at = 0; octets = 1 })
    × (better (better nobody 0 second_settings key) 1 second_settings key ≡ nobody)

pub longest : Longest
unfolding fits
longest = (refl, refl, refl, refl)

-- By release, then extension, then version: the first of each pair is the lesser.
abbrev of : ℕ → ℕ → ℕ → Release
of release extension version = record { release = release; extension = extension; version = version }

abbrev Rises : Release → Release → Type 0
Rises a b =
    (later a b ≡ b) × (later b a ≡ b) × (earlier a b ≡ a) × (earlier b a ≡ a) × (same_release a b ≡ false) × (same_release b a ≡ false)

abbrev pub Order : Type 0
Order =
    Rises (of 5 0 31) (of 6 0 0)
    × Rises (of 6 0 31) (of 7 0 0)
    × Rises (of 7 1 31) (of 7 2 0)
    × Rises (of 7 2 4) (of 7 2 5)
    × (same_release (of 7 2 5) (of 7 2 5) ≡ true)

pub order : Order
order = (
  (refl, refl, refl, refl, refl, refl),
  (refl, refl, refl, refl, refl, refl),
  (refl, refl, refl, refl, refl, refl),
  (refl, refl, refl, refl, refl, refl),
  refl,
)

-- Each field of an arrival goes to its own place in the record.
abbrev pub RecordOfArrival : Type 0
RecordOfArrival =
    record_of (record { mark = 0; release = 7; version = 3; extension = 9; format = 2; ts = 15 }) (0xA1 ∷ [])
    ≡ record { header = record { release = record { release = 7; extension = 9; version = 3 }; format = 2; ts = 15 }; body = 0xA1 ∷ [] }

pub record_of_arrival : RecordOfArrival
record_of_arrival = refl

-- The loss rule: each of its three conditions beside what is placed.
abbrev pub LossRule : Type 0
LossRule =
    -- the mark
    (lost 128 0 0 (of 4 0 3) 2 ≡ false) × (lost 128 0 1 (of 4 0 3) 2 ≡ true)
    -- the longest body, on a route with room for both
    × (lost 1048576 0 0 (of 4 0 3) 65534 ≡ false) × (lost 1048576 0 0 (of 4 0 3) 65535 ≡ true)
    -- the size limit, with a filter of 3 octets: 50 + 3 + 11 + 4 + 60; of release 7: 52 + 3 + 11 + 5 + 57
    × (lost 128 3 0 (of 4 0 3) 60 ≡ false) × (lost 128 3 0 (of 4 0 3) 61 ≡ true)
    × (lost 128 3 0 (of 7 2 3) 57 ≡ false) × (lost 128 3 0 (of 7 2 3) 58 ≡ true)

pub loss_rule : LossRule
loss_rule = (refl, refl, refl, refl, refl, refl, refl, refl)

-- The first in order of the refusals that apply, 0 if none does; and each number of an answer in its own place.
abbrev pub Answers : Type 0
Answers =
    (first ((16 when false) ∷ (4 when true) ∷ (5 when true) ∷ []) ≡ 4)
    × (first ((16 when true) ∷ (4 when false) ∷ (5 when true) ∷ []) ≡ 16)
    × (first ((16 when false) ∷ (4 when false) ∷ (5 when false) ∷ []) ≡ 0)
    × (answered 2 1 3 61 9 ≡ record { refusal = 0; outcome = 2; route = 1; files = 3; compared = 9; octets = 61 })

pub answers : Answers
answers = (refl, refl, refl, refl)

-- Refusal 5: each condition beside what passes.
abbrev arrival : ℕ → ℕ → ℕ → ℕ → ℕ → ℕ → Arrival
arrival mark release version extension format ts =
    record { mark = mark; release = release; version = version; extension = extension; format = format; ts = ts }

abbrev marked : ℕ → Arrival
marked mark = arrival mark 4 3 0 1 15

abbrev pub Fields : Type 0
Fields =
    -- the mark: 2 and 3
    (wrong_fields (marked 2) 0 ≡ false) × (wrong_fields (marked 3) 0 ≡ true)
    -- the key: 20 and 21, with mark 0, 1 and 2
    × (wrong_fields (marked 0) 20 ≡ false) × (wrong_fields (marked 0) 21 ≡ true)
    × (wrong_fields (marked 1) 20 ≡ false) × (wrong_fields (marked 1) 21 ≡ true)
    × (wrong_fields (marked 2) 20 ≡ false) × (wrong_fields (marked 2) 21 ≡ false)
    -- the release: 7 and 8
    × (wrong_fields (arrival 0 7 3 0 1 15) 0 ≡ false) × (wrong_fields (arrival 0 8 3 0 1 15) 0 ≡ true)
    -- the version: 31 and 32
    × (wrong_fields (arrival 0 4 31 0 1 15) 0 ≡ false) × (wrong_fields (arrival 0 4 32 0 1 15) 0 ≡ true)
    -- the extension: 0 and 1 below release 7, and 1 with it
    × (wrong_fields (arrival 0 6 3 0 1 15) 0 ≡ false) × (wrong_fields (arrival 0 6 3 1 1 15) 0 ≡ true) × (wrong_fields (arrival 0 7 3 1 1 15) 0 ≡ false)
    -- the format: 7 and 8
    × (wrong_fields (arrival 0 4 3 0 7 15) 0 ≡ false) × (wrong_fields (arrival 0 4 3 0 8 15) 0 ≡ true)
    -- the TS number: 31 and 32
    × (wrong_fields (arrival 0 4 3 0 1 31) 0 ≡ false) × (wrong_fields (arrival 0 4 3 0 1 32) 0 ≡ true)
    -- with mark 1 no field is looked at
    × (wrong_fields (arrival 1 8 32 1 8 32) 0 ≡ false)

pub fields : Fields
fields = (refl, refl, refl, refl, refl, refl, refl, refl, refl, refl, refl, refl, refl, refl, refl, refl, refl, refl, refl, refl)

-- Refusal 7: the reasons that CLOSE may give, and their neighbours.
abbrev pub Reasons : Type 0
Reasons =
    (allowed 0 ≡ true) × (allowed 1 ≡ false)
    × (allowed 3 ≡ false) × (allowed 4 ≡ true) × (allowed 5 ≡ false)
    × (allowed 127 ≡ false) × (allowed 128 ≡ true) × (allowed 129 ≡ true) × (allowed 130 ≡ true) × (allowed 131 ≡ true) × (allowed 132 ≡ false)

pub reasons : Reasons
reasons = (refl, refl, refl, refl, refl, refl, refl, refl, refl, refl, refl)
