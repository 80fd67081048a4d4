-- Ranges by evaluation, each at its ends and beside them: the fields of a timestamp (document 01, Timestamps; refusal 10 of the reader and of
-- the writer), and the values of settings (document 01, Settings; refusal 2), with what makes their shape wrong (refusal 1) and the order in
-- which refusals 1, 2 and 3 are tested (document 01, Refusals).
use Rattle.std.specs.Prelude.{◌≡◌, refl, true, false, List, [], ◌∷◌, ◌++◌, ℕ, ◌+◌, replicate, take, drop}
use Rattle.octets.specs.Number.{be}
use Rattle.timestamp.specs.declared.Timestamp.{Timestamp}
use Rattle.timestamp.specs.Timestamp.{word_of, fields_of, right}
use Rattle.record.specs.Record.{highest, lowest}
use Rattle.record.specs.Step.{cut}
use Rattle.record.specs.Walk.{walk_of, tally_of}
use Rattle.reader.specs.Places.{header_at}
use Rattle.reader.specs.Reader.{wrong_length, wrong_header_length, verdict, read_of}
use Rattle.writer.specs.Writer.{write_of}
use Rattle.writer.specs.Writer.{verdict as writer_verdict}
use Rattle.state.specs.Bounds.{same_filter, settings_right}
use Rattle.settings.specs.Settings.{routes_in, wrong_shape, beyond_range, equal_filters, wrong_sets, fresh_of}
use Rattle.settings.specs.Settings.{verdict as settings_verdict}
use Rattle.edge_table.specs.EdgeTable.{timed_stating, record_part, octets, midnight}

-- Timestamps: month, day, hour, minute, sign, deviation hours and minutes.
abbrev timestamp : ℕ → ℕ → ℕ → ℕ → ℕ → ℕ → ℕ → Timestamp
timestamp month day hour minute sign dev_hour dev_minute =
    record { month = month; day = day; hour = hour; minute = minute; sign = sign; dev_hour = dev_hour; dev_minute = dev_minute }

-- document 01's file with that timestamp in the four octets at an offset: 10 is its opening, 14 its last append
abbrev timed : ℕ → Timestamp → List ℕ
timed at t = take at octets ++ (be 4 (word_of t) ++ drop (at + 4) octets)

-- the writer's refusal of the file's fields with these times
abbrev writing : Timestamp → Timestamp → ℕ
writing opened appended = (write_of (timed_stating 0 opened appended) [] [] record_part (replicate 56 0xEE)).answer.refusal

-- the refusals of the reader, and of the writer, for that timestamp as opening and as last append
abbrev reads : Timestamp → List ℕ
reads t = (read_of (timed 10 t)).refusal ∷ (read_of (timed 14 t)).refusal ∷ []

abbrev writes : Timestamp → List ℕ
writes t = writing t (midnight 1 1) ∷ writing (midnight 1 1) t ∷ []

-- it is right, and both accept it
abbrev Taken : Timestamp → Type 0
Taken t = (right t ≡ true) × (reads t ++ writes t ≡ 0 ∷ 0 ∷ 0 ∷ 0 ∷ [])

-- it is wrong, and both refuse it with 10
abbrev Wrong : Timestamp → Type 0
Wrong t = (right t ≡ false) × (reads t ++ writes t ≡ 10 ∷ 10 ∷ 10 ∷ 10 ∷ [])

-- a field is beyond its width, so that no file has it: refusal 2 of the writer
abbrev Wide : Timestamp → Type 0
Wide t = writes t ≡ 2 ∷ 2 ∷ []

-- Each row has one field at an end of its range, or beside it, or beyond its width. First the date, but for the last days of the months, which
-- are in `Dates` of EdgeTable.
abbrev pub DateRanges : Type 0
DateRanges =
    -- month 0, 1, 12, 13 and 16
    Wrong (timestamp 0 1 0 0 1 0 0)
    × Taken (timestamp 1 1 0 0 1 0 0)
    × Taken (timestamp 12 1 0 0 1 0 0)
    × Wrong (timestamp 13 1 0 0 1 0 0)
    × Wide (timestamp 16 1 0 0 1 0 0)
    -- day 0
    × Wrong (timestamp 1 0 0 0 1 0 0)

pub date_ranges : DateRanges
unfolding read_of verdict wrong_length wrong_header_length header_at fields_of word_of tally_of walk_of cut highest lowest write_of writer_verdict
date_ranges = ((refl, refl), (refl, refl), (refl, refl), (refl, refl), refl, (refl, refl))

abbrev pub TimeRanges : Type 0
TimeRanges =
    -- hour 23, 24 and 32
    Taken (timestamp 1 1 23 0 1 0 0)
    × Wrong (timestamp 1 1 24 0 1 0 0)
    × Wide (timestamp 1 1 32 0 1 0 0)
    -- minute 59, 60 and 64
    × Taken (timestamp 1 1 0 59 1 0 0)
    × Wrong (timestamp 1 1 0 60 1 0 0)
    × Wide (timestamp 1 1 0 64 1 0 0)

pub time_ranges : TimeRanges
unfolding read_of verdict wrong_length wrong_header_length header_at fields_of word_of tally_of walk_of cut highest lowest write_of writer_verdict
time_ranges = ((refl, refl), (refl, refl), refl, (refl, refl), (refl, refl), refl)

abbrev pub DeviationRanges : Type 0
DeviationRanges =
    -- sign 0 and 2; the other rows have 1
    Taken (timestamp 1 1 0 0 0 0 0)
    × Wide (timestamp 1 1 0 0 2 0 0)
    -- hours 23, 24 and 32
    × Taken (timestamp 1 1 0 0 1 23 0)
    × Wrong (timestamp 1 1 0 0 1 24 0)
    × Wide (timestamp 1 1 0 0 1 32 0)
    -- minutes 59, 60 and 64
    × Taken (timestamp 1 1 0 0 1 0 59)
    × Wrong (timestamp 1 1 0 0 1 0 60)
    × Wide (timestamp 1 1 0 0 1 0 64)

pub deviation_ranges : DeviationRanges
unfolding read_of verdict wrong_length wrong_header_length header_at fields_of word_of tally_of walk_of cut highest lowest write_of writer_verdict
deviation_ranges = ((refl, refl), refl, (refl, refl), (refl, refl), refl, (refl, refl), (refl, refl), refl)

-- Settings: a node by its offset plus 1,439, and a route by the values that have a range: the filter's length and its twenty octets, the size
-- limit, the flag, the octet of release and version, and the extension.
abbrev node : ℕ → List ℕ
node bias = 1 ∷ replicate 16 0 ++ be 2 bias

abbrev route : ℕ → List ℕ → ℕ → ℕ → ℕ → ℕ → List ℕ
route n filter limit flag release extension =
    2 ∷ n ∷ filter ++ (be 4 limit ++ (replicate 8 0 ++ (flag ∷ release ∷ extension ∷ be 4 7)))

-- a route by its filter's length and octets, by its size limit, by its flag, by its release and extension
abbrev filtered : ℕ → List ℕ → List ℕ
filtered n filter = route n filter 128 0 0x83 0

abbrev limited : ℕ → List ℕ
limited limit = route 0 (replicate 20 0) limit 0 0x83 0

abbrev flagged : ℕ → List ℕ
flagged flag = route 0 (replicate 20 0) 128 flag 0x83 0

abbrev released : ℕ → ℕ → List ℕ
released release extension = route 0 (replicate 20 0) 128 0 release extension

-- a route with a filter of one octet, and this size limit
abbrev named : ℕ → ℕ → List ℕ
named filter limit = route 1 (filter ∷ replicate 19 0) limit 0 0x83 0

-- settings get this refusal, 0 where they are accepted
abbrev Gets : ℕ → List ℕ → Type 0
Gets refusal xs = (fresh_of xs).refusal ≡ refusal

-- the same of routes, after a node that is right
abbrev RoutesGet : ℕ → List ℕ → Type 0
RoutesGet refusal xs = Gets refusal (node 1439 ++ xs)

abbrev pub SettingsRanges : Type 0
SettingsRanges =
    -- the offset plus 1,439: 0, 2,878 and 2,879
    Gets 0 (node 0 ++ limited 128) × Gets 0 (node 2878 ++ limited 128) × Gets 2 (node 2879 ++ limited 128)
    -- the filter's length: 0, 20 and 21
    × RoutesGet 0 (filtered 0 (replicate 20 0)) × RoutesGet 0 (filtered 20 (replicate 20 0x31)) × RoutesGet 2 (filtered 21 (replicate 20 0x31))
    -- an octet after the filter's length that is not 0: the first of all, the first after three, the last of all
    × RoutesGet 2 (filtered 0 (0x31 ∷ replicate 19 0))
    × RoutesGet 0 (filtered 3 (replicate 3 0x31 ++ replicate 17 0)) × RoutesGet 2 (filtered 3 (replicate 4 0x31 ++ replicate 16 0))
    × RoutesGet 2 (filtered 19 (replicate 20 0x31))
    -- the size limit: 127, 128, 1,048,576 and 1,048,577
    × RoutesGet 2 (limited 127) × RoutesGet 0 (limited 128) × RoutesGet 0 (limited 1048576) × RoutesGet 2 (limited 1048577)
    -- the flag: 0, 1 and 2
    × RoutesGet 0 (flagged 0) × RoutesGet 0 (flagged 1) × RoutesGet 2 (flagged 2)
    -- the extension: 0 alone with release 6, and any octet with release 7
    × RoutesGet 0 (released 0xC3 0) × RoutesGet 2 (released 0xC3 1) × RoutesGet 0 (released 0xE3 0) × RoutesGet 0 (released 0xE3 255)
    -- no other value has a range: release 0 with version 31, and all ones in the open-time limit, the most records and the first sequence number
    × RoutesGet 0 (2 ∷ replicate 21 0 ++ (be 4 128 ++ (replicate 8 0xFF ++ (0 ∷ 0x1F ∷ 0 ∷ replicate 4 0xFF))))
    -- each route is tested, not the first alone
    × RoutesGet 0 (named 0x31 128 ++ named 0x32 128) × RoutesGet 2 (named 0x31 128 ++ named 0x32 127)

pub settings_ranges : SettingsRanges
unfolding fresh_of settings_verdict routes_in wrong_shape beyond_range equal_filters wrong_sets settings_right same_filter
settings_ranges = (refl, refl, refl, refl, refl, refl, refl, refl, refl, refl, refl, refl, refl, refl, refl, refl, refl, refl, refl, refl, refl, refl, refl, refl)

-- Refusal 1: the node, then 1 to 8 routes, each whole. A ninth route is in EightRoutes, and set times in SetTimes.
abbrev pub Shapes : Type 0
Shapes =
    -- nothing, no route, no node, a route before the node, two nodes
    Gets 1 [] × Gets 1 (node 1439) × Gets 1 (limited 128) × Gets 1 (limited 128 ++ node 1439) × RoutesGet 1 (node 1439 ++ limited 128)
    -- the last octet cut, and an octet after the last route
    × RoutesGet 1 (take 40 (limited 128)) × RoutesGet 1 (limited 128 ++ (0 ∷ []))
    -- an unknown kind, 0 or 4, in the place of the node's, and of the route's
    × Gets 1 (0 ∷ drop 1 (node 1439) ++ limited 128) × Gets 1 (4 ∷ drop 1 (node 1439) ++ limited 128)
    × RoutesGet 1 (0 ∷ drop 1 (limited 128)) × RoutesGet 1 (4 ∷ drop 1 (limited 128))

pub shapes : Shapes
unfolding fresh_of settings_verdict routes_in wrong_shape beyond_range equal_filters wrong_sets settings_right same_filter
shapes = (refl, refl, refl, refl, refl, refl, refl, refl, refl, refl, refl)

-- The order of refusals 1, 2 and 3; that of 22 is in SetTimes.
abbrev pub InOrder : Type 0
InOrder =
    -- two equal filters; `SettingsRanges` has two that differ
    RoutesGet 3 (named 0x31 128 ++ named 0x31 128)
    -- 1 is tested before 2: a cut octet and a size limit of 127
    × RoutesGet 1 (take 40 (limited 127))
    -- 1 is tested before 3: a cut octet and two equal filters
    × RoutesGet 1 (named 0x31 128 ++ take 40 (named 0x31 128))
    -- 2 is tested before 3: a size limit of 127, in the first route or in the second, and two equal filters
    × RoutesGet 2 (named 0x31 127 ++ named 0x31 128) × RoutesGet 2 (named 0x31 128 ++ named 0x31 127)

pub in_order : InOrder
unfolding fresh_of settings_verdict routes_in wrong_shape beyond_range equal_filters wrong_sets settings_right same_filter
in_order = (refl, refl, refl, refl, refl)
