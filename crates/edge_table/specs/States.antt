-- Refusal 18 by evaluation (document 01, Refusals; document 02, ask 3): states made by hand, most of which no event leaves, with one value at an
-- end of its range or beside it. `state_right` judges each, and so does TICK on its words. Set minutes are in SetTimes, nine routes in EightRoutes.
use Rattle.std.specs.Prelude.{◌≡◌, refl, Bool, true, false, [], ◌∷◌, ◌++◌, ℕ, ◌-◌, replicate}
use Rattle.record.specs.declared.Release.{Release}
use Rattle.state.specs.declared.RouteSettings.{RouteSettings}
use Rattle.state.specs.declared.OpenFile.{OpenFile}
use Rattle.state.specs.declared.Route.{Route}
use Rattle.state.specs.Manager.{Manager}
use Rattle.state.specs.Manager.{no_file}
use Rattle.state.specs.SetTimes.{sets_right}
use Rattle.state.specs.Bounds.{same_filter, settings_right, file_right, state_right}
use Rattle.settings.specs.Settings.{unused_route}
use Rattle.events.specs.Events.{tick_of}
use Rattle.events.specs.Lent.{tick_on}
use Rattle.words.specs.Words.{route_in, manager_in, words_of}

abbrev of : ℕ → ℕ → ℕ → Release
of release extension version = record { release = release; extension = extension; version = version }

abbrev release43 : Release
release43 = of 4 0 3

abbrev release723 : Release
release723 = of 7 2 3

-- a route's settings: a filter of n octets 0x31, the size limit, the most records, the flag; release 4, version 3
abbrev settings : ℕ → ℕ → ℕ → ℕ → RouteSettings
settings n limit most flag =
    record { filter = replicate n 0x31 ++ replicate (20 - n) 0; octets = n; limit = limit; age = 0; most = most; flag = flag; release = release43 }

abbrev usual : RouteSettings
usual = settings 0 128 0 0

-- an open file: opening, last append, high and low, format, number of records and their octets
abbrev file : ℕ → ℕ → Release → Release → ℕ → ℕ → ℕ → OpenFile
file opened appended high low format count octets =
    record { sequence = 7; opened = opened; appended = appended; high = high; low = low; format = format; count = count; octets = octets }

abbrev route : RouteSettings → Bool → OpenFile → Route
route s there f = record { settings = s; next = 8; losses = 0; unrouted = 0; «open» = there; file = f }

-- a state of two routes, of which the first `count` are configured, with an offset plus 1,439 and a last time
abbrev state : Route → Route → ℕ → ℕ → ℕ → Manager
state a b count bias last =
    record {
      routes = a ∷ b ∷ replicate 6 unused_route;
      count = count;
      address = replicate 16 0;
      bias = bias;
      last = last;
      unrouted = 0;
      set_times = replicate 200 0;
    }

-- the refusal of a TICK that closes nothing, 0 where it is accepted
abbrev refusal : Manager → ℕ
refusal m = (tick_on (words_of m) (replicate 256 0xDD) [] 0).answer.refusal

abbrev Passes : Manager → Type 0
Passes m = (state_right m ≡ true) × (refusal m ≡ 0)

abbrev Fails : Manager → Type 0
Fails m = (state_right m ≡ false) × (refusal m ≡ 18)

-- a state of one route with an open file, last time 20
abbrev holding : RouteSettings → OpenFile → Manager
holding s f = state (route s true f) unused_route 1 1439 20

-- a file with these octets of records, of which there is one
abbrev sized : Release → Release → ℕ → OpenFile
sized high low octets = file 10 15 high low 1 1 octets

-- Header and records are within the size limit of 128.
abbrev pub FileSizes : Type 0
FileSizes =
    -- no filter, release 4: a header of 61 octets, and 67 or 68 of records
    Passes (holding usual (sized release43 release43 67)) × Fails (holding usual (sized release43 release43 68))
    -- a filter of three octets: 64 and 64, or 65
    × Passes (holding (settings 3 128 0 0) (sized release43 release43 64)) × Fails (holding (settings 3 128 0 0) (sized release43 release43 65))
    -- high of release 7: 62 and 66, or 67
    × Passes (holding usual (sized release723 release43 66)) × Fails (holding usual (sized release723 release43 67))
    -- high and low of release 7: 63 and 65, or 66
    × Passes (holding usual (sized release723 release723 65)) × Fails (holding usual (sized release723 release723 66))
    -- a size limit of 129: 61 and 68, or 69
    × Passes (holding (settings 0 129 0 0) (sized release43 release43 68)) × Fails (holding (settings 0 129 0 0) (sized release43 release43 69))

pub file_sizes : FileSizes
unfolding words_of manager_in route_in tick_on settings_right same_filter state_right sets_right file_right tick_of
file_sizes = ((refl, refl), (refl, refl), (refl, refl), (refl, refl), (refl, refl), (refl, refl), (refl, refl), (refl, refl), (refl, refl), (refl, refl))

-- files by their times, by high and low, by their format, by the number of records and their octets
abbrev timed : ℕ → ℕ → OpenFile
timed opened appended = file opened appended release43 release43 1 1 4

abbrev released : Release → Release → OpenFile
released high low = file 10 15 high low 1 1 5

abbrev formatted : ℕ → OpenFile
formatted format = file 10 15 release43 release43 format 1 4

abbrev counted : ℕ → ℕ → OpenFile
counted count octets = file 10 15 release43 release43 1 count octets

-- and an empty file, by its last append, high and low, and octets
abbrev empty : ℕ → Release → Release → ℕ → OpenFile
empty appended high low octets = file 10 appended high low 1 0 octets

-- The other conditions of an open file, in the paper's order: first its times, high and low.
abbrev pub FileOrders : Type 0
FileOrders =
    -- opening ≤ last append
    Passes (holding usual (timed 15 15)) × Fails (holding usual (timed 15 14))
    -- last append ≤ last time, which is 20
    × Passes (holding usual (timed 15 20)) × Fails (holding usual (timed 15 21))
    -- low ≤ high, by release, then extension, then version
    × Passes (holding usual (released (of 5 0 3) (of 4 0 9))) × Fails (holding usual (released (of 4 0 9) (of 5 0 3)))
    × Passes (holding usual (released (of 7 2 3) (of 7 1 9))) × Fails (holding usual (released (of 7 1 9) (of 7 2 3)))
    × Passes (holding usual (released (of 4 0 4) (of 4 0 3))) × Fails (holding usual (released (of 4 0 3) (of 4 0 4)))
    -- equal with flag 1
    × Passes (holding (settings 0 128 0 1) (released (of 4 0 4) (of 4 0 4))) × Fails (holding (settings 0 128 0 1) (released (of 4 0 4) (of 4 0 3)))

pub file_orders : FileOrders
unfolding words_of manager_in route_in tick_on settings_right same_filter state_right sets_right file_right tick_of
file_orders = ((refl, refl), (refl, refl), (refl, refl), (refl, refl), (refl, refl), (refl, refl), (refl, refl), (refl, refl), (refl, refl), (refl, refl), (refl, refl), (refl, refl))

-- Then the ranges of its fields.
abbrev pub FileFields : Type 0
FileFields =
    -- of high: release 7 and 8, version 31 and 32, extension 1 with release 7 and with release 6
    Passes (holding usual (released (of 7 0 3) release43)) × Fails (holding usual (released (of 8 0 3) release43))
    × Passes (holding usual (released (of 4 0 31) release43)) × Fails (holding usual (released (of 4 0 32) release43))
    × Passes (holding usual (released (of 7 1 3) release43)) × Fails (holding usual (released (of 6 1 3) release43))
    -- of low: version 31 and 32, extension 1 with release 7 and with release 6; a release above 7 is above that of high
    × Passes (holding usual (released (of 5 0 0) (of 4 0 31))) × Fails (holding usual (released (of 5 0 0) (of 4 0 32)))
    × Passes (holding usual (released (of 7 1 3) (of 7 1 3))) × Fails (holding usual (released (of 7 1 3) (of 6 1 3)))
    -- format 7 and 8
    × Passes (holding usual (formatted 7)) × Fails (holding usual (formatted 8))

pub file_fields : FileFields
unfolding words_of manager_in route_in tick_on settings_right same_filter state_right sets_right file_right tick_of
file_fields = ((refl, refl), (refl, refl), (refl, refl), (refl, refl), (refl, refl), (refl, refl), (refl, refl), (refl, refl), (refl, refl), (refl, refl), (refl, refl), (refl, refl))

-- Then its count.
abbrev pub FileCounts : Type 0
FileCounts =
    -- 4 times the count ≤ record octets
    Passes (holding usual (counted 16 64)) × Fails (holding usual (counted 16 63))
    -- no octets exactly when the count is 0; a count of 1 without octets fails by 4 times the count too
    × Passes (holding usual (empty 10 release43 release43 0)) × Fails (holding usual (empty 10 release43 release43 1)) × Fails (holding usual (counted 1 0))
    -- then last append is the opening, and high and low are the configured ones
    × Fails (holding usual (empty 11 release43 release43 0))
    × Fails (holding usual (empty 10 (of 4 0 4) release43 0))
    × Fails (holding usual (empty 10 release43 (of 4 0 2) 0))
    -- the count is below a limit above 0
    × Passes (holding (settings 0 128 3 0) (counted 2 8)) × Fails (holding (settings 0 128 3 0) (counted 3 12)) × Passes (holding usual (counted 3 12))
    -- the file fields of a closed route are not judged
    × Passes (state (route usual false (timed 15 14)) unused_route 1 1439 20)

pub file_counts : FileCounts
unfolding words_of manager_in route_in tick_on settings_right same_filter state_right sets_right file_right tick_of
file_counts = ((refl, refl), (refl, refl), (refl, refl), (refl, refl), (refl, refl), (refl, refl), (refl, refl), (refl, refl), (refl, refl), (refl, refl), (refl, refl), (refl, refl))

-- a closed route with these settings
abbrev closed : RouteSettings → Route
closed s = route s false no_file

-- The node's bounds, and the settings' of every configured route.
abbrev pub NodeBounds : Type 0
NodeBounds =
    -- routes: none and one; a second that is not configured is not judged
    Fails (state (closed usual) (closed usual) 0 1439 0) × Passes (state (closed usual) (closed usual) 1 1439 0)
    -- the offset plus 1,439: 2,878 and 2,879
    × Passes (state (closed usual) unused_route 1 2878 0) × Fails (state (closed usual) unused_route 1 2879 0)
    -- the last time: 52,595,999 and one more
    × Passes (state (closed usual) unused_route 1 1439 52595999) × Fails (state (closed usual) unused_route 1 1439 52596000)
    -- settings as in refusal 2, of the first route and of the second
    × Fails (state (closed (settings 0 127 0 0)) unused_route 1 1439 0)
    × Passes (state (closed usual) (closed (settings 1 128 0 0)) 2 1439 0) × Fails (state (closed usual) (closed (settings 1 127 0 0)) 2 1439 0)
    -- and as in refusal 3: two equal filters
    × Fails (state (closed usual) (closed usual) 2 1439 0)

pub node_bounds : NodeBounds
unfolding words_of manager_in route_in tick_on settings_right same_filter state_right sets_right file_right tick_of
node_bounds = ((refl, refl), (refl, refl), (refl, refl), (refl, refl), (refl, refl), (refl, refl), (refl, refl), (refl, refl), (refl, refl), (refl, refl))
