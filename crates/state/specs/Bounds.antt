-- Refusal 18 (document 01, Refusals; document 02, ask 6): which states are within their bounds. Routes beyond the configured number, a
-- closed route's file fields, the set minutes beyond a route's number of them and the store's content are not judged. It is loose on
-- purpose: every call is total on what passes, and equals its definition there, reachable or not. Assumes nothing.
use Rattle.std.specs.Prelude.{Bool, not, ◌&&◌, ◌||◌, List, [], ◌∷◌, ℕ, ◌+◌, ◌*◌, ltb, leb, eqb, get_or}
use Rattle.octets.specs.Alike.{alike}
use Rattle.refusals.specs.Tests.{all_of}
use Rattle.refusals.specs.Below.{all_below}
use Rattle.record.specs.declared.Release.{Release}
use Rattle.record.specs.Release.{narrow_release, rank}
use Rattle.state.specs.declared.RouteSettings.{RouteSettings}
use Rattle.state.specs.declared.OpenFile.{OpenFile}
use Rattle.state.specs.declared.Route.{Route}
use Rattle.state.specs.Manager.{Manager}
use Rattle.state.specs.Manager.{route_at, settings_at}
use Rattle.state.specs.SetTimes.{sets_right}
use Rattle.state.specs.Size.{header_size}

-- the octets of the filter from n on, up to its k-th, are 0
abbrev pub zero_at : List ℕ → ℕ → ℕ → Bool
zero_at filter n j = ltb j n || eqb (get_or filter j 0) 0

abbrev pub zero_from : List ℕ → ℕ → ℕ → Bool
zero_from filter n k = all_below (zero_at filter n) k

-- a route's settings in range: refusal 2 of settings
abbrev pub settings_tests : RouteSettings → List Bool
settings_tests s =
    leb s.octets 20
    ∷ zero_from s.filter s.octets 20
    ∷ leb 128 s.limit
    ∷ leb s.limit 1048576
    ∷ leb s.flag 1
    ∷ narrow_release s.release
    ∷ []

unfoldable pub settings_right : RouteSettings → Bool
settings_right s = all_of (settings_tests s)

-- the same filter: as long, and the same octets
unfoldable pub same_filter : RouteSettings → RouteSettings → Bool
same_filter a b = eqb a.octets b.octets && alike a.filter b.filter 20

-- no route below n has the filter of s
abbrev pub other_at : Manager → RouteSettings → ℕ → Bool
other_at m s i = not (same_filter (settings_at m i) s)

abbrev pub new_to : Manager → RouteSettings → ℕ → Bool
new_to m s n = all_below (other_at m s) n

-- no two of the routes below n have equal filters: refusal 3 of settings
abbrev pub new_at : Manager → ℕ → Bool
new_at m i = new_to m (settings_at m i) i

abbrev pub distinct : Manager → ℕ → Bool
distinct m n = all_below (new_at m) n

abbrev pub same_release : Release → Release → Bool
same_release a b = eqb (rank a) (rank b)

-- an open file: opening ≤ last append ≤ last time; low ≤ high, equal with flag 1; fields in range; header and records within
-- the size limit; 4 times the count ≤ record octets; none exactly when the count is 0, and then last append is the opening and
-- high and low are the configured ones; count below a limit above 0
abbrev pub file_tests : ℕ → RouteSettings → OpenFile → List Bool
file_tests last s f =
    leb f.opened f.appended
    ∷ leb f.appended last
    ∷ leb (rank f.low) (rank f.high)
    ∷ (eqb s.flag 0 || same_release f.low f.high)
    ∷ narrow_release f.high
    ∷ narrow_release f.low
    ∷ leb f.format 7
    ∷ leb (header_size s.octets f.high f.low + f.octets) s.limit
    ∷ leb (4 * f.count) f.octets
    ∷ (not (eqb f.count 0) || eqb f.octets 0)
    ∷ (not (eqb f.count 0) || eqb f.appended f.opened)
    ∷ (not (eqb f.count 0) || same_release f.high s.release)
    ∷ (not (eqb f.count 0) || same_release f.low s.release)
    ∷ (eqb s.most 0 || ltb f.count s.most)
    ∷ []

unfoldable pub file_right : ℕ → RouteSettings → OpenFile → Bool
file_right last s f = all_of (file_tests last s f)

abbrev pub route_right : ℕ → Route → Bool
route_right last r = settings_right r.settings && (not r.«open» || file_right last r.settings r.file)

-- the routes below n
abbrev pub right_at : Manager → ℕ → Bool
right_at m i = route_right m.last (route_at m i)

abbrev pub routes_right : Manager → ℕ → Bool
routes_right m n = all_below (right_at m) n

unfoldable pub state_right : Manager → Bool
state_right m =
    leb 1 m.count
    && leb m.count 8
    && leb m.bias 2878
    && leb m.last 52595999
    && routes_right m m.count
    && distinct m m.count
    && sets_right m.set_times m.count
