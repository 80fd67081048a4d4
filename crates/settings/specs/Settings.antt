-- Settings (document 01, Settings and Refusals; document 02, ask 6): octets of any content and length give refusal 1, 2, 3 or 22, the
-- whole tested for 1, then 2, then 3, then 22, or a fresh manager: nothing open, counters and last time 0, each route's next number its
-- first. A node takes 19 octets (kind 1, address 16, offset plus 1,439 in 2), a route 41 (kind 2, then filter length 1, filter 20, size
-- limit 4, open-time limit 4, most records 4, flag 1, release and version 1, extension 1, first sequence number 4), a set time 4 (kind 3,
-- then route number 1, local minute of day 2). The octets are one node, 1 to 8 routes and any number of set times, each kind in its place:
-- any other kind, a cut, another order or count is 1. Octets that are not there count as 0. Assumes nothing.
use Rattle.std.specs.Prelude.{Bool, false, cond, not, ◌&&◌, ◌||◌, List, [], ◌∷◌, ◌++◌, ℕ, zero, suc, ◌+◌, ◌*◌, ◌-◌, ◌/◌, ◌%◌, ltb, leb, eqb, length, get_or, set, replicate}
use Rattle.octets.specs.Number.{num, octets_at}
use Rattle.refusals.specs.Refusal.{◌when◌, first}
use Rattle.refusals.specs.Below.{all_below, leading, list_from}
use Rattle.state.specs.declared.RouteSettings.{RouteSettings}
use Rattle.state.specs.declared.Route.{Route}
use Rattle.state.specs.declared.Node.{Node}
use Rattle.state.specs.Manager.{Manager}
use Rattle.state.specs.Manager.{no_release, no_file}
use Rattle.state.specs.Bounds.{settings_right, distinct}
use Rattle.words.specs.Words.{words_of}
use Rattle.settings.specs.declared.Loaded.{Loaded}

-- where a route's octets start
abbrev pub route_start : ℕ → ℕ
route_start i = 19 + 41 * i

-- the kind of route i is 2
abbrev pub kind_at : List ℕ → ℕ → Bool
kind_at xs i = eqb (get_or xs (route_start i) 0) 2

-- how many routes stand one behind another, up to eight
unfoldable pub routes_in : List ℕ → ℕ
routes_in xs = leading (kind_at xs) 8

-- how many set times the octets behind them are, and where a set time's octets start
abbrev pub sets_in : List ℕ → ℕ
sets_in xs = (length xs - route_start (routes_in xs)) / 4

abbrev pub set_start : List ℕ → ℕ → ℕ
set_start xs j = route_start (routes_in xs) + 4 * j

abbrev pub set_kind_at : List ℕ → ℕ → Bool
set_kind_at xs j = eqb (get_or xs (set_start xs j) 0) 3

-- 1: unknown kind, cut, wrong order or count; a ninth route stands where a set time must
unfoldable pub wrong_shape : List ℕ → Bool
wrong_shape xs =
    eqb (routes_in xs) 0
    || not (eqb (length xs) (set_start xs (sets_in xs)))
    || not (eqb (get_or xs 0 0) 1)
    || not (all_below (set_kind_at xs) (sets_in xs))

-- a set time's route and its minute
abbrev pub set_route : List ℕ → ℕ → ℕ
set_route xs j = get_or xs (set_start xs j + 1) 0

abbrev pub set_minute_at : List ℕ → ℕ → ℕ
set_minute_at xs j = num 2 xs (set_start xs j + 2)

-- the set minutes of route i among the first n set times, in order
abbrev pub minutes_of : List ℕ → ℕ → ℕ → List ℕ
minutes_of xs i zero = []
minutes_of xs i (suc n) = cond (eqb (set_route xs n) i) (minutes_of xs i n ++ (set_minute_at xs n ∷ [])) (minutes_of xs i n)

-- set time j is of a higher route than set time k, or of the same and later in the day
abbrev pub set_follows : List ℕ → ℕ → ℕ → Bool
set_follows xs k j = ltb (set_route xs k) (set_route xs j) || (eqb (set_route xs k) (set_route xs j) && ltb (set_minute_at xs k) (set_minute_at xs j))

-- it is right: a minute of a day, of a configured route; it follows the one before it; and it is no 25th of its route
abbrev pub set_time_right : List ℕ → ℕ → Bool
set_time_right xs j =
    leb (set_minute_at xs j) 1439
    && ltb (set_route xs j) (routes_in xs)
    && (eqb j 0 || set_follows xs (j - 1) j)
    && ltb (length (minutes_of xs (set_route xs j) j)) 24

-- 22: a set time that is not
unfoldable pub wrong_sets : List ℕ → Bool
wrong_sets xs = not (all_below (set_time_right xs) (sets_in xs))

-- a route's settings, from its octets at k
abbrev pub settings_from : List ℕ → ℕ → RouteSettings
settings_from xs k =
    record {
      filter = octets_at 20 xs (k + 2);
      octets = get_or xs (k + 1) 0;
      limit = num 4 xs (k + 22);
      age = num 4 xs (k + 26);
      most = num 4 xs (k + 30);
      flag = get_or xs (k + 34) 0;
      release = record { release = get_or xs (k + 35) 0 / 32; extension = get_or xs (k + 36) 0; version = get_or xs (k + 35) 0 % 32 };
    }

-- a fresh route
abbrev pub route_from : List ℕ → ℕ → Route
route_from xs k =
    record { settings = settings_from xs k; next = num 4 xs (k + 37); losses = 0; unrouted = 0; «open» = false; file = no_file }

-- a route that is not configured
abbrev pub unused_route : Route
unused_route =
    record {
      settings = record { filter = replicate 20 0; octets = 0; limit = 0; age = 0; most = 0; flag = 0; release = no_release };
      next = 0;
      losses = 0;
      unrouted = 0;
      «open» = false;
      file = no_file;
    }

-- the eight routes, of which those below n are configured
abbrev pub routes_from : List ℕ → ℕ → List Route
routes_from xs zero = replicate 8 unused_route
routes_from xs (suc n) = set (routes_from xs n) n (route_from xs (route_start n))

-- the node
abbrev pub node_from : List ℕ → Node
node_from xs = record { address = octets_at 16 xs 1; bias = num 2 xs 17 }

-- the state's numbers from the first n set times: how many each route has, then 24 for each, its minutes and zeros behind them
abbrev pub set_number_at : List ℕ → ℕ → ℕ → ℕ
set_number_at xs n q = cond (ltb q 8) (length (minutes_of xs q n)) (get_or (minutes_of xs ((q - 8) / 24) n) ((q - 8) % 24) 0)

unfoldable pub set_times_from : List ℕ → ℕ → List ℕ
set_times_from xs n = list_from (set_number_at xs n) 0 200

-- the fresh manager of n routes, with the first k set times
abbrev pub manager_with : List ℕ → ℕ → ℕ → Manager
manager_with xs n k =
    record { routes = routes_from xs n; count = n; address = (node_from xs).address; bias = (node_from xs).bias; last = 0; unrouted = 0; set_times = set_times_from xs k }

abbrev pub manager_from : List ℕ → ℕ → Manager
manager_from xs n = manager_with xs n (sets_in xs)

-- the settings of the routes below n are in range
abbrev pub in_range_at : List ℕ → ℕ → Bool
in_range_at xs i = settings_right (settings_from xs (route_start i))

abbrev pub in_range : List ℕ → ℕ → Bool
in_range xs n = all_below (in_range_at xs) n

-- 2: a value beyond its range
unfoldable pub beyond_range : List ℕ → Bool
beyond_range xs = ltb 2878 (num 2 xs 17) || not (in_range xs (routes_in xs))

-- 3: two equal filters
unfoldable pub equal_filters : List ℕ → Bool
equal_filters xs = not (distinct (manager_from xs (routes_in xs)) (routes_in xs))

-- the one fixed state of a refusal: no route is configured, so every event answers 18
abbrev pub no_manager : Manager
no_manager = record { routes = replicate 8 unused_route; count = 0; address = replicate 16 0; bias = 0; last = 0; unrouted = 0; set_times = replicate 200 0 }

-- a refusal, or 0, and the state that goes with it
pub record Fresh : Type 0 where
  pub refusal : ℕ
  pub manager : Manager

abbrev pub settled : ℕ → List ℕ → Fresh
settled zero xs = record { refusal = 0; manager = manager_from xs (routes_in xs) }
settled (suc n) xs = record { refusal = suc n; manager = no_manager }

unfoldable pub verdict : List ℕ → ℕ
verdict xs = first ((1 when wrong_shape xs) ∷ (2 when beyond_range xs) ∷ (3 when equal_filters xs) ∷ (22 when wrong_sets xs) ∷ [])

unfoldable pub fresh_of : List ℕ → Fresh
fresh_of xs = settled (verdict xs) xs

-- the same as words, as the call answers it
abbrev pub worded : Fresh → Loaded
worded f = record { refusal = f.refusal; words = words_of f.manager }

abbrev pub loaded_of : List ℕ → Loaded
loaded_of xs = worded (fresh_of xs)
