-- What a change of the state keeps (document 01, Refusals 18; The events): a state stays within its bounds when only its time
-- grows, and when a route is replaced by a right one with the same settings; regions and routing go by the settings alone.
-- Assumes nothing.
use Rattle.std.specs.Prelude.{◌≡◌, refl, true, not, List, ℕ, zero, suc, ◌+◌, ◌≤◌, ◌<◌, length}
use Rattle.std.proofs.Common.{ap, ◌∙◌, arith, get_or-set_same, get_or-set_other}
use Rattle.refusals.specs.Below.{below_same}
use Rattle.std.proofs.Math.Decide.{ℕ_discrete}
use Rattle.state.specs.declared.RouteSettings.{RouteSettings}
use Rattle.state.specs.declared.OpenFile.{OpenFile}
use Rattle.state.specs.declared.Route.{Route}
use Rattle.state.specs.Manager.{Manager}
use Rattle.state.specs.Manager.{no_route, route_at, settings_at, base, with_route, with_time}
use Rattle.state.specs.SetTimes.{sets_right}
use Rattle.state.specs.Routing.{better, among}
use Rattle.state.specs.Bounds.{same_filter, other_at, new_at, distinct, file_right, route_right, state_right}
use Rattle.state.specs.Within.{FileWithin, file_within, within_file, RouteWithin, route_within, Within, within, right_within}

-- Two states whose routes have the same settings.
module _ (m m' : Manager) (same : (j : ℕ) → settings_at m' j ≡ settings_at m j) where
  -- their regions start at the same places
  pub base_kept : (n : ℕ) → base m' n ≡ base m n
  base_kept zero = refl
  base_kept (suc n) = λ i. base_kept n i + (same n i).limit

  -- they route alike
  pub among_kept : (key : List ℕ) (n : ℕ) → among m' key n ≡ among m key n
  among_kept key zero = refl
  among_kept key (suc n) = λ i. better (among_kept key n i) n (same n i) key

  -- and their filters differ alike
  new_kept : (n : ℕ) → new_at m' n ≡ new_at m n
  new_kept n = below_same (other_at m' (settings_at m' n)) (other_at m (settings_at m n)) n (λ i h. λ j. not (same_filter (same i j) (same n j)))

  pub distinct_kept : (n : ℕ) → distinct m' n ≡ distinct m n
  distinct_kept n = below_same (new_at m') (new_at m) n (λ i h. new_kept i)

  -- a state whose routes are right stays within its bounds with the other's number of routes, offset and settings
  pub within_kept : Within m → m'.count ≡ m.count → m'.bias ≡ m.bias → m'.set_times ≡ m.set_times → m'.last ≤ 52595999
      → ((i : ℕ) → i < m.count → RouteWithin m'.last (route_at m' i)) → Within m'
  within_kept w count bias sets last routes =
      record {
        some = omega (arith, w.some);
        few = omega (arith, w.few);
        bias = omega (arith, w.bias);
        last = last;
        routes = λ i h. routes i (omega arith);
        differ = distinct_kept m'.count ∙ ap (distinct m) count ∙ w.differ;
        sets = (λ i. sets_right (sets i) (count i)) ∙ w.sets;
      }

-- a file stays right at a later time
pub file_later : {last last' : ℕ} {s : RouteSettings} {f : OpenFile} → FileWithin last s f → last ≤ last' → FileWithin last' s f
file_later w h =
    record {
      opened = w.opened;
      appended = omega (arith, w.appended);
      ordered = w.ordered;
      single = w.single;
      high = w.high;
      low = w.low;
      format = w.format;
      size = w.size;
      records = w.records;
      empty_octets = w.empty_octets;
      empty_appended = w.empty_appended;
      empty_high = w.empty_high;
      empty_low = w.empty_low;
      most = w.most;
    }

pub file_right_later : (last last' : ℕ) (s : RouteSettings) (f : OpenFile) → file_right last s f ≡ true → last ≤ last' → file_right last' s f ≡ true
file_right_later last last' s f e h = within_file last' s f (file_later (file_within last s f e) h)

pub route_later : {last last' : ℕ} {r : Route} → RouteWithin last r → last ≤ last' → RouteWithin last' r
route_later w h = record { settings = w.settings; file = λ p. file_later (w.file p) h }

-- a later time
pub time_right : (m : Manager) (t : ℕ) → state_right m ≡ true → m.last ≤ t → t ≤ 52595999 → state_right (with_time m t) ≡ true
time_right m t e h most =
    let w = within m e in
    right_within (with_time m t) (within_kept m (with_time m t) (λ j. refl) w refl refl refl most (λ i l. route_later (w.routes i l) h))

-- a route replaced by one with the same settings
module _ (m : Manager) (i : ℕ) (r : Route) (there : i < length m.routes) where
  pub route_set : route_at (with_route m i r) i ≡ r
  route_set = get_or-set_same m.routes i r no_route there

  pub route_unset : (j : ℕ) → (j ≡ i → ⊥) → route_at (with_route m i r) j ≡ route_at m j
  route_unset j h = get_or-set_other m.routes i j r no_route h

  module _ (kept : r.settings ≡ settings_at m i) where
    pub settings_kept : (j : ℕ) → settings_at (with_route m i r) j ≡ settings_at m j
    settings_kept j = go (ℕ_discrete j i)
      where
        go : Dec (j ≡ i) → settings_at (with_route m i r) j ≡ settings_at m j
        go (yes p) = rw p (ap (λ (q : Route). q.settings) route_set ∙ kept)
        go (no p) = ap (λ (q : Route). q.settings) (route_unset j p)

    pub route_right_lem : state_right m ≡ true → route_right m.last r ≡ true → state_right (with_route m i r) ≡ true
    route_right_lem e right =
        let w = within m e in
        right_within (with_route m i r) (within_kept m (with_route m i r) settings_kept w refl refl refl w.last (λ j l. go w j l (ℕ_discrete j i)))
      where
        go : Within m → (j : ℕ) → j < m.count → Dec (j ≡ i) → RouteWithin m.last (route_at (with_route m i r) j)
        go w j l (yes p) = rw (p, route_set) (route_within m.last r right)
        go w j l (no p) = rw (route_unset j p) (w.routes j l)
