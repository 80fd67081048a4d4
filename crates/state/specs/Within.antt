-- What it says that a state is within its bounds (document 01, Refusals 18), as facts with names, both ways: each test of
-- `Bounds` that holds gives its fact, and the facts make the tests hold. Assumes nothing.
use Rattle.std.specs.Prelude.{◌≡◌, Bool, true, not, ◌&&◌, ◌||◌, ℕ, ◌+◌, ◌*◌, ◌≤◌, ◌<◌, leb, ltb, eqb}
use borrow.Author.Tests.{leb-true, ltb-true, eqb-true, eqb-false, le-leb, lt-ltb, eq-eqb, ne_eqb}
use Rattle.refusals.specs.Tests.{both, each}
use Rattle.refusals.specs.Below.{below_each, below_all}
use Rattle.record.specs.Release.{narrow_release, rank}
use Rattle.state.specs.declared.RouteSettings.{RouteSettings}
use Rattle.state.specs.declared.OpenFile.{OpenFile}
use Rattle.state.specs.declared.Route.{Route}
use Rattle.state.specs.Manager.{Manager}
use Rattle.state.specs.Manager.{route_at}
use Rattle.state.specs.SetTimes.{sets_right}
use Rattle.state.specs.Size.{header_size}
use Rattle.state.specs.Routing.{Routable}
use Rattle.state.specs.Bounds.{zero_from, settings_tests, settings_right, distinct, same_release, file_tests, file_right, route_right, right_at, routes_right, state_right}
use Rattle.state.specs.Holding.{none, ◌also◌, and_holds, all_hold, or_holds, or_second, if_holds, if_then}

-- a route's settings in range
pub record SettingsWithin (s : RouteSettings) : Type 0 where
  pub octets : s.octets ≤ 20
  pub unused : zero_from s.filter s.octets 20 ≡ true
  pub limit_least : 128 ≤ s.limit
  pub limit_most : s.limit ≤ 1048576
  pub flag : s.flag ≤ 1
  pub release : narrow_release s.release ≡ true

pub settings_within : (s : RouteSettings) → settings_right s ≡ true → SettingsWithin s
unfolding settings_right
settings_within s e =
    let t = each (settings_tests s) e in
    record { octets = leb-true _ _ (t 0); unused = t 1; limit_least = leb-true _ _ (t 2); limit_most = leb-true _ _ (t 3); flag = leb-true _ _ (t 4); release = t 5 }

pub within_settings : (s : RouteSettings) → SettingsWithin s → settings_right s ≡ true
unfolding settings_right
within_settings s w =
    all_hold (settings_tests s)
    (le-leb _ _ w.octets also w.unused also le-leb _ _ w.limit_least also le-leb _ _ w.limit_most also le-leb _ _ w.flag also w.release also none)

-- an open file of a route with settings s at a last time. The flag is 0 or 1, so "not 0" is 1; that a file with records has
-- record octets follows from `records`
pub record FileWithin (last : ℕ) (s : RouteSettings) (f : OpenFile) : Type 0 where
  pub opened : f.opened ≤ f.appended
  pub appended : f.appended ≤ last
  pub ordered : rank f.low ≤ rank f.high
  pub single : (s.flag ≡ 0 → ⊥) → rank f.low ≡ rank f.high
  pub high : narrow_release f.high ≡ true
  pub low : narrow_release f.low ≡ true
  pub format : f.format ≤ 7
  pub size : header_size s.octets f.high f.low + f.octets ≤ s.limit
  pub records : 4 * f.count ≤ f.octets
  pub empty_octets : f.count ≡ 0 → f.octets ≡ 0
  pub empty_appended : f.count ≡ 0 → f.appended ≡ f.opened
  pub empty_high : f.count ≡ 0 → rank f.high ≡ rank s.release
  pub empty_low : f.count ≡ 0 → rank f.low ≡ rank s.release
  pub most : (s.most ≡ 0 → ⊥) → f.count < s.most

-- a test that is only made of an empty file
if_empty : (count : ℕ) (b : Bool) → (not (eqb count 0) || b) ≡ true → count ≡ 0 → b ≡ true
if_empty count b e z = if_then (eqb count 0) b e (eq-eqb _ _ z)

of_empty : (count : ℕ) (b : Bool) → (count ≡ 0 → b ≡ true) → (not (eqb count 0) || b) ≡ true
of_empty count b h = if_holds (eqb count 0) b (λ e. h (eqb-true _ _ e))

-- a test that is made unless a number is 0
unless_zero : (n : ℕ) (b : Bool) → (eqb n 0 || b) ≡ true → (n ≡ 0 → ⊥) → b ≡ true
unless_zero n b e h = or_second (eqb n 0) b e (ne_eqb _ _ h)

of_unless : (n : ℕ) (b : Bool) → ((n ≡ 0 → ⊥) → b ≡ true) → (eqb n 0 || b) ≡ true
of_unless n b h = or_holds (eqb n 0) b (λ e. h (eqb-false _ _ e))

module _ (last : ℕ) (s : RouteSettings) (f : OpenFile) where
  pub file_within : file_right last s f ≡ true → FileWithin last s f
  unfolding file_right
  file_within e =
      let t = each (file_tests last s f) e in
      record {
        opened = leb-true _ _ (t 0);
        appended = leb-true _ _ (t 1);
        ordered = leb-true _ _ (t 2);
        single = λ h. eqb-true _ _ (unless_zero s.flag (same_release f.low f.high) (t 3) h);
        high = t 4;
        low = t 5;
        format = leb-true _ _ (t 6);
        size = leb-true _ _ (t 7);
        records = leb-true _ _ (t 8);
        empty_octets = λ z. eqb-true _ _ (if_empty f.count (eqb f.octets 0) (t 9) z);
        empty_appended = λ z. eqb-true _ _ (if_empty f.count (eqb f.appended f.opened) (t 10) z);
        empty_high = λ z. eqb-true _ _ (if_empty f.count (same_release f.high s.release) (t 11) z);
        empty_low = λ z. eqb-true _ _ (if_empty f.count (same_release f.low s.release) (t 12) z);
        most = λ h. ltb-true _ _ (unless_zero s.most (ltb f.count s.most) (t 13) h);
      }

  pub within_file : FileWithin last s f → file_right last s f ≡ true
  unfolding file_right
  within_file w =
      all_hold (file_tests last s f)
      (le-leb _ _ w.opened
      also le-leb _ _ w.appended
      also le-leb _ _ w.ordered
      also of_unless s.flag (same_release f.low f.high) (λ h. eq-eqb _ _ (w.single h))
      also w.high
      also w.low
      also le-leb _ _ w.format
      also le-leb _ _ w.size
      also le-leb _ _ w.records
      also of_empty f.count (eqb f.octets 0) (λ z. eq-eqb _ _ (w.empty_octets z))
      also of_empty f.count (eqb f.appended f.opened) (λ z. eq-eqb _ _ (w.empty_appended z))
      also of_empty f.count (same_release f.high s.release) (λ z. eq-eqb _ _ (w.empty_high z))
      also of_empty f.count (same_release f.low s.release) (λ z. eq-eqb _ _ (w.empty_low z))
      also of_unless s.most (ltb f.count s.most) (λ h. lt-ltb _ _ (w.most h))
      also none)

-- a route: its settings, and its file if one is open
pub record RouteWithin (last : ℕ) (r : Route) : Type 0 where
  pub settings : SettingsWithin r.settings
  pub file : r.«open» ≡ true → FileWithin last r.settings r.file

module _ (last : ℕ) (r : Route) where
  pub route_within : route_right last r ≡ true → RouteWithin last r
  route_within e =
      let t = both (settings_right r.settings) (not r.«open» || file_right last r.settings r.file) e in
      record {
        settings = settings_within r.settings t.0;
        file = λ p. file_within last r.settings r.file (if_then r.«open» (file_right last r.settings r.file) t.1 p);
      }

  pub within_route : RouteWithin last r → route_right last r ≡ true
  within_route w =
      and_holds (within_settings r.settings w.settings)
      (if_holds r.«open» (file_right last r.settings r.file) (λ p. within_file last r.settings r.file (w.file p)))

-- each of the routes below n, both ways
module _ (m : Manager) where
  routes_within : (n : ℕ) → routes_right m n ≡ true → (i : ℕ) → i < n → RouteWithin m.last (route_at m i)
  routes_within n e i h = route_within m.last (route_at m i) (below_each (right_at m) n e i h)

  within_routes : (n : ℕ) → ((i : ℕ) → i < n → RouteWithin m.last (route_at m i)) → routes_right m n ≡ true
  within_routes n h = below_all (right_at m) n (λ i l. within_route m.last (route_at m i) (h i l))

-- a state within its bounds
pub record Within (m : Manager) : Type 0 where
  pub some : 1 ≤ m.count
  pub few : m.count ≤ 8
  pub bias : m.bias ≤ 2878
  pub last : m.last ≤ 52595999
  pub routes : (i : ℕ) → i < m.count → RouteWithin m.last (route_at m i)
  pub differ : distinct m m.count ≡ true
  pub sets : sets_right m.set_times m.count ≡ true

pub within : (m : Manager) → state_right m ≡ true → Within m
unfolding state_right
within m e =
    let s = both (leb 1 m.count && leb m.count 8 && leb m.bias 2878 && leb m.last 52595999 && routes_right m m.count && distinct m m.count) (sets_right m.set_times m.count) e in
    let d = both (leb 1 m.count && leb m.count 8 && leb m.bias 2878 && leb m.last 52595999 && routes_right m m.count) (distinct m m.count) s.0 in
    let r = both (leb 1 m.count && leb m.count 8 && leb m.bias 2878 && leb m.last 52595999) (routes_right m m.count) d.0 in
    let l = both (leb 1 m.count && leb m.count 8 && leb m.bias 2878) (leb m.last 52595999) r.0 in
    let b = both (leb 1 m.count && leb m.count 8) (leb m.bias 2878) l.0 in
    let c = both (leb 1 m.count) (leb m.count 8) b.0 in
    record {
      some = leb-true _ _ c.0;
      few = leb-true _ _ c.1;
      bias = leb-true _ _ b.1;
      last = leb-true _ _ l.1;
      routes = routes_within m m.count r.1;
      differ = d.1;
      sets = s.1;
    }

pub right_within : (m : Manager) → Within m → state_right m ≡ true
unfolding state_right
right_within m w =
    and_holds
    (and_holds
    (and_holds
    (and_holds (and_holds (and_holds (le-leb _ _ w.some) (le-leb _ _ w.few)) (le-leb _ _ w.bias)) (le-leb _ _ w.last))
    (within_routes m m.count w.routes))
    w.differ)
    w.sets

-- such a state's filters can be compared
pub routable : {m : Manager} → Within m → Routable m
routable w = record { few = w.few; short = λ i h. (w.routes i h).settings.octets }
