-- Routes and lines by index, the regions of the store, and the relation of `Agrees` as a whole (document 01, The events; The
-- ledger of demand 3): regions do not overlap, so what is written to one route's region leaves the others' files; a change of one
-- route and its line keeps the relation; and the bounds of a state that agrees, as facts. Assumes nothing.
use Rattle.std.specs.Prelude.{◌≡◌, refl, true, List, [], ◌∷◌, ℕ, zero, suc, ◌+◌, ◌≤◌, ◌<◌, length, get_or, set, take, drop}
use Rattle.std.proofs.Common.{sym, ap, ◌∙◌, subst, arith, length-set, get_or-set_same, get_or-set_other, take-add, take_all, drop_at, length-take-le}
use Rattle.std.proofs.Math.Decide.{ℕ_discrete, dec_lt}
use Rattle.std.proofs.Math.ListN.{get_or-map}
use Rattle.std.proofs.Math.Seq.{map-set_same}
use Rattle.octets.specs.Splice.{splice, splice_length, splice_take, splice_drop}
use Rattle.state.specs.declared.RouteSettings.{RouteSettings}
use Rattle.state.specs.declared.Route.{Route}
use Rattle.state.specs.Manager.{Manager}
use Rattle.state.specs.Manager.{no_route, route_at, settings_at, base, regions, with_route, with_time}
use Rattle.state.specs.Bounds.{settings_right, file_right, route_right, state_right}
use Rattle.state.specs.Within.{SettingsWithin, within_settings, FileWithin, within_file, within_route, within}
pub use Rattle.state.specs.Regions.{region_within}
use Rattle.state.specs.Regions.{regions_all}
use Rattle.ledger.specs.Ledger.{Current, none, some, Line, Ledger, no_line, line_at, with_line, with_time as with_book_time, regions as line_regions}
use Rattle.ledger.proofs.Agrees.{AgreesFile, AgreesLine, Agrees}

-- Routes and lines by index.
module _ (m : Manager) (i : ℕ) (r : Route) where
  pub route_same : length m.routes ≡ 8 → i < 8 → route_at (with_route m i r) i ≡ r
  route_same eight h = get_or-set_same m.routes i r no_route (omega arith)

  pub route_other : (j : ℕ) → (i ≡ j → ⊥) → route_at (with_route m i r) j ≡ route_at m j
  route_other j h = get_or-set_other m.routes i j r no_route (λ e. h (sym e))

  -- a route with the settings of the one that it replaces: the settings and so the regions stay, also where there is no such route
  module _ (same : r.settings ≡ settings_at m i) where
    pub settings_with : (j : ℕ) → settings_at (with_route m i r) j ≡ settings_at m j
    settings_with j =
        sym (get_or-map (λ (q : Route). q.settings) (set m.routes i r) j no_route)
        ∙ ap (λ (l : List RouteSettings). get_or l j no_route.settings) (map-set_same (λ (q : Route). q.settings) m.routes i r no_route same)
        ∙ get_or-map (λ (q : Route). q.settings) m.routes j no_route

    pub base_with : (n : ℕ) → base (with_route m i r) n ≡ base m n
    base_with zero = refl
    base_with (suc n) = λ k. base_with n k + (settings_with n k).limit

-- a time changes no region
pub base_time : (m : Manager) (t n : ℕ) → base (with_time m t) n ≡ base m n
base_time m t zero = refl
base_time m t (suc n) = ap (λ (x : ℕ). x + (settings_at m n).limit) (base_time m t n)

module _ (l : Ledger) (i : ℕ) (x : Line) where
  pub line_same : i < length l.lines → line_at (with_line l i x) i ≡ x
  line_same h = get_or-set_same l.lines i x no_line h

  pub line_other : (j : ℕ) → (i ≡ j → ⊥) → line_at (with_line l i x) j ≡ line_at l j
  line_other j h = get_or-set_other l.lines i j x no_line (λ e. h (sym e))

-- Two regions do not overlap.
pub apart : (m : Manager) (i j : ℕ) → i < j → base m i + (settings_at m i).limit ≤ base m j
apart m i j h = region_within m i j h

-- a part of a list is the end of one of its beginnings
part_of : (a o : ℕ) (xs : List ℕ) → a ≤ length xs → drop a (take (a + o) xs) ≡ take o (drop a xs)
part_of a o xs h = ap (drop a) (take-add a o xs) ∙ drop_at (take a xs) (take o (drop a xs)) a (length-take-le a xs h)

-- what is written within a region leaves what stands in another
module _ (m : Manager) (store : List ℕ) (n i j k : ℕ) (ys : List ℕ) (other : i ≡ j → ⊥) (mine : i < n) (theirs : j < n)
    (fits : k + length ys ≤ (settings_at m i).limit) (room : base m n ≤ length store) where
  pub stands_elsewhere : (o : ℕ) → o ≤ (settings_at m j).limit
      → take o (drop (base m j) (splice store (base m i + k) ys)) ≡ take o (drop (base m j) store)
  stands_elsewhere o h = go (dec_lt i j)
    where
      whole : base m i + k + length ys ≤ length store
      whole = omega (arith, region_within m i n mine)

      go : Dec (i < j) → take o (drop (base m j) (splice store (base m i + k) ys)) ≡ take o (drop (base m j) store)
      go (yes b) =
          ap (take o) (splice_drop store (base m i + k) ys (omega (arith, whole)) (base m j) (omega (arith, apart m i j b)))
      go (no b) =
          let before : j < i = omega arith in
          let a = apart m j i before in
          let w = whole in
          let e = splice_length store (base m i + k) ys w in
          sym (part_of (base m j) o (splice store (base m i + k) ys) (omega arith))
          ∙ ap (drop (base m j)) (splice_take store (base m i + k) ys (omega arith) (base m j + o) (omega arith))
          ∙ part_of (base m j) o store (omega arith)

-- a line agrees where the part of the store that its open file takes is the same
module _ (store store' : List ℕ) (start : ℕ) (r : Route) where
  file_moved : (c : Current) → (r.«open» ≡ true → take r.file.octets (drop start store') ≡ take r.file.octets (drop start store))
      → AgreesFile store start r c → AgreesFile store' start r c
  file_moved none e a = a
  file_moved (some f) e a =
      record {
        live = a.live;
        sequence = a.sequence;
        opened = a.opened;
        appended = a.appended;
        high = a.high;
        low = a.low;
        count = a.count;
        octets = a.octets;
        formats = a.formats;
        stands = e a.live ∙ a.stands;
        right = a.right;
        held = a.held;
      }

  pub line_moved : {x : Line} → AgreesLine store start r x
      → (r.«open» ≡ true → take r.file.octets (drop start store') ≡ take r.file.octets (drop start store))
      → AgreesLine store' start r x
  line_moved {x} a e =
      record {
        settings = a.settings;
        next = a.next;
        losses = a.losses;
        unrouted = a.unrouted;
        file = file_moved x.current e a.file;
        held = a.held;
        held_next = a.held_next;
      }

module _ (m : Manager) (store : List ℕ) (n i j k : ℕ) (ys : List ℕ) (other : i ≡ j → ⊥) (mine : i < n) (theirs : j < n)
    (fits : k + length ys ≤ (settings_at m i).limit) (room : base m n ≤ length store) where
  pub line_elsewhere : {x : Line} → AgreesLine store (base m j) (route_at m j) x
      → ((route_at m j).«open» ≡ true → (route_at m j).file.octets ≤ (settings_at m j).limit)
      → AgreesLine (splice store (base m i + k) ys) (base m j) (route_at m j) x
  line_elsewhere a h =
      line_moved store (splice store (base m i + k) ys) (base m j) (route_at m j) a
      (λ p. stands_elsewhere m store n i j k ys other mine theirs fits room (route_at m j).file.octets (h p))

-- The bounds of a state that agrees with a ledger, as facts.
module _ {store : List ℕ} {m : Manager} {l : Ledger} (a : Agrees store m l) where
  pub some_routes : 1 ≤ m.count
  some_routes = (within m a.right).some

  pub few : m.count ≤ 8
  few = (within m a.right).few

  pub bias_right : m.bias ≤ 2878
  bias_right = (within m a.right).bias

  pub last_right : m.last ≤ 52595999
  last_right = (within m a.right).last

  module _ (i : ℕ) (h : i < m.count) where
    pub route_right_lem : route_right m.last (route_at m i) ≡ true
    route_right_lem = within_route m.last (route_at m i) ((within m a.right).routes i h)

    pub settings_bounds : SettingsWithin (settings_at m i)
    settings_bounds = ((within m a.right).routes i h).settings

    pub settings_right_lem : settings_right (settings_at m i) ≡ true
    settings_right_lem = within_settings (settings_at m i) settings_bounds

    pub file_bounds : (route_at m i).«open» ≡ true → FileWithin m.last (settings_at m i) (route_at m i).file
    file_bounds = ((within m a.right).routes i h).file

    pub file_right_lem : (route_at m i).«open» ≡ true → file_right m.last (settings_at m i) (route_at m i).file ≡ true
    file_right_lem p = within_file m.last (settings_at m i) (route_at m i).file (file_bounds p)

    -- an open file's records are within its region
    pub octets_right : (route_at m i).«open» ≡ true → (route_at m i).file.octets ≤ (settings_at m i).limit
    octets_right p = omega (arith, (file_bounds p).size)

-- The regions by index are those of the ledger's lines.
regions_one_more : (xs : List Line) (n : ℕ) → n < length xs → line_regions (take (suc n) xs) ≡ line_regions (take n xs) + (get_or xs n no_line).settings.limit
regions_one_more [] n h = absurd (omega arith)
regions_one_more (x ∷ xs) zero h = omega arith
regions_one_more (x ∷ xs) (suc n) h = omega (arith, regions_one_more xs n (omega arith))

module _ {store : List ℕ} {m : Manager} {l : Ledger} (a : Agrees store m l) where
  pub base_lines : (n : ℕ) → n ≤ m.count → base m n ≡ line_regions (take n l.lines)
  base_lines zero h = refl
  base_lines (suc n) h =
      let c = a.count in
      let e : (settings_at m n).limit ≡ (line_at l n).settings.limit = ap (λ (s : RouteSettings). s.limit) (a.lines n (omega arith)).settings in
      omega (arith, e, base_lines n (omega arith), regions_one_more l.lines n (omega arith))

  pub regions_count : regions m ≡ base m m.count
  regions_count = regions_all m (few a)

  pub regions_same : regions m ≡ line_regions l.lines
  regions_same =
      let c = a.count in
      regions_count ∙ base_lines m.count (omega arith) ∙ ap line_regions (take_all m.count l.lines (omega arith))

-- The relation after a change of one route and its line, and after one of the time.
line_at_lem : {store : List ℕ} {b b' : ℕ} {r r' : Route} {x x' : Line} → b ≡ b' → r ≡ r' → x ≡ x' → AgreesLine store b' r' x' → AgreesLine store b r x
line_at_lem p q e a = rw (p, q, e) a

module _ {store : List ℕ} {m : Manager} {l : Ledger} (a : Agrees store m l) where
  pub agrees_with : {store' : List ℕ} (i : ℕ) (r : Route) (x : Line) (t : ℕ) → i < m.count → AgreesLine store' (base m i) r x
      → r.settings ≡ settings_at m i → state_right (with_time (with_route m i r) t) ≡ true
      → ((j : ℕ) → j < m.count → (i ≡ j → ⊥) → AgreesLine store' (base m j) (route_at m j) (line_at l j))
      → Agrees store' (with_time (with_route m i r) t) (with_book_time (with_line l i x) t)
  agrees_with {store'} i r x t h one same right others =
      record {
        right = right;
        eight = length-set m.routes i r ∙ a.eight;
        count = a.count ∙ sym (length-set l.lines i x);
        address = a.address;
        sixteen = a.sixteen;
        bias = a.bias;
        time = refl;
        unrouted = a.unrouted;
        sets = a.sets;
        lines = λ j k. go j k (ℕ_discrete i j);
      }
    where
      starts : (j : ℕ) → base (with_time (with_route m i r) t) j ≡ base m j
      starts j = base_time (with_route m i r) t j ∙ base_with m i r same j

      go : (j : ℕ) → j < m.count → Dec (i ≡ j)
          → AgreesLine store' (base (with_time (with_route m i r) t) j) (route_at (with_route m i r) j) (line_at (with_line l i x) j)
      go j k (yes e) =
          let f = few a in
          let c = a.count in
          subst (λ (n : ℕ). AgreesLine store' (base (with_time (with_route m i r) t) n) (route_at (with_route m i r) n) (line_at (with_line l i x) n)) e
          (line_at_lem (starts i) (route_same m i r a.eight (omega arith)) (line_same l i x (omega arith)) one)
      go j k (no e) = line_at_lem (starts j) (route_other m i r j e) (line_other l i x j e) (others j k e)

  -- the other lines, as `agrees_with` asks for them, where the store is written within the route's region
  pub lines_elsewhere : (i k : ℕ) (ys : List ℕ) → i < m.count → k + length ys ≤ (settings_at m i).limit → regions m ≤ length store
      → (j : ℕ) → j < m.count → (i ≡ j → ⊥) → AgreesLine (splice store (base m i + k) ys) (base m j) (route_at m j) (line_at l j)
  lines_elsewhere i k ys h fits room j g other =
      line_elsewhere m store m.count i j k ys other h g fits (omega (arith, regions_count a)) (a.lines j g) (octets_right a j g)

  pub agrees_time : (t : ℕ) → state_right (with_time m t) ≡ true → Agrees store (with_time m t) (with_book_time l t)
  agrees_time t right =
      record {
        right = right;
        eight = a.eight;
        count = a.count;
        address = a.address;
        sixteen = a.sixteen;
        bias = a.bias;
        time = refl;
        unrouted = a.unrouted;
        sets = a.sets;
        lines = λ j k. line_at_lem (base_time m t j) refl refl (a.lines j k);
      }
