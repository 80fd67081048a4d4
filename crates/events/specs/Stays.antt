-- RECEIVE keeps any state within its bounds there (document 01, Refusals 18; document 02, ask 8), whether or not events reach it: so a state that was judged
-- once stays judged through a packet. Its settings stay what they are, its regions where they are, and the store keeps its length.
use Rattle.std.specs.Prelude.{◌≡◌, ℕ, zero, suc, ◌+◌, ◌<◌, ◌≤◌, min, Bool, true, false, cond, not, ◌&&◌, ◌||◌, ltb, List, [], ◌∷◌, length, ◌==◌, ◌≢◌, nat_eq, nat_lt, slice_index_or}
use Rattle.std.proofs.Math.Path.{refl}
use Rattle.std.proofs.Common.{sym, ap, ◌∙◌, subst, arith, length-set, get_or-set_same, get_or-set_other, ltb-false, le-leb, lt-ltb, eq-eqb, eqb-true}
use Rattle.std.proofs.lemmas.Bool.{false≢true, eqb-false, not-false}
use Rattle.std.proofs.Math.Decide.{ℕ_discrete}
use Rattle.octets.specs.Splice.{splice_length}
use Rattle.refusals.specs.Refusal.{Rule, ◌when◌, first, passed, or_false, or_right}
use Rattle.record.specs.declared.Release.{Release}
use Rattle.record.specs.declared.RecordHeader.{RecordHeader}
use Rattle.record.specs.Release.{narrow_release, rank, header_length}
use Rattle.record.specs.Record.{record_octets}
use Rattle.record.specs.HeaderOctets.{record_length}
use Rattle.state.specs.declared.RouteSettings.{RouteSettings}
use Rattle.state.specs.declared.Route.{Route}
use Rattle.state.specs.Routing.{Routed}
use Rattle.state.specs.Manager.{Manager}
use Rattle.state.specs.Manager.{no_route, route_at, settings_at, base, regions, effective, with_route, with_time}
use Rattle.state.specs.Size.{header_size, alone_size}
use Rattle.state.specs.Regions.{region_within, regions_all}
use Rattle.state.specs.Bounds.{same_release, state_right}
use Rattle.state.specs.Within.{SettingsWithin, FileWithin, file_within, RouteWithin, Within, within, right_within}
use Rattle.state.specs.Keep.{base_kept, within_kept, route_later, route_set, route_unset, settings_kept}
use Rattle.state.specs.Routing.{nobody, route_of}
use Rattle.state.specs.Longest.{longest_found}
use Rattle.events.specs.declared.Arrival.{Arrival}
use Rattle.events.specs.Rules.{opened_route, closed_route, lost_route, noted_route, appended_route, high_with, low_with, differs, exceeds, full, wrong_fields, header_for, record_size, routed_to, compared_to}
use Rattle.events.specs.Events.{After, settled}
use Rattle.events.specs.Receive.{record_of, is_lost, ready, holding, finished, store_with, needed, counters_full, receive_rules, noted, unrouted, lost_at, placed_at, taken, receive_of}
use Rattle.events.specs.Right.{facts_of, opened_right, appended_right}

-- A record that can be placed: its release and format are in range, and a file has room for it alone.
record Placeable (s : RouteSettings) (h : RecordHeader) (n : ℕ) : Type 0 where
  narrow : narrow_release h.release ≡ true
  format : h.format ≤ 7
  some : 4 ≤ n
  alone : alone_size s.octets h.release n ≤ s.limit

-- A route with an open file that takes it.
record Standing (h : RecordHeader) (n t : ℕ) (s : RouteSettings) (r : Route) : Type 0 where
  settings : r.settings ≡ s
  file : FileWithin t r.settings r.file
  fits : header_size r.settings.octets (high_with r.file h.release) (low_with r.file h.release) + r.file.octets + n ≤ r.settings.limit
  alike : (r.file.count ≢ 0) → (r.settings.flag ≢ 0) → rank r.file.high ≡ rank h.release

module _ (h : RecordHeader) (n t : ℕ) (r : Route) (s : SettingsWithin r.settings) (p : Placeable r.settings h n) where
  -- a fresh file, of the route or of the route with its file closed
  fresh : (q : Route) → q.settings ≡ r.settings → Standing h n t r.settings (opened_route q t)
  fresh q e =
      let small : SettingsWithin q.settings = subst SettingsWithin (sym e) s in
      let room : alone_size q.settings.octets h.release n ≤ q.settings.limit =
      subst (λ (x : RouteSettings). alone_size x.octets h.release n ≤ x.limit) (sym e) p.alone in
      record {
        settings = e;
        file = file_within t q.settings (opened_route q t).file (opened_right q.settings q.next t small.octets small.limit_least small.release);
        fits = omega (arith, room);
        alike = λ z. absurd (z refl);
      }

  -- the open file, where it neither differs nor would be too long
  stays : r.«open» ≡ true → FileWithin t r.settings r.file → differs r h ≡ false → exceeds r h n ≡ false → Standing h n t r.settings r
  stays live w d e =
      let size = header_size r.settings.octets (high_with r.file h.release) (low_with r.file h.release) + r.file.octets + n in
      record {
        settings = refl;
        file = w;
        fits = ltb-false r.settings.limit size (sym (ap (λ (b : Bool). b && nat_lt r.settings.limit size) live) ∙ e);
        alike = λ c z.
            let some : ltb 0 r.file.count ≡ true = lt-ltb 0 r.file.count (omega arith) in
            let one : nat_eq r.settings.flag 1 ≡ true = eq-eqb r.settings.flag 1 (omega (arith, s.flag)) in
            let format = not (r.file.format == h.format) in
            let same = same_release r.file.high h.release in
            let test : (format || not same) ≡ false = sym (λ i. (live i) && (some i) && (format || (one i && not same))) ∙ d in
            eqb-true (rank r.file.high) (rank h.release) (not-false same (or_false format (not same) test).1);
      }

  -- what is ready, by the tests
  ready_by_lem : (r.«open» ≡ true → FileWithin t r.settings r.file) → (d e live : Bool) → differs r h ≡ d → exceeds r h n ≡ e → r.«open» ≡ live
      → Standing h n t r.settings (cond (d || e) (opened_route (closed_route r) t) (cond live r (opened_route r t)))
  ready_by_lem w true e live pd pe pl = fresh (closed_route r) refl
  ready_by_lem w false true live pd pe pl = fresh (closed_route r) refl
  ready_by_lem w false false true pd pe pl = stays pl (w pl) pd pe
  ready_by_lem w false false false pd pe pl = fresh r refl

-- with the record in it, closed if that fills it
module _ (h : RecordHeader) (n t : ℕ) (s : RouteSettings) (bounds : SettingsWithin s) (p : Placeable s h n) (r : Route) (st : Standing h n t s r) where
  abbrev held : Route
  held = appended_route r h n t

  short : full held ≡ false → (r.settings.most ≢ 0) → r.file.count + 1 < r.settings.most
  short e z =
      let some : ltb 0 r.settings.most ≡ true = lt-ltb 0 r.settings.most (omega arith) in
      let other = eqb-false (r.file.count + 1) r.settings.most (sym (ap (λ (b : Bool). b && r.file.count + 1 == r.settings.most) some) ∙ e) in
      omega (arith, st.file.most z)

  held_within : full held ≡ false → FileWithin t r.settings held.file
  held_within e =
      file_within t r.settings held.file
      (appended_right {h = h}
      (record {
        before = facts_of st.file;
        narrow = p.narrow;
        format = p.format;
        time = omega arith;
        some = p.some;
        alike = st.alike;
        fits = st.fits;
        short = short e;
      }))

  settings_there : SettingsWithin r.settings
  settings_there = subst SettingsWithin (sym st.settings) bounds

  finish_by : (b : Bool) → full held ≡ b → RouteWithin t (cond b (closed_route held) held)
  finish_by true e = record { settings = settings_there; file = λ z. absurd (false≢true z) }
  finish_by false e = record { settings = settings_there; file = λ z. held_within e }

-- A state with another route in place of one, at a later time.
module _ (m : Manager) (w : Within m) (there : m.count ≤ length m.routes) (t : ℕ) (later : m.last ≤ t) (most : t ≤ 52595999) where
  module _ (i : ℕ) (r : Route) (h : i < m.count) (same : r.settings ≡ settings_at m i) (right : RouteWithin t r) where
    abbrev put : Manager
    put = with_time (with_route m i r) t

    low : i < length m.routes
    low = omega arith

    put_within : Within put
    put_within = within_kept m put (settings_kept m i r low same) w refl refl refl most (λ j k. go j k (ℕ_discrete j i))
      where
        go : (j : ℕ) → j < m.count → Dec (j ≡ i) → RouteWithin t (route_at (with_route m i r) j)
        go j k (yes p) = rw (p, route_set m i r low) right
        go j k (no p) = rw (route_unset m i r low j p) (route_later (w.routes j k) later)

    put_base : (n : ℕ) → base put n ≡ base m n
    put_base n = base_kept m put (settings_kept m i r low same) n

-- An unrouted record is counted on every route, and no counter is judged.
module _ (m : Manager) where
  abbrev noted_to : ℕ → Manager
  noted_to n = record { routes = noted m n; count = m.count; address = m.address; bias = m.bias; last = m.last; unrouted = m.unrouted; set_times = m.set_times }

  noted_length : (n : ℕ) → length (noted m n) ≡ length m.routes
  noted_length zero = refl
  noted_length (suc n) = length-set (noted m n) n (noted_route (route_at m n)) ∙ noted_length n

  noted_settings : (n j : ℕ) → n ≤ length m.routes → settings_at (noted_to n) j ≡ settings_at m j
  noted_settings zero j h = refl
  noted_settings (suc n) j h =
      settings_kept (noted_to n) n (noted_route (route_at m n)) (omega (arith, noted_length n)) (sym (noted_settings n n (omega arith))) j
      ∙ noted_settings n j (omega arith)

  noted_at : (n j : ℕ) → j < n → n ≤ length m.routes → slice_index_or (noted m n) j no_route ≡ noted_route (route_at m j)
  noted_at zero j h k = absurd (omega arith)
  noted_at (suc n) j h k =
      elim (ℕ_discrete j n) [
        | yes e ↦ rw e (get_or-set_same (noted m n) n (noted_route (route_at m n)) no_route (omega (arith, noted_length n)))
        | no e ↦ get_or-set_other (noted m n) n j (noted_route (route_at m n)) no_route e ∙ noted_at n j (omega arith) (omega arith)
      ]

  abbrev noted_state : ℕ → Manager
  noted_state t = record { routes = noted m m.count; count = m.count; address = m.address; bias = m.bias; last = t; unrouted = m.unrouted + 1; set_times = m.set_times }

  noted_within : Within m → m.count ≤ length m.routes → (t : ℕ) → m.last ≤ t → t ≤ 52595999 → Within (noted_state t)
  noted_within w there t later most =
      within_kept m (noted_state t) (λ j. noted_settings m.count j there) w refl refl refl most
      (λ j h. rw (noted_at m.count j h there) (same_within (route_later (w.routes j h) later)))
    where
      same_within : {r : Route} → RouteWithin t r → RouteWithin t (noted_route r)
      same_within v = record { settings = v.settings; file = v.file }

-- What an event leaves of a state within its bounds and of a store.
pub record Stays (m : Manager) (store : List ℕ) (x : After) : Type 0 where
  pub right : state_right x.outcome.manager ≡ true
  pub count : x.outcome.manager.count ≡ m.count
  pub settings : (j : ℕ) → settings_at x.outcome.manager j ≡ settings_at m j
  pub routes : length x.outcome.manager.routes ≡ length m.routes
  pub same : regions x.outcome.manager ≡ regions m
  pub long : length x.store ≡ length store

-- The fields of a record that passed 5 and is marked 0.
module _ (a : Arrival) (key : ℕ) (wrong : wrong_fields a key ≡ false) (one : a.mark ≡ 1 → ⊥) (two : a.mark ≡ 2 → ⊥) where
  abbrev beyond : Bool
  beyond = nat_lt 7 a.release || nat_lt 7 a.format || nat_lt 31 a.version || nat_lt 31 a.ts || (nat_lt a.release 7 && not (a.extension == 0))

  judged : beyond ≡ false
  judged =
      let w = or_false (nat_lt 2 a.mark || (nat_lt a.mark 2 && nat_lt 20 key)) (a.mark == 0 && beyond) wrong in
      let most = ltb-false 2 a.mark (or_false (nat_lt 2 a.mark) (nat_lt a.mark 2 && nat_lt 20 key) w.0).0 in
      let zero : a.mark ≡ 0 = omega arith in
      sym (ap (λ (b : Bool). b && beyond) (eq-eqb a.mark 0 zero)) ∙ w.1

  fields_right_lem : (narrow_release (header_for a).release ≡ true) × (a.format ≤ 7)
  fields_right_lem =
      let r5 = or_false (nat_lt 7 a.release || nat_lt 7 a.format || nat_lt 31 a.version || nat_lt 31 a.ts) (nat_lt a.release 7 && not (a.extension == 0)) judged in
      let r4 = or_false (nat_lt 7 a.release || nat_lt 7 a.format || nat_lt 31 a.version) (nat_lt 31 a.ts) r5.0 in
      let r3 = or_false (nat_lt 7 a.release || nat_lt 7 a.format) (nat_lt 31 a.version) r4.0 in
      let r2 = or_false (nat_lt 7 a.release) (nat_lt 7 a.format) r3.0 in
      let release = ltb-false 7 a.release r2.0 in
      let version = ltb-false 31 a.version r3.1 in
      ((λ i. le-leb a.release 7 release i && le-leb a.version 31 version i && absent release r5.1 i), ltb-false 7 a.format r2.1)
    where
      absent : a.release ≤ 7 → (nat_lt a.release 7 && not (a.extension == 0)) ≡ false → (a.release == 7 || a.extension == 0) ≡ true
      absent h e = go (ℕ_discrete a.release 7)
        where
          go : Dec (a.release ≡ 7) → (a.release == 7 || a.extension == 0) ≡ true
          go (yes z) = ap (λ (b : Bool). b || a.extension == 0) (eq-eqb a.release 7 z)
          go (no z) =
              let less : ltb a.release 7 ≡ true = lt-ltb a.release 7 (omega arith) in
              or_right (a.release == 7) (not-false (a.extension == 0) (sym (ap (λ (b : Bool). b && not (a.extension == 0)) less) ∙ e))

-- a record's header has four octets at least
header_least : (r : Release) → 4 ≤ header_length r
header_least r = least (r.release == 7)
  where
    least : (b : Bool) → 4 ≤ cond b 5 4
    least true = omega arith
    least false = omega arith

-- RECEIVE.
module _ (m : Manager) (store output : List ℕ) (time : ℕ) (a : Arrival) (key body : List ℕ) (eight : length m.routes ≡ 8) (right : state_right m ≡ true) where
  w : Within m
  w = within m right

  there : m.count ≤ length m.routes
  there = omega (arith, w.few)

  abbrev t : ℕ
  t = effective m time

  abbrev to : Routed
  to = routed_to m a key

  -- where it is accepted
  module _ (room : regions m ≤ length store) (early : time ≤ 52595999) (wrong : wrong_fields a (length key) ≡ false) where
    later : m.last ≤ t
    later = omega arith

    most : t ≤ 52595999
    most = omega (arith, w.last)

    unrouted_stays : Stays m store (unrouted m store output t (compared_to m a key))
    unrouted_stays =
        record {
          right = right_within (noted_state m t) (noted_within m w there t later most);
          count = refl;
          settings = λ j. noted_settings m m.count j there;
          routes = noted_length m m.count;
          same = base_kept m (noted_state m t) (λ j. noted_settings m m.count j there) (min m.count 8);
          long = refl;
        }

    -- a routed record has no mark 2, and its route is configured
    found : to.found ≡ true → (a.mark ≢ 2) × (to.at < m.count)
    found e = go (a.mark == 2) refl e
      where
        go : (b : Bool) → (a.mark == 2) ≡ b → (cond b nobody (route_of m key)).found ≡ true → (a.mark ≢ 2) × ((cond b nobody (route_of m key)).at < m.count)
        go true p q = absurd (false≢true q)
        go false p q = (eqb-false a.mark 2 p, (longest_found m key q).below)

    module _ (e : to.found ≡ true) where
      abbrev i : ℕ
      i = to.at

      abbrev r : Route
      r = route_at m i

      inside : i < m.count
      inside = (found e).1

      bounds : RouteWithin t r
      bounds = route_later (w.routes i inside) later

      changed_stays : (q : Route) → q.settings ≡ r.settings → RouteWithin t q → (x : After) → x.outcome.manager ≡ with_time (with_route m i q) t → length x.store ≡ length store → Stays m store x
      changed_stays q s v x p l =
          record {
            right = ap state_right p ∙ right_within (with_time (with_route m i q) t) (put_within m w there t later most i q inside s v);
            count = ap (λ (n : Manager). n.count) p;
            settings = λ j. ap (λ (n : Manager). settings_at n j) p ∙ settings_kept m i q (omega (arith, inside, there)) s j;
            routes = ap (λ (n : Manager). length n.routes) p ∙ length-set m.routes i q;
            same = ap regions p ∙ put_base m w there t later most i q inside s v (min m.count 8);
            long = l;
          }

      lost_stays : Stays m store (lost_at m store output t i (compared_to m a key))
      lost_stays = changed_stays (lost_route r) refl (record { settings = bounds.settings; file = bounds.file }) (lost_at m store output t i (compared_to m a key)) refl refl

      module _ (kept : is_lost m a i (length body) ≡ false) where
        abbrev n : ℕ
        n = record_size a (length body)

        abbrev big : Bool
        big = nat_lt r.settings.limit (alone_size r.settings.octets (header_for a).release n)

        parts : ((a.mark == 1 || nat_lt 65534 (length body)) ≡ false) × (big ≡ false)
        parts = or_false (a.mark == 1 || nat_lt 65534 (length body)) big kept

        placeable : Placeable r.settings (header_for a) n
        placeable =
            let one = eqb-false a.mark 1 (or_false (a.mark == 1) (nat_lt 65534 (length body)) parts.0).0 in
            let f = fields_right_lem a (length key) wrong one (found e).0 in
            record {
              narrow = f.0;
              format = f.1;
              some = omega (arith, header_least (header_for a).release);
              alone = ltb-false r.settings.limit (alone_size r.settings.octets (header_for a).release n) parts.1;
            }

        standing : Standing (header_for a) n t r.settings (ready r a (length body) t)
        standing =
            ready_by_lem (header_for a) n t r bounds.settings placeable bounds.file (differs r (header_for a)) (exceeds r (header_for a) n) r.«open» refl refl refl

        done : RouteWithin t (finished r a (length body) t)
        done = finish_by (header_for a) n t r.settings bounds.settings placeable (ready r a (length body) t) standing (full (holding r a (length body) t)) refl

        same_settings : (finished r a (length body) t).settings ≡ r.settings
        same_settings = either (full (holding r a (length body) t)) ∙ standing.settings
          where
            either : (b : Bool) → (cond b (closed_route (holding r a (length body) t)) (holding r a (length body) t)).settings ≡ (ready r a (length body) t).settings
            either true = refl
            either false = refl

        store_long : length (store_with m store i a body t) ≡ length store
        store_long =
            let here = ready r a (length body) t in
            splice_length store (base m i + here.file.octets) (record_octets (record_of a body))
            (omega (arith, record_length (record_of a body), standing.fits, ap (λ (s : RouteSettings). s.limit) standing.settings, region_within m i m.count inside, regions_all m w.few, room))

        placed_stays : Stays m store (placed_at m store output t a body i (compared_to m a key))
        placed_stays = changed_stays (finished r a (length body) t) same_settings done (placed_at m store output t a body i (compared_to m a key)) refl store_long

      routed_by : (b : Bool) → is_lost m a i (length body) ≡ b
          → Stays m store (cond b (lost_at m store output t i (compared_to m a key)) (placed_at m store output t a body i (compared_to m a key)))
      routed_by true p = lost_stays
      routed_by false p = placed_stays p

    taken_by : (b : Bool) → to.found ≡ b
        → Stays m store
        (cond b
        (cond (is_lost m a to.at (length body)) (lost_at m store output t to.at (compared_to m a key)) (placed_at m store output t a body to.at (compared_to m a key)))
        (unrouted m store output t (compared_to m a key)))
    taken_by true e = routed_by e (is_lost m a to.at (length body)) refl
    taken_by false e = unrouted_stays

    taken_stays : Stays m store (taken m store output t a key body)
    taken_stays = taken_by to.found refl

  -- RECEIVE keeps a state within its bounds there.
  pub receive_stays : Stays m store (receive_of m store output time a key body)
  unfolding receive_of
  receive_stays = go (first (receive_rules m (length store) (length output) time a key (length body))) refl
    where
      rest : List Rule
      rest = (19 when counters_full m a key (length body)) ∷ (17 when ltb (length output) (needed m a key (length body) t)) ∷ []

      go : (k : ℕ) → first (receive_rules m (length store) (length output) time a key (length body)) ≡ k
          → Stays m store (settled k (needed m a key (length body) t) m store output (taken m store output t a key body))
      go zero e =
          let p18 = passed 17 (not (state_right m)) ((16 when ltb (length store) (regions m)) ∷ (4 when ltb 52595999 time) ∷ (5 when wrong_fields a (length key)) ∷ rest) e in
          let p16 = passed 15 (nat_lt (length store) (regions m)) ((4 when ltb 52595999 time) ∷ (5 when wrong_fields a (length key)) ∷ rest) p18.1 in
          let p4 = passed 3 (nat_lt 52595999 time) ((5 when wrong_fields a (length key)) ∷ rest) p16.1 in
          let p5 = passed 4 (wrong_fields a (length key)) rest p4.1 in
          taken_stays (ltb-false (length store) (regions m) p16.0) (ltb-false 52595999 time p4.0) p5.0
      go (suc k) e = record { right = right; count = refl; settings = λ j. refl; routes = refl; same = refl; long = refl }
