-- The cases of `open_of`, `close_of` and `tick_of` (Events), one for each way out of a call, and what it says that the refusals
-- of every event were passed. Document 01, The events, and Refusals. Assumes nothing.
use Rattle.std.specs.Prelude.{◌≡◌, ℕ, zero, suc, ◌+◌, ◌<◌, ◌≤◌, Bool, true, false, cond, not, ◌&&◌, ltb, leb, List, [], ◌∷◌, ◌++◌, length, ◌==◌, ◌≢◌, nat_eq, nat_le, nat_lt}
use Rattle.std.proofs.Math.Path.{refl, ap}
use Rattle.std.proofs.Common.{sym, ◌∙◌, true≢false, arith, lt-ltb, le-ltb, le-leb, ne_eqb, ltb-false, leb-false}
use Rattle.std.proofs.Math.Decide.{dec_lt}
use Rattle.std.proofs.lemmas.Bool.{lt-leb, eqb-false, not-true, not-false}
use Rattle.octets.specs.Splice.{splice}
use Rattle.refusals.specs.Refusal.{Rule, ◌when◌, first, passed}
use Rattle.refusals.specs.Tests.{both}
use Rattle.record.specs.Order.{in_width}
use Rattle.state.specs.declared.Route.{Route}
use Rattle.state.specs.declared.Node.{Node}
use Rattle.state.specs.Manager.{Manager}
use Rattle.state.specs.Manager.{route_at, base, regions, effective, node_of}
use Rattle.state.specs.Bounds.{state_right}
use Rattle.state.specs.Regions.{region_within, regions_all}
use Rattle.state.specs.Within.{Within, within}
use Rattle.filing.specs.Closing.{lost_octet, closed_file, closed_size}
use Rattle.filing.specs.Closed.{closed_from, closed_is}
use Rattle.filing.specs.Needs.{Closable}
use Rattle.events.specs.Events.{Outcome}
use Rattle.events.specs.Rules.{opened_route, closed_route, allowed}
use Rattle.events.specs.Events.{After, after, changed, refused, settled, open_rules, opened, open_of, closed, close_of, due_size, ticked, tick_of}
use Rattle.state.specs.Common.{common}

-- Lists of refusals in two parts: every event tests some first, and 17 last.

-- no rule has the number 0, which stands for none, or 17, which alone carries octets
abbrev pub plain : List Rule → Bool
plain [] = true
plain (r ∷ rs) = (not (r.number == 0) && not (r.number == 17)) && plain rs

-- a refusal of the first part is the answer
before_step : (b : Bool) (x a c : ℕ) → ((a ≢ 0) → c ≡ a) → (cond b x a ≢ 0) → cond b x c ≡ cond b x a
before_step true x a c ih h = refl
before_step false x a c ih h = ih h

pub first_before : (rs qs : List Rule) → (first rs ≢ 0) → first (rs ++ qs) ≡ first rs
first_before [] qs h = absurd (h refl)
first_before (r ∷ rs) qs h = before_step r.applies r.number (first rs) (first (rs ++ qs)) (first_before rs qs) h

pub refused_before : (rs qs : List Rule) {n : ℕ} → n ≡ first rs → (n ≢ 0) → n ≡ first (rs ++ qs)
refused_before rs qs e h = e ∙ sym (first_before rs qs (λ z. h (e ∙ z)))

-- where none of the first part applies, the second decides
behind_step : (b : Bool) (x a c d : ℕ) → (x ≢ 0) → (a ≡ 0 → c ≡ d) → cond b x a ≡ 0 → cond b x c ≡ d
behind_step true x a c d n ih e = absurd (n e)
behind_step false x a c d n ih e = ih e

pub first_behind : (rs qs : List Rule) → plain rs ≡ true → first rs ≡ 0 → first (rs ++ qs) ≡ first qs
first_behind [] qs p e = refl
first_behind (r ∷ rs) qs p e =
    let t = both (not (r.number == 0) && not (r.number == 17)) (plain rs) p in
    let u = both (not (r.number == 0)) (not (r.number == 17)) t.0 in
    behind_step r.applies r.number (first rs) (first (rs ++ qs)) (first qs) (eqb-false _ _ (not-true (r.number == 0) u.0))
    (first_behind rs qs t.1) e

-- a refusal of the first part is not 17
other_step : (b : Bool) (x a : ℕ) → (x == 17) ≡ false → (a == 17) ≡ false → (cond b x a == 17) ≡ false
other_step true x a p q = p
other_step false x a p q = q

pub first_other : (rs : List Rule) → plain rs ≡ true → (first rs == 17) ≡ false
first_other [] p = refl
first_other (r ∷ rs) p =
    let t = both (not (r.number == 0) && not (r.number == 17)) (plain rs) p in
    let u = both (not (r.number == 0)) (not (r.number == 17)) t.0 in
    other_step r.applies r.number (first rs) (not-true (r.number == 17) u.1) (first_other rs t.1)

-- The ways out of a call by its list of refusals; `done` is what an accepted event leaves.
module _ (needed : ℕ) (m : Manager) (store output : List ℕ) (done : After) where
  pub settled_refused : (n : ℕ) → (n ≢ 0) → after (refused n needed m) store output ≡ settled n needed m store output done
  settled_refused zero h = absurd (h refl)
  settled_refused (suc n) h = refl

  -- other refusals than 17 carry no octets
  no_octets_lem : (n : ℕ) → (n == 17) ≡ false → refused n 0 m ≡ refused n needed m
  no_octets_lem n e = rw e

  -- refused by the first part, by 17, and accepted
  module _ (rs : List Rule) (p : plain rs ≡ true) (short : Bool) where
    pub first_refused : (n : ℕ) → n ≡ first rs → (n ≢ 0)
        → after (refused n 0 m) store output ≡ settled (first (rs ++ ((17 when short) ∷ []))) needed m store output done
    first_refused n e h =
        ap (λ (o : Outcome). after o store output) (no_octets_lem n (ap (λ (k : ℕ). nat_eq k 17) e ∙ first_other rs p))
        ∙ settled_refused n h
        ∙ ap (λ (k : ℕ). settled k needed m store output done) (e ∙ sym (first_before rs ((17 when short) ∷ []) (λ z. h (e ∙ z))))

    module _ (e : first rs ≡ 0) where
      pub short_refused : short ≡ true
          → after (refused 17 needed m) store output ≡ settled (first (rs ++ ((17 when short) ∷ []))) needed m store output done
      short_refused s =
          ap (λ (k : ℕ). settled k needed m store output done) (sym (first_behind rs ((17 when short) ∷ []) p e ∙ ap (λ (b : Bool). cond b 17 0) s))

      pub accepted : short ≡ false → done ≡ settled (first (rs ++ ((17 when short) ∷ []))) needed m store output done
      accepted s =
          ap (λ (k : ℕ). settled k needed m store output done) (sym (first_behind rs ((17 when short) ∷ []) p e ∙ ap (λ (b : Bool). cond b 17 0) s))

-- What it says that 18, 16 and 4 were passed: the state is within its bounds, and all regions lie in the store.
pub record Passed (m : Manager) (octets time : ℕ) : Type 0 where
  pub state : Within m
  pub store : base m m.count ≤ octets
  pub early : time ≤ 52595999

pub common_passed : (m : Manager) (octets time : ℕ) (rs : List Rule) → first (common m octets time rs) ≡ 0 → Passed m octets time × (first rs ≡ 0)
common_passed m octets time rs e =
    let r4 : List Rule = (4 when ltb 52595999 time) ∷ rs in
    let p18 = passed 17 (not (state_right m)) ((16 when ltb octets (regions m)) ∷ r4) e in
    let p16 = passed 15 (nat_lt octets (regions m)) r4 p18.1 in
    let p4 = passed 3 (nat_lt 52595999 time) rs p16.1 in
    let w = within m (not-false (state_right m) p18.0) in
    (record { state = w; store = rw (regions_all m w.few) at (ltb-false octets (regions m) p16.0); early = ltb-false 52595999 time p4.0 }, p4.1)

-- OPEN and CLOSE test 6 behind them, before they look at the route
abbrev pub route_first : Manager → ℕ → ℕ → ℕ → List Rule
route_first m octets time route = common m octets time ((6 when leb m.count route) ∷ [])

-- where none applies, the route is there
pub route_there : (m : Manager) (octets time route : ℕ) → first (route_first m octets time route) ≡ 0 → route < 8
route_there m octets time route e =
    let p = common_passed m octets time ((6 when leb m.count route) ∷ []) e in
    omega (arith, p.0.state.few, leb-false m.count route (passed 5 (nat_le m.count route) [] p.1).0)

-- OPEN
module _ (m : Manager) (store output : List ℕ) (time route : ℕ) where
  pub open_refused : (n : ℕ) → n ≡ first (open_rules m (length store) time route) → (n ≢ 0)
      → after (refused n 0 m) store output ≡ open_of m store output time route
  unfolding open_of
  open_refused n e h =
      settled_refused 0 m store output (opened m store output time route) n h
      ∙ ap (λ (k : ℕ). settled k 0 m store output (opened m store output time route)) e

  pub open_done : first (open_rules m (length store) time route) ≡ 0 → opened m store output time route ≡ open_of m store output time route
  unfolding open_of
  open_done e = ap (λ (k : ℕ). settled k 0 m store output (opened m store output time route)) (sym e)

  -- what the code puts together is what is to be
  pub opened_made : {t : ℕ} {q r : Route} → t ≡ effective m time → q ≡ route_at m route → r ≡ opened_route q t
      → after (changed m t route r 1 0 0 0) store output ≡ opened m store output time route
  opened_made {t} et eq er =
      (λ i. after (changed m t route (er i) 1 0 0 0) store output)
      ∙ (λ i. after (changed m (et i) route (opened_route (eq i) (et i)) 1 0 0 0) store output)

-- the route is there
pub open_there : (m : Manager) (octets time route : ℕ) → first (open_rules m octets time route) ≡ 0 → route < 8
open_there m octets time route e =
    let r14 : List Rule = (14 when (route_at m route).«open») ∷ [] in
    let p = common_passed m octets time ((6 when leb m.count route) ∷ r14) e in
    omega (arith, p.0.state.few, leb-false m.count route (passed 5 (nat_le m.count route) r14 p.1).0)

-- CLOSE: the refusals before 17
abbrev pub close_first : Manager → ℕ → ℕ → ℕ → ℕ → List Rule
close_first m octets time route reason =
    common m octets time
    ((6 when leb m.count route)
    ∷ (7 when not (allowed reason))
    ∷ (15 when not (route_at m route).«open»)
    ∷ [])

module _ (m : Manager) (store output : List ℕ) (time route reason : ℕ) where
  pub close_refused : (n : ℕ) → n ≡ first (close_first m (length store) time route reason) → (n ≢ 0)
      → after (refused n 0 m) store output ≡ close_of m store output time route reason
  unfolding close_of
  close_refused n e h =
      first_refused (closed_size (route_at m route)) m store output (closed m store output time route reason)
      (close_first m (length store) time route reason) refl (nat_lt (length output) (closed_size (route_at m route))) n e h

  module _ (e : first (close_first m (length store) time route reason) ≡ 0) where
    pub close_short : length output < closed_size (route_at m route)
        → after (refused 17 (closed_size (route_at m route)) m) store output ≡ close_of m store output time route reason
    unfolding close_of
    close_short h =
        short_refused (closed_size (route_at m route)) m store output (closed m store output time route reason)
        (close_first m (length store) time route reason) refl (nat_lt (length output) (closed_size (route_at m route))) e (lt-ltb _ _ h)

    pub close_done : closed_size (route_at m route) ≤ length output → closed m store output time route reason ≡ close_of m store output time route reason
    unfolding close_of
    close_done h =
        accepted (closed_size (route_at m route)) m store output (closed m store output time route reason)
        (close_first m (length store) time route reason) refl (nat_lt (length output) (closed_size (route_at m route))) e (le-ltb _ _ h)

  -- what the code puts together is what is to be
  pub closed_made : {t size : ℕ} {q r : Route} {out : List ℕ} → t ≡ effective m time → q ≡ route_at m route → size ≡ closed_size q → r ≡ closed_route q
      → out ≡ splice output 0 (closed_file m store route reason)
      → after (changed m t route r 5 1 size 0) store out ≡ closed m store output time route reason
  closed_made {t} {size} {q} {r} et eq es er eo =
      (λ i. after (changed m (et i) route (er i) 5 1 (es i) 0) store (eo i))
      ∙ (λ i. after (changed m (effective m time) route (closed_route (eq i)) 5 1 (closed_size (eq i)) 0) store (splice output 0 (closed_file m store route reason)))

-- reasons that CLOSE may give are octets
allowed_octet : (reason : ℕ) → allowed reason ≡ true → reason < 256
allowed_octet reason e = go (dec_lt reason 256)
  where
    go : Dec (reason < 256) → reason < 256
    go (yes h) = h
    go (no h) =
        let none = ne_eqb reason 0 (omega arith) in
        let four = ne_eqb reason 4 (omega arith) in
        let z : allowed reason ≡ false = rw (none, four, le-leb 128 reason (omega arith), lt-leb reason 131 (omega arith)) in
        absurd (true≢false (sym e ∙ z))

-- what it says that they were passed
pub record Closing (m : Manager) (octets time route reason : ℕ) : Type 0 where
  pub passed : Passed m octets time
  pub there : route < m.count
  pub octet : reason < 256
  pub live : (route_at m route).«open» ≡ true

pub close_passed : (m : Manager) (octets time route reason : ℕ) → first (close_first m octets time route reason) ≡ 0 → Closing m octets time route reason
close_passed m octets time route reason e =
    let r15 : List Rule = (15 when not (route_at m route).«open») ∷ [] in
    let r7 : List Rule = (7 when not (allowed reason)) ∷ r15 in
    let p = common_passed m octets time ((6 when leb m.count route) ∷ r7) e in
    let p6 = passed 5 (nat_le m.count route) r7 p.1 in
    let p7 = passed 6 (not (allowed reason)) r15 p6.1 in
    let p15 = passed 14 (not (route_at m route).«open») [] p7.1 in
    record {
      passed = p.0;
      there = leb-false _ _ p6.0;
      octet = allowed_octet reason (not-false (allowed reason) p7.0);
      live = not-false (route_at m route).«open» p15.0;
    }

-- TICK: 18, 16 and 4, and then 17
module _ (m : Manager) (store output : List ℕ) (time : ℕ) where
  pub tick_refused : (n : ℕ) → n ≡ first (common m (length store) time []) → (n ≢ 0)
      → after (refused n 0 m) store output ≡ tick_of m store output time
  unfolding tick_of
  tick_refused n e h =
      first_refused (due_size m (effective m time) m.count) m store output (ticked m store output time) (common m (length store) time []) refl
      (nat_lt (length output) (due_size m (effective m time) m.count)) n e h

  module _ (e : first (common m (length store) time []) ≡ 0) where
    pub tick_short : length output < due_size m (effective m time) m.count
        → after (refused 17 (due_size m (effective m time) m.count) m) store output ≡ tick_of m store output time
    unfolding tick_of
    tick_short h =
        short_refused (due_size m (effective m time) m.count) m store output (ticked m store output time) (common m (length store) time []) refl
        (nat_lt (length output) (due_size m (effective m time) m.count)) e (lt-ltb _ _ h)

    pub tick_done : due_size m (effective m time) m.count ≤ length output → ticked m store output time ≡ tick_of m store output time
    unfolding tick_of
    tick_done h =
        accepted (due_size m (effective m time) m.count) m store output (ticked m store output time) (common m (length store) time []) refl
        (nat_lt (length output) (due_size m (effective m time) m.count)) e (le-ltb _ _ h)

-- An open file of a state within its bounds can be closed wherever the output has room for it.
pub closes : {m : Manager} → Within m → (store : List ℕ) → base m m.count ≤ length store → (i : ℕ) → i < m.count
    → (route_at m i).«open» ≡ true → (output : List ℕ) (at : ℕ) → at + closed_size (route_at m i) ≤ length output
    → Closable (node_of m) (route_at m i) (lost_octet (route_at m i)) store (base m i) output at
closes {m} w store whole i there live output at room =
    let s = (w.routes i there).settings in
    let f = (w.routes i there).file live in
    let high = in_width (route_at m i).file.high f.high in
    let low = in_width (route_at m i).file.low f.low in
    record {
      headed = record {
        opened = omega (arith, f.opened, f.appended, w.last);
        appended = omega (arith, f.appended, w.last);
        bias = w.bias;
        lost = refl;
      };
      high = high.release;
      high_version = high.version;
      low = low.release;
      low_version = low.version;
      filter = s.octets;
      count = omega (arith, f.records, f.size, s.limit_most);
      records = omega (arith, f.size, region_within m i m.count there);
      size = omega (arith, f.size, s.limit_most);
      room = room;
    }

-- the same of a node, a route and a place that are the state's
pub closable_as : (m : Manager) (i : ℕ) {n : Node} {r : Route} {from : ℕ} {store output : List ℕ} {at : ℕ} → n ≡ node_of m → r ≡ route_at m i → from ≡ base m i
    → Closable (node_of m) (route_at m i) (lost_octet (route_at m i)) store (base m i) output at
    → Closable n r (lost_octet r) store from output at
closable_as m i en er eb k = rw (en, er, eb) k

-- and what it writes is the file of the state's route
pub closed_as : (m : Manager) (store : List ℕ) (i reason : ℕ) {n : Node} {r : Route} {from : ℕ} → n ≡ node_of m → r ≡ route_at m i → from ≡ base m i
    → closed_from n r reason store from ≡ closed_file m store i reason
closed_as m store i reason {r = r} {from = from} en er eb = ap (λ (k : Node). closed_from k r reason store from) en ∙ closed_is m store i reason er eb
