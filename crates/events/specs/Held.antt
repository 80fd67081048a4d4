-- Every event on a state that has room in its words (words, Laws: Held) leaves such a state, so that its words stand for it.
-- Assumes nothing.
use Rattle.std.specs.Prelude.{◌≡◌, ℕ, zero, suc, ◌+◌, ◌<◌, ◌≤◌, Bool, true, false, cond, not, ◌&&◌, ◌||◌, ltb, List, [], ◌∷◌, length, ◌==◌, nat_le, nat_lt, refl}
use Rattle.std.proofs.Common.{sym, ◌∙◌, subst, true≢false, arith, ltb-false, eq-eqb}
use Rattle.std.proofs.Math.Decide.{ℕ_discrete}
use Rattle.std.proofs.lemmas.Bool.{eqb-false, not-false}
use Rattle.refusals.specs.Refusal.{Rule, ◌when◌, first, passed, or_false}
use Rattle.record.specs.declared.Release.{Release}
use Rattle.record.specs.declared.RecordHeader.{RecordHeader}
use Rattle.record.specs.Release.{rank, header_length}
use Rattle.state.specs.declared.Route.{Route}
use Rattle.state.specs.Manager.{Manager}
use Rattle.state.specs.Manager.{route_at, regions, effective, with_route, with_time}
use Rattle.state.specs.Bounds.{state_right}
use Rattle.state.specs.Size.{alone_size}
use Rattle.state.specs.Routing.{nobody, route_of}
use Rattle.state.specs.Within.{within}
use Rattle.words.specs.Laws.{HeldRelease, HeldRoute, Held, held_route}
use Rattle.events.specs.declared.Arrival.{Arrival}
use Rattle.events.specs.Rules.{opened_route, closed_route, lost_route, noted_route, appended_route, full, wrong_fields, header_for, record_size, routed_to, compared_to}
use Rattle.events.specs.Events.{After, settled, opened, open_rules, open_of, closed, close_rules, close_of, ends, closing, up_to, ticked, tick_rules, tick_of}
use Rattle.state.specs.Common.{common}
use Rattle.events.specs.Receive.{is_lost, turns, holding, finished, counters_full, needed, noted, lost_at, placed_at, unrouted, taken, receive_rules, receive_of}

-- What is done to a route.
module _ {r : Route} (h : HeldRoute r) where
  held_opened : (t : ℕ) → t < 2147483648 → HeldRoute (opened_route r t)
  held_opened t low = record { filter = h.filter; release = h.release; opened = low; high = h.release; low = h.release }

  held_closed : HeldRoute (closed_route r)
  held_closed =
      let none : HeldRelease (record { release = 0; extension = 0; version = 0 }) = record { release = omega arith; extension = omega arith; version = omega arith } in
      record { filter = h.filter; release = h.release; opened = omega arith; high = none; low = none }

  held_lost : HeldRoute (lost_route r)
  held_lost = record { filter = h.filter; release = h.release; opened = h.opened; high = h.high; low = h.low }

  held_noted : HeldRoute (noted_route r)
  held_noted = record { filter = h.filter; release = h.release; opened = h.opened; high = h.high; low = h.low }

-- one of two
held_either : (b : Bool) {x y : Release} → HeldRelease x → HeldRelease y → HeldRelease (cond b x y)
held_either true p q = p
held_either false p q = q

either_route : (b : Bool) {x y : Route} → HeldRoute x → HeldRoute y → HeldRoute (cond b x y)
either_route true p q = p
either_route false p q = q

held_appended : {r : Route} → HeldRoute r → (x : RecordHeader) → HeldRelease x.release → (n t : ℕ) → HeldRoute (appended_route r x n t)
held_appended {r} h x g n t =
    record {
      filter = h.filter;
      release = h.release;
      opened = h.opened;
      high = held_either (r.file.count == 0) g (held_either (nat_lt (rank r.file.high) (rank x.release)) g h.high);
      low = held_either (r.file.count == 0) g (held_either (nat_lt (rank x.release) (rank r.file.low)) g h.low);
    }

-- What is done to the state.
held_time : {m : Manager} → Held m → (t : ℕ) → Held (with_time m t)
held_time h t = record { eight = h.eight; routes = h.routes; address = h.address; sets = h.sets }

-- refused or not
held_settled : {m : Manager} → Held m → (n needed : ℕ) (store output : List ℕ) (done : After) → (n ≡ 0 → Held done.outcome.manager)
    → Held (settled n needed m store output done).outcome.manager
held_settled h zero needed store output done g = g refl
held_settled h (suc n) needed store output done g = h

-- what an accepted event's time is
pub low_time : (m : Manager) (store time : ℕ) (rs : List Rule) → first (common m store time rs) ≡ 0 → (effective m time < 2147483648) × (first rs ≡ 0)
low_time m store time rs e =
    let p18 = passed 17 (not (state_right m)) ((16 when ltb store (regions m)) ∷ ((4 when ltb 52595999 time) ∷ rs)) e in
    let p16 = passed 15 (nat_lt store (regions m)) ((4 when ltb 52595999 time) ∷ rs) p18.1 in
    let p4 = passed 3 (nat_lt 52595999 time) rs p16.1 in
    let w = within m (not-false (state_right m) p18.0) in
    (omega (arith, ltb-false 52595999 time p4.0, w.last), p4.1)

-- an accepted event that leaves the route i as r
held_changed : {m : Manager} → Held m → (i t : ℕ) (r : Route) → (i < 8 → HeldRoute r) → Held (with_time (with_route m i r) t)
held_changed h i t r g = held_time (held_route h i r g) t

module _ {m : Manager} (h : Held m) (store output : List ℕ) (time : ℕ) where
  -- OPEN
  pub open_held : (route : ℕ) → Held (open_of m store output time route).outcome.manager
  unfolding open_of
  open_held route =
      held_settled h (first (open_rules m (length store) time route)) 0 store output (opened m store output time route)
      (λ e. held_changed h route (effective m time) (opened_route (route_at m route) (effective m time))
      (λ low. held_opened (h.routes route low) (effective m time) (low_time m (length store) time ((6 when nat_le m.count route) ∷ (14 when (route_at m route).«open») ∷ []) e).0))

  -- CLOSE
  pub close_held : (route reason : ℕ) → Held (close_of m store output time route reason).outcome.manager
  unfolding close_of
  close_held route reason =
      held_settled h (first (close_rules m (length store) (length output) time route reason)) _ store output (closed m store output time route reason)
      (λ e. held_changed h route (effective m time) (closed_route (route_at m route)) (λ low. held_closed (h.routes route low)))

  -- TICK
  up_to_held : (t n : ℕ) → Held (up_to m store t n).manager
  up_to_held t zero = h
  up_to_held t (suc n) = go (ends m t n) (up_to_held t n)
    where
      go : (b : Bool) → Held (up_to m store t n).manager → Held (cond b (closing m store t n (up_to m store t n)) (up_to m store t n)).manager
      go true k = held_route k n (closed_route (route_at m n)) (λ low. held_closed (h.routes n low))
      go false k = k

  pub tick_held : Held (tick_of m store output time).outcome.manager
  unfolding tick_of
  tick_held =
      held_settled h (first (tick_rules m (length store) (length output) time)) _ store output (ticked m store output time)
      (λ e. held_time (up_to_held (effective m time) m.count) (effective m time))

  -- RECEIVE
  noted_held : (n : ℕ) → Held (record { routes = noted m n; count = m.count; address = m.address; bias = m.bias; last = m.last; unrouted = m.unrouted; set_times = m.set_times })
  noted_held zero = h
  noted_held (suc n) = held_route (noted_held n) n (noted_route (route_at m n)) (λ low. held_noted (h.routes n low))

  -- a record's fields, as 5 judges them
  abbrev beyond : Arrival → Bool
  beyond a = nat_lt 7 a.release || nat_lt 7 a.format || nat_lt 31 a.version || nat_lt 31 a.ts || (nat_lt a.release 7 && not (a.extension == 0))

  -- the record that is placed is usable, so that its fields have room
  usable : (a : Arrival) (key body : ℕ) (l : Bool) → wrong_fields a key ≡ false → a.extension < 256 → (a.mark == 1 || l) ≡ false → (a.mark == 2) ≡ false → HeldRelease (header_for a).release
  usable a key body l wrong low lost two =
      let w = or_false (nat_lt 2 a.mark || (nat_lt a.mark 2 && nat_lt 20 key)) (a.mark == 0 && beyond a) wrong in
      let m2 = ltb-false 2 a.mark (or_false (nat_lt 2 a.mark) (nat_lt a.mark 2 && nat_lt 20 key) w.0).0 in
      go (ℕ_discrete a.mark 0) m2 w.1
    where
      fields : beyond a ≡ false → HeldRelease (header_for a).release
      fields e =
          let r5 = or_false (nat_lt 7 a.release || nat_lt 7 a.format || nat_lt 31 a.version || nat_lt 31 a.ts) (nat_lt a.release 7 && not (a.extension == 0)) e in
          let r4 = or_false (nat_lt 7 a.release || nat_lt 7 a.format || nat_lt 31 a.version) (nat_lt 31 a.ts) r5.0 in
          let r3 = or_false (nat_lt 7 a.release || nat_lt 7 a.format) (nat_lt 31 a.version) r4.0 in
          let r2 = or_false (nat_lt 7 a.release) (nat_lt 7 a.format) r3.0 in
          record {
            release = omega (arith, ltb-false 7 a.release r2.0);
            extension = low;
            version = omega (arith, ltb-false 31 a.version r3.1);
          }

      go : Dec (a.mark ≡ 0) → a.mark ≤ 2 → (a.mark == 0 && beyond a) ≡ false → HeldRelease (header_for a).release
      go (yes z) m2 e = fields (sym (λ i. eq-eqb a.mark 0 z i && beyond a) ∙ e)
      go (no z) m2 e = absurd (omega (arith, eqb-false a.mark 1 (or_false (a.mark == 1) l lost).0, eqb-false a.mark 2 two))

  module _ (a : Arrival) (key body : List ℕ) (low : a.extension < 256) where
    -- a record that a route was found for has not mark 2
    trusted : (routed_to m a key).found ≡ true → (a.mark == 2) ≡ false
    trusted f = go (a.mark == 2) refl
      where
        go : (b : Bool) → (a.mark == 2) ≡ b → (a.mark == 2) ≡ false
        go true e = absurd (true≢false (sym f ∙ (λ i. (cond (e i) nobody (route_of m key)).found)))
        go false e = e

    placed_held : (i : ℕ) → effective m time < 2147483648 → HeldRelease (header_for a).release → Held (placed_at m store output (effective m time) a body i (compared_to m a key)).outcome.manager
    placed_held i early g = held_changed h i (effective m time) (finished (route_at m i) a (length body) (effective m time)) (λ there. done (h.routes i there))
      where
        done : HeldRoute (route_at m i) → HeldRoute (finished (route_at m i) a (length body) (effective m time))
        done k =
            let q = either_route (turns (route_at m i) a (length body)) (held_opened (held_closed k) (effective m time) early)
            (either_route (route_at m i).«open» k (held_opened k (effective m time) early)) in
            let p = held_appended q (header_for a) g (record_size a (length body)) (effective m time) in
            either_route (full (holding (route_at m i) a (length body) (effective m time))) (held_closed p) p

    pub receive_held : Held (receive_of m store output time a key body).outcome.manager
    unfolding receive_of
    receive_held =
        held_settled h (first (receive_rules m (length store) (length output) time a key (length body))) _ store output (taken m store output (effective m time) a key body)
        (λ e. found e (routed_to m a key).found refl)
      where
        to : ℕ
        to = (routed_to m a key).at

        lost_or_lem : first (receive_rules m (length store) (length output) time a key (length body)) ≡ 0 → (a.mark == 2) ≡ false → (b : Bool) → is_lost m a to (length body) ≡ b
            → Held (cond b (lost_at m store output (effective m time) to (compared_to m a key)) (placed_at m store output (effective m time) a body to (compared_to m a key))).outcome.manager
        lost_or_lem e two true q = held_changed h to (effective m time) (lost_route (route_at m to)) (λ there. held_lost (h.routes to there))
        lost_or_lem e two false q =
            let rs = (19 when counters_full m a key (length body)) ∷ (17 when ltb (length output) (needed m a key (length body) (effective m time))) ∷ [] in
            let c = low_time m (length store) time ((5 when wrong_fields a (length key)) ∷ rs) e in
            let w = passed 4 (wrong_fields a (length key)) rs c.1 in
            let s = (route_at m to).settings in
            let big = ltb s.limit (alone_size s.octets (header_for a).release (header_length (header_for a).release + length body)) in
            let l = or_false (a.mark == 1 || nat_lt 65534 (length body)) big q in
            placed_held to c.0 (usable a (length key) (length body) (nat_lt 65534 (length body)) w.0 low l.0 two)

        done : Bool → After
        done b =
            cond b (cond (is_lost m a to (length body)) (lost_at m store output (effective m time) to (compared_to m a key)) (placed_at m store output (effective m time) a body to (compared_to m a key)))
            (unrouted m store output (effective m time) (compared_to m a key))

        found : first (receive_rules m (length store) (length output) time a key (length body)) ≡ 0 → (b : Bool) → (routed_to m a key).found ≡ b
            → Held (done (routed_to m a key).found).outcome.manager
        found e true f = subst (λ (b : Bool). Held (done b).outcome.manager) (sym f) (lost_or_lem e (trusted f) (is_lost m a to (length body)) refl)
        found e false f =
            subst (λ (b : Bool). Held (done b).outcome.manager) (sym f)
            (record { eight = (noted_held m.count).eight; routes = (noted_held m.count).routes; address = h.address; sets = h.sets })
