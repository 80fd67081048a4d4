-- One event (Steps): RECEIVE. A record is unrouted, lost or placed; here which of them it is, the refusals, and the event as a
-- whole. Assumes nothing.
use Rattle.std.specs.Prelude.{◌≡◌, refl, Bool, true, false, cond, not, ◌&&◌, ◌||◌, List, [], ◌∷◌, ℕ, ◌≤◌, ◌<◌, ltb, eqb, length}
use Rattle.std.proofs.Common.{sym, ap, ◌∙◌, subst, arith, ltb-false, eqb-true, lt-ltb, eq-eqb, ne_eqb}
use Rattle.std.proofs.lemmas.Bool.{false≢true, eqb-false, not-false}
use Rattle.octets.specs.Number.{Octets}
use Rattle.octets.specs.Splice.{splice}
use Rattle.refusals.specs.Refusal.{◌when◌, first, passed, or_false}
use Rattle.refusals.specs.Below.{all_below, below_each, below_all}
use Rattle.record.specs.Record.{RightRecord}
use Rattle.state.specs.declared.RouteSettings.{RouteSettings}
use Rattle.state.specs.Routing.{Routed}
use Rattle.state.specs.Manager.{Manager}
use Rattle.state.specs.Manager.{route_at, settings_at, regions, effective}
use Rattle.state.specs.Size.{alone_size}
use Rattle.state.specs.Routing.{nobody}
use Rattle.state.specs.Bounds.{state_right}
use Rattle.events.specs.declared.Answer.{Answer}
use Rattle.events.specs.declared.Arrival.{Arrival}
use Rattle.events.specs.Rules.{wrong_fields, header_for, record_size, compared_to}
use Rattle.events.specs.Events.{After, answered}
use Rattle.events.specs.Receive.{record_of, is_lost, placed_size, needed, receive_rules, lost_at, placed_at, unrouted, taken, receive_of}
use Rattle.events.specs.Receive.{can_note, unrouted_full}
use Rattle.events.specs.Receive.{counters_full as manager_full}
use Rattle.ledger.specs.Event.{receive_event}
use Rattle.ledger.specs.Ledger.{Ledger, line_at, Entry, lengths, among_lines, routed_to, lost_by, loses, places, unroutes, receives, any_full, counters_full, fits_mark, needed_by, refusal, answer_of, entry_of}
use Rattle.ledger.specs.Ledger.{effective as book_time}
use Rattle.ledger.specs.Ledger.{regions as line_regions}
use Rattle.ledger.specs.Run.{happens}
use Rattle.ledger.proofs.Agrees.{Agrees}
use Rattle.ledger.proofs.Regions.{regions_same}
use Rattle.ledger.proofs.Books.{routed_below, can_note_lem, none_full}
use Rattle.ledger.proofs.Words.{fields_same}
use Rattle.ledger.proofs.Refusals.{routes_same}
use Rattle.ledger.proofs.Compares.{compared_same}
use Rattle.ledger.proofs.Steps.{Holds, answer_at, event_holds, common_passed, effective_right, time_same}
use Rattle.ledger.proofs.StepUnrouted.{unrouted_holds, lost_holds}
use Rattle.ledger.proofs.StepPlaced.{placed, placed_long, length_joined}

-- The record of an arrival whose fields are not wrong, that is marked 0, is right.
module _ (v : Arrival) (body : List ℕ) (key : ℕ) (fields : wrong_fields v key ≡ false) (zero_mark : v.mark ≡ 0) where
  fields_right_lem : v.extension < 256 → Octets body → length body ≤ 65534 → RightRecord (record_of v body)
  fields_right_lem octet octets short =
      let release = ltb 7 v.release in
      let format = ltb 7 v.format in
      let version = ltb 31 v.version in
      let ts = ltb 31 v.ts in
      let below = ltb v.release 7 && not (eqb v.extension 0) in
      let tests = release || format || version || ts || below in
      let marked = (or_false (ltb 2 v.mark || (ltb v.mark 2 && ltb 20 key)) (eqb v.mark 0 && tests) fields).1 in
      let all : tests ≡ false = sym (ap (λ (b : Bool). b && tests) (eq-eqb v.mark 0 zero_mark)) ∙ marked in
      let e5 = or_false (release || format || version || ts) below all in
      let e4 = or_false (release || format || version) ts e5.0 in
      let e3 = or_false (release || format) version e4.0 in
      let e2 = or_false release format e3.0 in
      let r = ltb-false 7 v.release e2.0 in
      record {
        release =
            record {
              release = omega arith;
              extension = octet;
              version = omega (arith, ltb-false 31 v.version e3.1);
              absent = λ z. eqb-true v.extension 0 (not-false (eqb v.extension 0)
                  (sym (ap (λ (b : Bool). b && not (eqb v.extension 0)) (lt-ltb v.release 7 (omega arith))) ∙ e5.1));
            };
        format = omega (arith, ltb-false 7 v.format e2.1);
        ts = omega (arith, ltb-false 31 v.ts e4.1);
        short = short;
        octets = octets;
      }

-- not wrong, not lost and routed: the mark is 0
mark_zero : (v : Arrival) (key : ℕ) → wrong_fields v key ≡ false → (v.mark ≡ 1 → ⊥) → (v.mark ≡ 2 → ⊥) → v.mark ≡ 0
mark_zero v key fields one two =
    let rest = eqb v.mark 0 && (ltb 7 v.release || ltb 7 v.format || ltb 31 v.version || ltb 31 v.ts || (ltb v.release 7 && not (eqb v.extension 0))) in
    let key_long = ltb v.mark 2 && ltb 20 key in
    let e = (or_false (ltb 2 v.mark || key_long) rest fields).0 in
    let above = ltb-false 2 v.mark (or_false (ltb 2 v.mark) key_long e).0 in
    omega arith

-- What an event leaves, and the octets that it needs.
record Took (store output : List ℕ) (size : ℕ) (done : After) (answer : Answer) (e : Entry) : Type 0 where
  sizes : size ≡ lengths e.closings
  holds : size ≤ length output → Holds store output done answer e

-- a route that the ledger routes to is one of the manager's
record Routing (m : Manager) (v : Arrival) (i : ℕ) : Type 0 where
  below : i < m.count
  unmarked : v.mark ≡ 2 → ⊥

module _ {store : List ℕ} {m : Manager} {l : Ledger} (a : Agrees store m l) (output : List ℕ) (t : ℕ) (later : m.last ≤ t) (most : t ≤ 52595999)
    (room : regions m ≤ length store) (v : Arrival) (key : ℕ) (body : List ℕ) (fields : wrong_fields v key ≡ false) (octet : v.extension < 256) (octets : Octets body) {k n : ℕ} (same : k ≡ n) where
  -- a record that is routed and not lost
  placed_at_lem : (i : ℕ) → Routing m v i → is_lost m v i (length body) ≡ false
      → Took store output (placed_size (route_at m i) v (length body) t) (placed_at m store output t v body i k)
      (answered 2 i (length (places l t i (record_of v body)).closings) (lengths (places l t i (record_of v body)).closings) n) (places l t i (record_of v body))
  placed_at_lem i w e =
      let limit = (settings_at m i).limit in
      let size = alone_size (settings_at m i).octets (header_for v).release (record_size v (length body)) in
      let e3 = or_false (eqb v.mark 1 || ltb 65534 (length body)) (ltb limit size) e in
      let e2 = or_false (eqb v.mark 1) (ltb 65534 (length body)) e3.0 in
      let mark = mark_zero v key fields (eqb-false v.mark 1 e2.0) w.unmarked in
      let right = fields_right_lem v body key fields mark octet octets (ltb-false 65534 (length body) e2.1) in
      let p = placed a i w.below t later most room v body right (ltb-false limit size e3.1) in
      let sizes = p.sizes in
      let counts = p.counts in
      record {
        sizes = sizes;
        holds = λ fits.
            record {
              answers = λ j. answered 2 i (counts j) (sizes j) (same j);
              agrees = p.agrees;
              long = placed_long a i w.below t later most room v body right (ltb-false limit size e3.1);
              writes = ap (splice output 0) p.joins;
              room = omega (arith, length_joined (places l t i (record_of v body)).closings, sizes);
              right = p.files;
            };
      }

  -- a record that is routed
  abbrev routed_entry : ℕ → Bool → Entry
  routed_entry i b = cond b (loses l t i) (places l t i (record_of v body))

  routed_by : (i : ℕ) → Routing m v i → (b : Bool) → is_lost m v i (length body) ≡ b
      → Took store output (cond (true && not b) (placed_size (route_at m i) v (length body) t) 0) (cond b (lost_at m store output t i k) (placed_at m store output t v body i k))
      (answered (cond b 3 2) i (length (routed_entry i b).closings) (lengths (routed_entry i b).closings) n) (routed_entry i b)
  routed_by i w true e = record { sizes = refl; holds = λ fits. lost_holds a output t later most i w.below same }
  routed_by i w false e = placed_at_lem i w e

  lost_same : (i : ℕ) → Routing m v i → is_lost m v i (length body) ≡ lost_by (line_at l i).settings v (length body)
  lost_same i w = ap (λ (s : RouteSettings). lost_by s v (length body)) (a.lines i w.below).settings

  routed_at : (i : ℕ) → Routing m v i
      → Took store output (cond (true && not (is_lost m v i (length body))) (placed_size (route_at m i) v (length body) t) 0)
      (cond (is_lost m v i (length body)) (lost_at m store output t i k) (placed_at m store output t v body i k))
      (answered (cond (lost_by (line_at l i).settings v (length body)) 3 2) i (length (routed_entry i (lost_by (line_at l i).settings v (length body))).closings)
      (lengths (routed_entry i (lost_by (line_at l i).settings v (length body))).closings) n)
      (routed_entry i (lost_by (line_at l i).settings v (length body)))
  routed_at i w =
      subst
      (λ (b : Bool). Took store output (cond (true && not (is_lost m v i (length body))) (placed_size (route_at m i) v (length body) t) 0)
      (cond (is_lost m v i (length body)) (lost_at m store output t i k) (placed_at m store output t v body i k))
      (answered (cond b 3 2) i (length (routed_entry i b).closings) (lengths (routed_entry i b).closings) n) (routed_entry i b))
      (lost_same i w) (routed_by i w (is_lost m v i (length body)) refl)

  -- any record, by where it goes
  abbrev needed_at : Bool → ℕ → ℕ
  needed_at f i = cond (f && not (is_lost m v i (length body))) (placed_size (route_at m i) v (length body) t) 0

  abbrev done_at : Bool → ℕ → After
  done_at f i =
      cond f (cond (is_lost m v i (length body)) (lost_at m store output t i k) (placed_at m store output t v body i k)) (unrouted m store output t k)

  abbrev entry_at : Bool → ℕ → Entry
  entry_at f i = cond f (routed_entry i (lost_by (line_at l i).settings v (length body))) (unroutes l t)

  abbrev answer_for : Bool → ℕ → Answer
  answer_for f i =
      answered (cond f (cond (lost_by (line_at l i).settings v (length body)) 3 2) 4) (cond f i 255) (length (entry_at f i).closings) (lengths (entry_at f i).closings) n

  took_by : (f : Bool) (i : ℕ) → (f ≡ true → Routing m v i) → Took store output (needed_at f i) (done_at f i) (answer_for f i) (entry_at f i)
  took_by true i w = routed_at i (w refl)
  took_by false i w = record { sizes = refl; holds = λ fits. unrouted_holds a output t later most same }

-- where the ledger routes a record
unmarked_by : (v : Arrival) (q : Routed) → (cond (eqb v.mark 2) nobody q).found ≡ true → v.mark ≡ 2 → ⊥
unmarked_by v q e two = false≢true (sym (ap (λ (b : Bool). (cond b nobody q).found) (eq-eqb v.mark 2 two)) ∙ e)

module _ {store : List ℕ} {m : Manager} {l : Ledger} (a : Agrees store m l) (v : Arrival) (key : List ℕ) where
  routing : (routed_to l v key).found ≡ true → Routing m v (routed_to l v key).at
  routing e =
      record { below = omega (arith, a.count, routed_below l key v e); unmarked = unmarked_by v (among_lines l key (length l.lines)) e }

  -- 19 is the same: no configured route's count of unrouted records is full exactly where no line's is
  any_same : not (all_below (can_note m) m.count) ≡ any_full l.lines
  any_same = go (all_below (can_note m) m.count) refl (any_full l.lines) refl
    where
      below : (i : ℕ) → i < length l.lines → i < m.count
      below i h = omega (arith, a.count)

      rises : all_below (can_note m) m.count ≡ true → (i : ℕ) → i < length l.lines → (line_at l i).unrouted ≡ 4294967295 → ⊥
      rises p i h e =
          let room : not (eqb (route_at m i).unrouted 4294967295) ≡ true = below_each (can_note m) m.count p i (below i h) in
          false≢true (sym (ap not (eq-eqb _ _ ((a.lines i (below i h)).unrouted ∙ e))) ∙ room)

      room : any_full l.lines ≡ false → (i : ℕ) → i < m.count → can_note m i ≡ true
      room q i h =
          let low : i < length l.lines = omega (arith, a.count) in
          ap not (ne_eqb _ _ (λ e. can_note_lem l.lines i low q (sym (a.lines i h).unrouted ∙ e)))

      go : (b : Bool) → all_below (can_note m) m.count ≡ b → (c : Bool) → any_full l.lines ≡ c → not b ≡ c
      go true p true q = absurd (false≢true (sym (none_full l.lines (rises p)) ∙ q))
      go true p false q = refl
      go false p true q = refl
      go false p false q = absurd (false≢true (sym p ∙ below_all (can_note m) m.count (room q)))

  full_by : (n : ℕ) (f : Bool) (i : ℕ) → (f ≡ true → Routing m v i)
      → cond f (is_lost m v i n && eqb (route_at m i).losses 4294967295) (unrouted_full m)
      ≡ cond f (lost_by (line_at l i).settings v n && eqb (line_at l i).losses 4294967295) (eqb l.unrouted 4294967295 || any_full l.lines)
  full_by n true i w =
      let line = a.lines i (w refl).below in
      let settings = line.settings in
      let losses = line.losses in
      λ j. lost_by (settings j) v n && eqb (losses j) 4294967295
  full_by n false i w = let unrouted = a.unrouted in λ j. eqb (unrouted j) 4294967295 || any_same j

  full_same : (n : ℕ) → manager_full m v key n ≡ counters_full l v key n
  full_same n =
      ap (λ (q : Routed). cond q.found (is_lost m v q.at n && eqb (route_at m q.at).losses 4294967295) (unrouted_full m)) (routes_same a v key)
      ∙ full_by n (routed_to l v key).found (routed_to l v key).at routing

-- A rule that is the same in both lists, and what comes behind it where it does not apply.
unless : (k : ℕ) (b c : Bool) (x y : ℕ) → b ≡ c → (c ≡ false → x ≡ y) → cond b k x ≡ cond c k y
unless k b c x y e f = ap (λ (z : Bool). cond z k x) e ∙ go c refl
  where
    go : (z : Bool) → c ≡ z → cond c k x ≡ cond c k y
    go true p = rw p
    go false p = ap (cond c k) (f p)

-- a rule before the one that gives the number does not apply
behind : (b : Bool) (k x n : ℕ) → (k ≡ n → ⊥) → cond b k x ≡ n → (b ≡ false) × (x ≡ n)
behind true k x n other e = absurd (other e)
behind false k x n other e = (refl, e)

-- RECEIVE.
module _ {store : List ℕ} {m : Manager} {l : Ledger} (a : Agrees store m l) (output : List ℕ) (time : ℕ) (v : Arrival) (key body : List ℕ)
    (given : (v.extension < 256) × Octets body) where
  -- where 16, 4 and 5 do not apply
  module _ (room : regions m ≤ length store) (early : time ≤ 52595999) (fields : wrong_fields v (length key) ≡ false) where
    took : Took store output (needed m v key (length body) (effective m time)) (taken m store output (effective m time) v key body)
        (answer_at l (effective m time) (receive_event time v key body)) (receives l (effective m time) v key body)
    took =
        let t = effective m time in
        let w = effective_right a time early in
        let q = routed_to l v key in
        let k = compared_to m v key in
        subst
        (λ (q : Routed). Took store output (cond (q.found && not (is_lost m v q.at (length body))) (placed_size (route_at m q.at) v (length body) t) 0)
        (cond q.found (cond (is_lost m v q.at (length body)) (lost_at m store output t q.at k) (placed_at m store output t v body q.at k)) (unrouted m store output t k))
        (answer_at l t (receive_event time v key body)) (receives l t v key body))
        (sym (routes_same a v key))
        (took_by a output t w.0 w.1 room v (length key) body fields given.0 given.1 (compared_same a v key) q.found q.at (routing a v key))

    needed_same : needed m v key (length body) (effective m time) ≡ needed_by l (receive_event time v key body)
    needed_same = took.sizes ∙ ap (λ (t : ℕ). lengths (receives l t v key body).closings) (time_same a time)

  receive_refusal : first (receive_rules m (length store) (length output) time v key (length body)) ≡ refusal l (length store) (length output) (receive_event time v key body)
  receive_refusal =
      let size = needed m v key (length body) (effective m time) in
      let books = needed_by l (receive_event time v key body) in
      let wrong = wrong_fields v (length key) in
      let e17 : ℕ = cond (ltb (length output) size) 17 0 in
      let b17 : ℕ = cond (ltb (length output) books) 17 0 in
      let e19 : ℕ = cond (manager_full m v key (length body)) 19 e17 in
      let b19 : ℕ = cond (counters_full l v key (length body)) 19 b17 in
      let e5 : ℕ = cond wrong 5 e19 in
      let b5 : ℕ = cond (not (fits_mark v.mark v (length key))) 5 b19 in
      let e4 : ℕ = cond (ltb 52595999 time) 4 e5 in
      let b4 : ℕ = cond (ltb 52595999 time) 4 b5 in
      ap (λ (b : Bool). cond {A = ℕ} (not b) 18 (cond (ltb (length store) (regions m)) 16 e4)) a.right
      ∙ unless 16 (ltb (length store) (regions m)) (ltb (length store) (line_regions l.lines)) e4 b4 (ap (ltb (length store)) (regions_same a))
      (λ p16. unless 4 (ltb 52595999 time) (ltb 52595999 time) e5 b5 refl
      (λ p4. unless 5 wrong (not (fits_mark v.mark v (length key))) e19 b19 (fields_same v (length key))
      (λ p5. unless 19 (manager_full m v key (length body)) (counters_full l v key (length body)) e17 b17 (full_same a v key (length body))
      (λ p19. ap (λ (k : ℕ). cond {A = ℕ} (ltb (length output) k) 17 0)
      (needed_same (omega (arith, regions_same a, ltb-false (length store) (line_regions l.lines) p16)) (ltb-false 52595999 time p4) (fields_same v (length key) ∙ p5))))))

  receive_needed : first (receive_rules m (length store) (length output) time v key (length body)) ≡ 17 → needed m v key (length body) (effective m time) ≡ needed_by l (receive_event time v key body)
  receive_needed e =
      let size = needed m v key (length body) (effective m time) in
      let e17 : ℕ = cond (ltb (length output) size) 17 0 in
      let e19 : ℕ = cond (manager_full m v key (length body)) 19 e17 in
      let e5 : ℕ = cond (wrong_fields v (length key)) 5 e19 in
      let e4 : ℕ = cond (ltb 52595999 time) 4 e5 in
      let e16 : ℕ = cond (ltb (length store) (regions m)) 16 e4 in
      let p18 = behind (not (state_right m)) 18 e16 17 (λ z. omega arith) e in
      let p16 = behind (ltb (length store) (regions m)) 16 e4 17 (λ z. omega arith) p18.1 in
      let p4 = behind (ltb 52595999 time) 4 e5 17 (λ z. omega arith) p16.1 in
      let p5 = behind (wrong_fields v (length key)) 5 e19 17 (λ z. omega arith) p4.1 in
      needed_same (ltb-false (length store) (regions m) p16.0) (ltb-false 52595999 time p4.0) p5.0

  receive_done : first (receive_rules m (length store) (length output) time v key (length body)) ≡ 0
      → (t : ℕ) × (t ≡ book_time l (receive_event time v key body))
      × Holds store output (taken m store output (effective m time) v key body) (answer_at l t (receive_event time v key body)) (receives l t v key body)
  receive_done e =
      let wrong = wrong_fields v (length key) in
      let counters = manager_full m v key (length body) in
      let size = needed m v key (length body) (effective m time) in
      let c = common_passed a (length store) time ((5 when wrong) ∷ (19 when counters) ∷ (17 when ltb (length output) size) ∷ []) e in
      let p5 = passed 4 wrong ((19 when counters) ∷ (17 when ltb (length output) size) ∷ []) c.2 in
      let p19 = passed 18 counters ((17 when ltb (length output) size) ∷ []) p5.1 in
      let p17 = passed 16 (ltb (length output) size) [] p19.1 in
      (effective m time, time_same a time, (took c.0 c.1 p5.0).holds (ltb-false (length output) size p17.0))

  pub receive_holds : Holds store output (happens m store output (receive_event time v key body))
      (answer_of l (length store) (length output) (receive_event time v key body)) (entry_of l (length store) (length output) (receive_event time v key body))
  unfolding receive_of
  receive_holds =
      event_holds output a (receive_event time v key body) (needed m v key (length body) (effective m time)) (taken m store output (effective m time) v key body)
      (first (receive_rules m (length store) (length output) time v key (length body))) receive_refusal receive_needed receive_done
