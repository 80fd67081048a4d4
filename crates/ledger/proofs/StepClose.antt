-- One event (Steps): CLOSE, and what every closing needs: the file that the manager writes is the ledger's, and it is right.
-- Assumes nothing.
use Rattle.std.specs.Prelude.{◌≡◌, refl, Bool, true, false, not, ◌&&◌, ◌||◌, List, [], ◌∷◌, ℕ, ◌≤◌, ◌<◌, ltb, leb, eqb, length}
use Rattle.std.proofs.Common.{sym, ap, ◌∙◌, subst, append-nil, add-zero, arith, ltb-false, leb-false, leb-true, eqb-true}
use Rattle.std.proofs.lemmas.Bool.{false≢true, not-false}
use Rattle.octets.specs.Splice.{splice}
use Rattle.refusals.specs.Refusal.{Rule, ◌when◌, first, passed}
use Rattle.refusals.specs.Tests.{both}
use Rattle.record.specs.Release.{NarrowRelease}
use Rattle.record.specs.Order.{narrowed}
use Rattle.cdrfile.specs.File.{layout}
use Rattle.roundtrip.specs.Described.{RightFile}
use Rattle.octets.specs.Number.{Octets}
use Rattle.state.specs.declared.RouteSettings.{RouteSettings}
use Rattle.state.specs.Manager.{Manager}
use Rattle.state.specs.Manager.{route_at, settings_at, base, regions, effective}
use Rattle.state.specs.Bounds.{route_right, state_right}
use Rattle.filing.specs.Closing.{closed_file, closed_size}
use Rattle.events.specs.Rules.{closed_route, allowed}
use Rattle.events.specs.Events.{answered, close_rules, closed, close_of}
use Rattle.ledger.specs.Event.{close_event}
use Rattle.ledger.specs.Ledger.{OpenFile, Current, none, some, Ledger, line_at, is_open, Entry, lengths, file_from, close_line, close_entry, carried, needed_by, answer_of, entry_of}
use Rattle.ledger.specs.Ledger.{effective as book_time}
use Rattle.ledger.specs.Run.{happens}
use Rattle.ledger.proofs.Agrees.{Agrees, AgreesOpen}
use Rattle.ledger.proofs.Files.{closed_same, closed_size_lem, size_is, file_right_lem}
use Rattle.ledger.proofs.Lines.{open_same, line_live, close_agrees}
use Rattle.ledger.proofs.Regions.{bias_right, last_right, settings_right_lem, settings_bounds, file_bounds, agrees_with}
use Rattle.ledger.proofs.Refusals.{close_refusal}
use Rattle.ledger.proofs.Steps.{Holds, answer_at, event_holds, common_passed, effective_right, time_same, state_kept}

-- A configured route with an open file.
module _ {store : List ℕ} {m : Manager} {l : Ledger} (a : Agrees store m l) (i : ℕ) (h : i < m.count) (f : OpenFile) (c : (line_at l i).current ≡ some f) where
  live : AgreesOpen store (base m i) (route_at m i) f
  live = line_live (a.lines i h) c

  pub file_same : (reason : ℕ) → closed_file m store i reason ≡ layout (file_from l (line_at l i) f reason)
  file_same reason = closed_same m store i reason l (line_at l i) f (a.lines i h) live a.bias a.address

  filter_short : (line_at l i).settings.octets ≤ 20
  filter_short = omega (arith, (settings_bounds a i h).octets, ap (λ (s : RouteSettings). s.octets) (a.lines i h).settings)

  pub size_same : (reason : ℕ) → closed_size (route_at m i) ≡ length (layout (file_from l (line_at l i) f reason))
  size_same reason = closed_size_lem m store i reason l (line_at l i) f (a.lines i h) live filter_short

  pub right_file : (reason : ℕ) → reason < 256 → RightFile (file_from l (line_at l i) f reason)
  right_file reason small =
      let s = (a.lines i h).settings in
      let b = settings_bounds a i h in
      let w = file_bounds a i h live.live in
      let held = (a.lines i h).held in
      let n = last_right a in
      file_right_lem l (line_at l i) f reason
      (record {
        records = live.right;
        release = subst (λ (x : RouteSettings). NarrowRelease x.release) s (narrowed (settings_at m i).release held.extension b.release);
        most = filter_short;
        twenty = subst (λ (x : RouteSettings). length x.filter ≡ 20) s held.filter;
        filter = subst (λ (x : RouteSettings). Octets x.filter) s held.octets;
        opened = omega (arith, live.opened, w.opened, w.appended);
        appended = omega (arith, live.appended, w.appended);
        bias = omega (arith, bias_right a, a.bias);
        sequence = live.held;
        reason = small;
        address = subst (λ (x : List ℕ). (length x ≡ 16) × Octets x) a.address a.sixteen;
        size = omega (arith, size_same reason, size_is l (line_at l i) f reason (subst (λ (x : RouteSettings). length x.filter ≡ 20) s held.filter) filter_short, w.size, b.limit_most);
      })

-- a reason that CLOSE may give is an octet
pub allowed_small : (reason : ℕ) → allowed reason ≡ true → reason < 256
allowed_small reason e = by_zero (eqb reason 0) refl
  where
    by_range : (b : Bool) → (leb 128 reason && leb reason 131) ≡ b → b ≡ true → reason < 256
    by_range b p q = let t = both (leb 128 reason) (leb reason 131) (p ∙ q) in omega (arith, leb-true reason 131 t.1)

    by_four : eqb reason 0 ≡ false → (b : Bool) → eqb reason 4 ≡ b → reason < 256
    by_four z true p = omega (arith, eqb-true reason 4 p)
    by_four z false p = by_range (leb 128 reason && leb reason 131) refl (sym (λ i. z i || p i || (leb 128 reason && leb reason 131)) ∙ e)

    by_zero : (b : Bool) → eqb reason 0 ≡ b → reason < 256
    by_zero true p = omega (arith, eqb-true reason 0 p)
    by_zero false p = by_four p (eqb reason 4) refl

-- an answer other than a rule's number passes the rule
pub skipped : (n k : ℕ) (b : Bool) (rs : List Rule) → first ((n when b) ∷ rs) ≡ k → (n ≡ k → ⊥) → (b ≡ false) × (first rs ≡ k)
skipped n k true rs e h = absurd (h e)
skipped n k false rs e h = (refl, e)

-- the file that is open
find : (c : Current) → is_open c ≡ true → (f : OpenFile) × (c ≡ some f)
find none e = absurd (false≢true e)
find (some f) e = (f, refl)

-- CLOSE.
module _ {store : List ℕ} {m : Manager} {l : Ledger} (a : Agrees store m l) (output : List ℕ) (time i reason : ℕ) where
  needs : i < m.count → is_open (line_at l i).current ≡ true → closed_size (route_at m i) ≡ needed_by l (close_event time i reason)
  needs h e =
      let w = find (line_at l i).current e in
      size_same a i h w.0 w.1 reason
      ∙ sym (add-zero (length (layout (file_from l (line_at l i) w.0 reason))))
      ∙ sym (ap (λ (c : Current). lengths (close_entry l (book_time l (close_event time i reason)) i reason c).closings) w.1)

  -- what the tests leave open
  passes : first (close_rules m (length store) (length output) time i reason) ≡ 0
      → (time ≤ 52595999) × (i < m.count) × (allowed reason ≡ true) × ((route_at m i).«open» ≡ true) × (closed_size (route_at m i) ≤ length output)
  passes e =
      let r17 = (17 when ltb (length output) (closed_size (route_at m i))) ∷ [] in
      let r15 = (15 when not (route_at m i).«open») ∷ r17 in
      let r7 = (7 when not (allowed reason)) ∷ r15 in
      let c = common_passed a (length store) time ((6 when leb m.count i) ∷ r7) e in
      let p6 = passed 5 (leb m.count i) r7 c.2 in
      let p7 = passed 6 (not (allowed reason)) r15 p6.1 in
      let p15 = passed 14 (not (route_at m i).«open») r17 p7.1 in
      let p17 = passed 16 (ltb (length output) (closed_size (route_at m i))) [] p15.1 in
      (c.1, leb-false m.count i p6.0, not-false (allowed reason) p7.0, not-false (route_at m i).«open» p15.0, ltb-false (length output) (closed_size (route_at m i)) p17.0)

  close_done : first (close_rules m (length store) (length output) time i reason) ≡ 0
      → (t : ℕ) × (t ≡ book_time l (close_event time i reason)) × Holds store output (closed m store output time i reason) (answer_at l t (close_event time i reason)) (carried l t (close_event time i reason))
  close_done e =
      let p = passes e in
      let h = p.1 in
      let w = find (line_at l i).current (sym (open_same (a.lines i h)) ∙ p.3) in
      let t = effective m time in
      let f = w.0 in
      let file = file_from l (line_at l i) f reason in
      let v = effective_right a time p.0 in
      let right : route_right t (closed_route (route_at m i)) ≡ true = λ j. settings_right_lem a i h j && true in
      let booked : carried l t (close_event time i reason) ≡ close_entry l t i reason (some f) = ap (close_entry l t i reason) w.1 in
      let size = size_same a i h f w.1 reason in (
        t,
        time_same a time,
        subst (λ (y : Entry). Holds store output (closed m store output time i reason) (answered 5 i (length y.closings) (lengths y.closings) 0) y) (sym booked)
            (record {
              answers = λ j. answered 5 i 1 ((size ∙ sym (add-zero (length (layout file)))) j) 0;
              agrees =
                  agrees_with a i (closed_route (route_at m i)) (close_line (line_at l i) file) t h (close_agrees (a.lines i h) file) refl
                  (state_kept a i (closed_route (route_at m i)) t h refl right v.0 v.1) (λ j k z. a.lines j k);
              long = refl;
              writes = ap (splice output 0) (file_same a i h f w.1 reason ∙ sym (append-nil (layout file)));
              room = omega (arith, ap length (append-nil (layout file)), size, p.4);
              right = (right_file a i h f w.1 reason (allowed_small reason p.2), tt);
            }),
      )

  -- 17 is answered only where the route is configured and open
  at_seventeen : first (close_rules m (length store) (length output) time i reason) ≡ 17 → closed_size (route_at m i) ≡ needed_by l (close_event time i reason)
  at_seventeen e =
      let r17 = (17 when ltb (length output) (closed_size (route_at m i))) ∷ [] in
      let r15 = (15 when not (route_at m i).«open») ∷ r17 in
      let r7 = (7 when not (allowed reason)) ∷ r15 in
      let r6 = (6 when leb m.count i) ∷ r7 in
      let p18 = skipped 18 17 (not (state_right m)) ((16 when ltb (length store) (regions m)) ∷ ((4 when ltb 52595999 time) ∷ r6)) e (λ z. omega arith) in
      let p16 = skipped 16 17 (ltb (length store) (regions m)) ((4 when ltb 52595999 time) ∷ r6) p18.1 (λ z. omega arith) in
      let p4 = skipped 4 17 (ltb 52595999 time) r6 p16.1 (λ z. omega arith) in
      let p6 = skipped 6 17 (leb m.count i) r7 p4.1 (λ z. omega arith) in
      let p7 = skipped 7 17 (not (allowed reason)) r15 p6.1 (λ z. omega arith) in
      let p15 = skipped 15 17 (not (route_at m i).«open») r17 p7.1 (λ z. omega arith) in
      let h = leb-false m.count i p6.0 in
      needs h (sym (open_same (a.lines i h)) ∙ not-false (route_at m i).«open» p15.0)

  pub close_holds : Holds store output (happens m store output (close_event time i reason)) (answer_of l (length store) (length output) (close_event time i reason)) (entry_of l (length store) (length output) (close_event time i reason))
  unfolding close_of
  close_holds =
      event_holds output a (close_event time i reason) (closed_size (route_at m i)) (closed m store output time i reason) (first (close_rules m (length store) (length output) time i reason))
      (close_refusal a (length output) time i reason (closed_size (route_at m i)) needs) at_seventeen close_done
