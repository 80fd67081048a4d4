-- TICK: where a manager and its store agree with a ledger, both close the same files, in route order, and agree behind it
-- (document 01, The events; The ledger of demand 3). Assumes nothing.
use Rattle.std.specs.Prelude.{◌≡◌, refl, Bool, true, false, cond, ◌&&◌, ◌||◌, List, [], ◌∷◌, ◌++◌, ℕ, zero, suc, ◌+◌, ◌≤◌, ◌<◌, ltb, length}
use Rattle.std.proofs.Common.{sym, ap, ◌∙◌, subst, append_assoc, append-nil, arith, length-append, ltb-false}
use Rattle.octets.specs.Splice.{splice}
use Rattle.refusals.specs.Refusal.{◌when◌, first, passed}
use Rattle.cdrfile.specs.File.{File, layout}
use Rattle.roundtrip.specs.Described.{RightFile}
use Rattle.state.specs.declared.Route.{Route}
use Rattle.state.specs.Manager.{Manager}
use Rattle.state.specs.Manager.{route_at, settings_at, base, effective, with_route}
use Rattle.state.specs.SetTimes.{set_within}
use Rattle.state.specs.Bounds.{route_right}
use Rattle.state.specs.Within.{within}
use Rattle.state.specs.Keep.{time_right}
use Rattle.filing.specs.Closing.{closed_file, closed_size}
use Rattle.events.specs.Met.{met}
use Rattle.events.specs.Rules.{closed_route, due}
use Rattle.events.specs.Events.{answered, met_at, ends, end_reason, Run, up_to, due_size, tick_rules, ticked, tick_of}
use Rattle.ledger.specs.Event.{tick_event}
use Rattle.ledger.specs.Ledger.{OpenFile, Current, none, some, Line, Ledger, line_at, file_from, close_line, with_line, Closing, Entry, lengths, due_file, one_came, minutes_at, goes_on, ends_with, close_by, close_due, tick_to, carried, needed_by, answer_of, entry_of}
use Rattle.ledger.specs.Ledger.{with_time as with_book_time, effective as book_time}
use Rattle.ledger.specs.Run.{happens, joined}
use Rattle.ledger.proofs.Agrees.{AgreesLine, Agrees}
use Rattle.ledger.proofs.Came.{met_came}
use Rattle.ledger.proofs.Lines.{line_live, close_agrees, due_agrees, ending_closed}
use Rattle.ledger.proofs.Regions.{last_right, settings_right_lem, route_other, line_other, agrees_with, agrees_time}
use Rattle.ledger.proofs.Refusals.{tick_refusal}
use Rattle.ledger.proofs.Steps.{AllRightFiles, Holds, answer_at, event_holds, common_passed, effective_right, time_same, state_kept}
use Rattle.ledger.proofs.StepClose.{file_same, size_same, right_file}

-- Files with one more behind them.
pub joined_snoc : (cs : List Closing) (c : Closing) → joined (cs ++ (c ∷ [])) ≡ joined cs ++ layout c.file
joined_snoc [] c = append-nil (layout c.file)
joined_snoc (d ∷ cs) c =
    ap (λ (xs : List ℕ). layout d.file ++ xs) (joined_snoc cs c) ∙ sym (append_assoc (layout d.file) (joined cs) (layout c.file))

pub lengths_snoc : (cs : List Closing) (c : Closing) → lengths (cs ++ (c ∷ [])) ≡ lengths cs + length (layout c.file)
lengths_snoc [] c = omega arith
lengths_snoc (d ∷ cs) c = omega (arith, lengths_snoc cs c)

pub right_snoc : (cs : List Closing) (c : Closing) → AllRightFiles cs → RightFile c.file → AllRightFiles (cs ++ (c ∷ []))
right_snoc [] c a r = (r, tt)
right_snoc (d ∷ cs) c a r = (a.0, right_snoc cs c a.1 r)

pub joined_length : (cs : List Closing) → length (joined cs) ≡ lengths cs
joined_length [] = refl
joined_length (c ∷ cs) = length-append (layout c.file) (joined cs) ∙ ap (λ (n : ℕ). length (layout c.file) + n) (joined_length cs)

-- What holds of both behind the routes below n, and of the size that the state says.
pub record Ticking (store : List ℕ) (m : Manager) (l : Ledger) (n : ℕ) (u : Run) (e : Entry) (needed : ℕ) : Type 0 where
  pub agrees : Agrees store u.manager e.ledger
  pub count : u.manager.count ≡ m.count
  pub last : u.manager.last ≡ m.last
  pub routes : (j : ℕ) → n ≤ j → route_at u.manager j ≡ route_at m j
  pub lines : (j : ℕ) → n ≤ j → line_at e.ledger j ≡ line_at l j
  pub octets : u.octets ≡ joined e.closings
  pub files : u.files ≡ length e.closings
  pub size : needed ≡ lengths e.closings
  pub right : AllRightFiles e.closings

module _ {store : List ℕ} {m : Manager} {l : Ledger} (a : Agrees store m l) where
  -- one route more
  module _ (t n : ℕ) (k : n < m.count) (u : Run) (e : Entry) (size : ℕ) (h : Ticking store m l n u e size) where
    quiet : Ticking store m l (suc n) u e (size + 0)
    quiet =
        record {
          agrees = h.agrees;
          count = h.count;
          last = h.last;
          routes = λ j low. h.routes j (omega arith);
          lines = λ j low. h.lines j (omega arith);
          octets = h.octets;
          files = h.files;
          size = omega (arith, h.size);
          right = h.right;
        }

    -- the route's file closed, with a reason
    abbrev shutting : ℕ → Run
    shutting reason =
        record {
          manager = with_route u.manager n (closed_route (route_at m n));
          octets = u.octets ++ closed_file m store n reason;
          files = u.files + 1;
        }

    module _ (f : OpenFile) (q : (line_at l n).current ≡ some f) (reason : ℕ) (small : reason < 256) where
      abbrev file : File
      file = file_from l (line_at l n) f reason

      abbrev shut : Line
      shut = close_line (line_at l n) file

      abbrev more : Closing
      more = record { route = n; file = file }

      abbrev on : Entry
      on = record { ledger = with_line e.ledger n shut; closings = e.closings ++ (more ∷ []) }

      close_keeps : Agrees store (with_route u.manager n (closed_route (route_at m n))) (with_line e.ledger n shut)
      close_keeps =
          let there : n < u.manager.count = omega (arith, h.count) in
          let same : route_at u.manager n ≡ route_at m n = h.routes n (omega arith) in
          let line : AgreesLine store (base u.manager n) (route_at m n) (line_at l n) =
          subst (λ (x : Line). AgreesLine store (base u.manager n) (route_at m n) x) (h.lines n (omega arith))
          (subst (λ (r : Route). AgreesLine store (base u.manager n) r (line_at e.ledger n)) same (h.agrees.lines n there)) in
          let settings : settings_at m n ≡ settings_at u.manager n = sym (ap (λ (r : Route). r.settings) same) in
          let right : route_right u.manager.last (closed_route (route_at m n)) ≡ true = λ j. settings_right_lem a n k j && true in
          subst (λ (x : ℕ). Agrees store (with_route u.manager n (closed_route (route_at m n))) (with_book_time (with_line e.ledger n shut) x)) h.agrees.time
          (agrees_with h.agrees n (closed_route (route_at m n)) shut u.manager.last there (close_agrees line file) settings
          (state_kept h.agrees n (closed_route (route_at m n)) u.manager.last there settings right (omega arith) (last_right h.agrees))
          (λ j low other. h.agrees.lines j low))

      closes : Ticking store m l (suc n) (shutting reason) on (size + closed_size (route_at m n))
      closes =
          record {
            agrees = close_keeps;
            count = h.count;
            last = h.last;
            routes = λ j low. route_other u.manager n (closed_route (route_at m n)) j (λ z. omega arith) ∙ h.routes j (omega arith);
            lines = λ j low. line_other e.ledger n shut j (λ z. omega arith) ∙ h.lines j (omega arith);
            octets =
                (λ j. h.octets j ++ file_same a n k f q reason j)
                ∙ sym (joined_snoc e.closings more);
            files = ap (λ (x : ℕ). x + 1) h.files ∙ sym (length-append e.closings (more ∷ []));
            size = (λ j. h.size j + size_same a n k f q reason j) ∙ sym (lengths_snoc e.closings more);
            right = right_snoc e.closings more h.right (right_file a n k f q reason small);
          }

    abbrev Next : Bool → ℕ → Entry → Type 0
    Next b reason d = Ticking store m l (suc n) (cond b (shutting reason) u) d (size + cond b (closed_size (route_at m n)) 0)

    -- by the two rules: the age, and a set minute
    by_rules : (f : OpenFile) (q : (line_at l n).current ≡ some f) (old cut : Bool)
        → Next (old || (true && cut)) (cond old 2 0) (close_by (cond old (ends_with 2) (cond cut (ends_with 0) goes_on)) l n (line_at l n) f e)
    by_rules f q true cut = closes f q 2 (omega arith)
    by_rules f q false true = closes f q 0 (omega arith)
    by_rules f q false false = quiet

    by_file : (c : Current) → (line_at l n).current ≡ c → Next (ends m t n) (end_reason m t n) (close_due l t n (line_at l n) c e)
    by_file none q = subst (λ (b : Bool). Next b (end_reason m t n) e) (sym (ending_closed (a.lines n k) q t (met_at m t n))) quiet
    by_file (some f) q =
        let o = line_live (a.lines n k) q in
        let old : due t (route_at m n) ≡ due_file t (line_at l n) f = due_agrees (a.lines n k) o t in
        let cut : met_at m t n ≡ one_came l.bias f.opened t (minutes_at l n) =
        (λ j. met m.set_times n (a.bias j) (o.opened j) t) ∙ met_came m.set_times n (minutes_at l n) (set_within m.set_times m.count (within m a.right).sets n k) (a.sets n k) l.bias f.opened t in
        subst (λ (z : Bool × Bool × Bool). Next (z.0 || (z.1 && z.2)) (cond z.0 2 0) (close_due l t n (line_at l n) (some f) e))
        (λ j. (sym old j, sym o.live j, sym cut j))
        (by_rules f q (due_file t (line_at l n) f) (one_came l.bias f.opened t (minutes_at l n)))

  -- the routes below n, at any time
  pub ticking : (t n : ℕ) → n ≤ m.count → Ticking store m l n (up_to m store t n) (tick_to l t n) (due_size m t n)
  ticking t zero h =
      record {
        agrees = a;
        count = refl;
        last = refl;
        routes = λ j low. refl;
        lines = λ j low. refl;
        octets = refl;
        files = refl;
        size = refl;
        right = tt;
      }
  ticking t (suc n) h =
      by_file t n (omega arith) (up_to m store t n) (tick_to l t n) (due_size m t n) (ticking t n (omega arith)) (line_at l n).current refl

  -- all of them
  pub ticking_all : (t : ℕ) → Ticking store m l m.count (up_to m store t m.count) (tick_to l t (length l.lines)) (due_size m t m.count)
  ticking_all t =
      subst (λ (n : ℕ). Ticking store m l m.count (up_to m store t m.count) (tick_to l t n) (due_size m t m.count)) a.count
      (ticking t m.count (omega arith))

-- TICK.
module _ {store : List ℕ} {m : Manager} {l : Ledger} (a : Agrees store m l) (output : List ℕ) (time : ℕ) where
  -- the files that close are as long in both, also at a time that is refused
  pub due_same : due_size m (effective m time) m.count ≡ needed_by l (tick_event time)
  due_same =
      (ticking_all a (effective m time)).size
      ∙ ap (λ (t : ℕ). lengths (tick_to l t (length l.lines)).closings) (time_same a time)

  tick_done : first (tick_rules m (length store) (length output) time) ≡ 0
      → (t : ℕ) × (t ≡ book_time l (tick_event time)) × Holds store output (ticked m store output time) (answer_at l t (tick_event time)) (carried l t (tick_event time))
  tick_done z =
      let t = effective m time in
      let needed = due_size m t m.count in
      let c = common_passed a (length store) time ((17 when ltb (length output) needed) ∷ []) z in
      let fits : needed ≤ length output = ltb-false (length output) needed (passed 16 (ltb (length output) needed) [] c.2).0 in
      let w = effective_right a time c.1 in
      let run = up_to m store t m.count in
      let entry = tick_to l t (length l.lines) in
      let i : Ticking store m l m.count run entry needed = ticking_all a t in (
        t,
        time_same a time,
        record {
          answers = λ j. answered 6 255 (i.files j) (i.size j) 0;
          agrees = agrees_time i.agrees t (time_right run.manager t i.agrees.right (omega (arith, i.last, w.0)) w.1);
          long = refl;
          writes = ap (splice output 0) i.octets;
          room = omega (arith, fits, i.size, joined_length entry.closings);
          right = i.right;
        },
      )

  pub tick_holds : Holds store output (happens m store output (tick_event time)) (answer_of l (length store) (length output) (tick_event time)) (entry_of l (length store) (length output) (tick_event time))
  unfolding tick_of
  tick_holds =
      event_holds output a (tick_event time) (due_size m (effective m time) m.count) (ticked m store output time)
      (first (tick_rules m (length store) (length output) time))
      (tick_refusal a (length output) time (due_size m (effective m time) m.count) due_same) (λ z. due_same) tick_done
