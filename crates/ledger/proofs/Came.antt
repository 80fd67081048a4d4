-- The ledger's rule for set times of day (Ledger, `one_came`) is the paper's (document 02, ask 6): there is a time, behind the file's
-- opening and not behind the effective time, whose local minute of day is one of the route's set minutes; and so it is that of the events
-- (events, Met). Assumes nothing.
use Rattle.std.specs.Prelude.{◌≡◌, refl, Bool, true, false, ◌||◌, List, [], ◌∷◌, ℕ, zero, suc, ◌%◌, ◌≤◌, ◌<◌, leb, length, get_or}
use Rattle.std.proofs.Common.{sym, ap, ◌∙◌, arith, leb-true, le-leb}
use Rattle.std.proofs.lemmas.Bool.{false≢true}
use Rattle.refusals.specs.Refusal.{or_left, or_right}
use Rattle.timestamp.specs.LocalTime.{local_time}
use Rattle.state.specs.SetTimes.{SetWithin}
use Rattle.words.specs.Laws.{same_test}
use Rattle.events.specs.Met.{met, met_true, true_met}
use Rattle.ledger.specs.Ledger.{next_with, one_came}
use Rattle.ledger.proofs.Agrees.{AgreesSets}

-- the paper's rule, of a list of set minutes
pub record Came (bias opened t : ℕ) (minutes : List ℕ) : Type 0 where
  pub at : ℕ
  pub later : opened < at
  pub by : at ≤ t
  pub which : ℕ
  pub set : which < length minutes
  pub is : local_time at bias % 1440 ≡ get_or minutes which 0

-- the minutes are of a day
abbrev pub OfDay : List ℕ → Type 0
OfDay minutes = (j : ℕ) → j < length minutes → get_or minutes j 0 ≤ 1439

module _ (bias opened minute : ℕ) (day : minute ≤ 1439) where
  next_is : local_time (next_with bias opened minute) bias % 1440 ≡ minute
  next_is = omega arith

  next_first : (at : ℕ) → opened < at → local_time at bias % 1440 ≡ minute → next_with bias opened minute ≤ at
  next_first at later is = omega arith

module _ (bias opened t : ℕ) where
  pub came_true : (minutes : List ℕ) → OfDay minutes → one_came bias opened t minutes ≡ true → Came bias opened t minutes
  came_true [] d e = absurd (false≢true e)
  came_true (minute ∷ minutes) d e = go (leb (next_with bias opened minute) t) refl (λ f. came_true minutes (λ j l. d (suc j) (omega arith)) f)
    where
      go : (b : Bool) → leb (next_with bias opened minute) t ≡ b → (one_came bias opened t minutes ≡ true → Came bias opened t minutes) → Came bias opened t (minute ∷ minutes)
      go true h rest =
          record {
            at = next_with bias opened minute;
            later = omega arith;
            by = leb-true (next_with bias opened minute) t h;
            which = 0;
            set = omega arith;
            is = next_is bias opened minute (d 0 (omega arith));
          }
      go false h rest =
          let c = rest (sym (ap (λ (b : Bool). b || one_came bias opened t minutes) h) ∙ e) in
          record { at = c.at; later = c.later; by = c.by; which = suc c.which; set = omega (arith, c.set); is = c.is }

  pub true_came : (minutes : List ℕ) → OfDay minutes → Came bias opened t minutes → one_came bias opened t minutes ≡ true
  true_came minutes d c = go minutes d c.which c.set c.is
    where
      go : (ms : List ℕ) → OfDay ms → (k : ℕ) → k < length ms → local_time c.at bias % 1440 ≡ get_or ms k 0 → one_came bias opened t ms ≡ true
      go [] d k h e = absurd (omega arith)
      go (x ∷ ms) d zero h e = or_left (one_came bias opened t ms) (le-leb (next_with bias opened x) t (omega (arith, next_first bias opened x (d 0 (omega arith)) c.at c.later e, c.by)))
      go (x ∷ ms) d (suc k) h e = or_right (leb (next_with bias opened x) t) (go ms (λ j l. d (suc j) (omega arith)) k (omega arith) e)

-- Set minutes of the state that agree with the ledger's: the events' rule and the ledger's say the same.
module _ (sets : List ℕ) (i : ℕ) (minutes : List ℕ) (w : SetWithin sets i) (a : AgreesSets sets i minutes) (bias opened t : ℕ) where
  days : OfDay minutes
  days j h = omega (arith, a.each j h, w.day j (omega (arith, a.count)))

  there : met sets i bias opened t ≡ true → one_came bias opened t minutes ≡ true
  there e =
      let m = met_true sets i bias opened t w e in
      let low : m.which < length minutes = omega (arith, m.set, a.count) in
      true_came bias opened t minutes days (record { at = m.at; later = m.later; by = m.by; which = m.which; set = low; is = m.is ∙ a.each m.which low })

  back : one_came bias opened t minutes ≡ true → met sets i bias opened t ≡ true
  back e =
      let c = came_true bias opened t minutes days e in
      true_met sets i bias opened t w
      (record { at = c.at; later = c.later; by = c.by; which = c.which; set = omega (arith, c.set, a.count); is = c.is ∙ sym (a.each c.which c.set) })

  pub met_came : met sets i bias opened t ≡ one_came bias opened t minutes
  met_came = same_test (met sets i bias opened t) (one_came bias opened t minutes) there back
