-- Closing at set times of day (document 02, ask 6). The rule as the paper has it is `Met`: there is a time, after the file's opening and not after
-- the effective time, whose local minute of day is one of the route's set minutes. The events work it out (`met`) by counting: a set minute
-- has fallen in a file's time where it has fallen more often up to the effective time than up to the opening. `met_true` and `true_met`: the
-- two say the same, of every opening, effective time and offset. Assumes nothing.
use Rattle.std.specs.Prelude.{◌≡◌, ℕ, ◌+◌, ◌-◌, ◌*◌, ◌/◌, ◌%◌, ◌<◌, ◌≤◌, Bool, true, List, length, nat_lt}
use Rattle.std.proofs.Common.{arith, ltb-true, lt-ltb}
use Rattle.refusals.specs.Below.{any_below, any_one, one_any}
use Rattle.timestamp.specs.LocalTime.{local_time}
use Rattle.state.specs.SetTimes.{set_count, set_minute, SetWithin}
use Rattle.words.specs.Words.{manager_in}

-- how often the minute of day has fallen up to a time, from 1999-12-31 on, where local time begins
abbrev pub fallen : ℕ → ℕ → ℕ → ℕ
fallen bias minute time = (local_time time bias + 1440 - minute) / 1440

abbrev pub falls : ℕ → ℕ → ℕ → ℕ → Bool
falls bias minute opened time = nat_lt (fallen bias minute opened) (fallen bias minute time)

-- one of the set minutes of route i, the j-th
abbrev pub falls_at : List ℕ → ℕ → ℕ → ℕ → ℕ → ℕ → Bool
falls_at sets i bias opened time j = falls bias (set_minute sets i j) opened time

abbrev pub met : List ℕ → ℕ → ℕ → ℕ → ℕ → Bool
met sets i bias opened time = any_below (falls_at sets i bias opened time) (set_count sets i)

-- the paper's rule
pub record Met (sets : List ℕ) (i bias opened time : ℕ) : Type 0 where
  pub at : ℕ
  pub later : opened < at
  pub by : at ≤ time
  pub which : ℕ
  pub set : which < set_count sets i
  pub is : local_time at bias % 1440 ≡ set_minute sets i which

-- The two say the same.
module _ (bias minute opened time : ℕ) (day : minute ≤ 1439) where
  -- the last time that the minute fell
  abbrev last : ℕ
  last = 1440 * fallen bias minute time + minute - 1440 - bias - 1

  fell : fallen bias minute opened < fallen bias minute time → (opened < last) × (last ≤ time) × (local_time last bias % 1440 ≡ minute)
  fell h = (omega arith, omega arith, omega arith)

  falls_by : (at : ℕ) → opened < at → at ≤ time → local_time at bias % 1440 ≡ minute → fallen bias minute opened < fallen bias minute time
  falls_by at later by is = omega arith

module _ (sets : List ℕ) (i bias opened time : ℕ) (w : SetWithin sets i) where
  pub met_true : met sets i bias opened time ≡ true → Met sets i bias opened time
  met_true e =
      let o = any_one (falls_at sets i bias opened time) (set_count sets i) e in
      let minute = set_minute sets i o.at in
      let f = fell bias minute opened time (w.day o.at o.below) (ltb-true (fallen bias minute opened) (fallen bias minute time) o.holds) in
      record { at = last bias minute opened time (w.day o.at o.below); later = f.0; by = f.1; which = o.at; set = o.below; is = f.2 }

  pub true_met : Met sets i bias opened time → met sets i bias opened time ≡ true
  true_met m =
      let minute = set_minute sets i m.which in
      one_any (falls_at sets i bias opened time) (set_count sets i)
      (record {
        at = m.which;
        below = m.set;
        holds = lt-ltb (fallen bias minute opened) (fallen bias minute time) (falls_by bias minute opened time (w.day m.which m.set) m.at m.later m.by m.is);
      })

-- What the code needs to work it out.
pub record Meetable (words : List ℕ) (i bias opened time : ℕ) : Type 0 where
  pub number : length words ≡ 360
  pub route : i < 8
  pub offset : bias ≤ 2878
  pub sets : SetWithin (manager_in words).set_times i
  pub before : opened < 2147483648
  pub now : time < 2147483648
