-- The date that is worked out from a day's number is the date at which the walk over the months ends. Assumes nothing.
use mathlib.Core.Path.{◌≡◌, refl, sym, ap, ◌∙◌}
use mathlib.Core.Logic.{⊎_elim}
use Prim.Native.Nat.{ℕ, zero, suc, ◌+◌, ◌*◌, ◌-◌, ◌/◌, ◌%◌, ◌<◌, ◌≤◌, zero-le}
use native.Mathlib.Nat.{eq-or-lt_of_le}
use native.Mathlib.Omega.{arith}
use Rattle.calendar.specs.Calendar.{day_of, date_from, date_of}
use Rattle.calendar.specs.FirstDay.{first_day, first_zero, first_suc}
use Rattle.calendar.specs.March.{year_days, march_days, from_march, first_worked}
use Rattle.calendar.proofs.Walk.{walk_is}

-- the quarters of a day from 1996-03-01 to the last of the day n, which is counted from 1999-12-31
abbrev quarters : ℕ → ℕ
quarters n = 4 * (n + 1400) + 3

-- its day in its year from March
abbrev year_day : ℕ → ℕ
year_day n = quarters n % 1461 / 4

-- the month from March in which a day of such a year lies
abbrev month_at : ℕ → ℕ
month_at day = (5 * day + 2) / 153

-- the month m of the year y, both from March 1996, where it is not before January 2000
module _ (y m : ℕ) (in_year : m < 12) (late : 46 ≤ 12 * y + m) where
  -- counted from January 2000
  abbrev month : ℕ
  month = 12 * y + m - 46

  begins : 1401 + first_day month ≡ year_days y + march_days m
  unfolding from_march
  begins =
      let a : (month + 46) / 12 ≡ y = omega arith in
      let b : (month + 46) % 12 ≡ m = omega arith in
      rw (a, b) at (first_worked month)

  in_turn : (m + 2) % 12 ≡ month % 12
  in_turn = omega arith

-- the day d from 2000-01-01, up to 2100-01-01, in its year y, at whose q-th quarter of a day it ends
module _ (d y q : ℕ) (range : d < 36526) (in_year : q < 1461) (e : quarters (suc d) ≡ 1461 * y + q) where
  abbrev day : ℕ
  day = q / 4

  abbrev m : ℕ
  m = month_at day

  month_lt : m < 12
  month_lt =
      let a : day ≤ 365 = omega arith in
      omega arith

  -- not before January 2000, which is ten months into the year 3
  late : 46 ≤ 12 * y + m
  late =
      let a : 3 ≤ y = omega arith in
      ⊎_elim
      (λ s.
      let b : 306 ≤ day = omega arith in
      omega arith)
      (λ l. omega arith)
      (eq-or-lt_of_le a)

  -- nor after January 2100
  early : 12 * y + m ≤ 1246
  early =
      let a : y ≤ 103 = omega arith in
      ⊎_elim
      (λ s.
      let b : day ≤ 306 = omega arith in
      omega arith)
      (λ l. omega (arith, month_lt))
      (eq-or-lt_of_le a)

  -- the years before it and its day are all the days
  days : suc d + 1400 ≡ year_days y + day
  days = omega arith

  abbrev k : ℕ
  k = month y m month_lt late

  -- the next month, which may be the next year's March, begins behind it
  ends : d < first_day (suc k)
  ends =
      let a = late in
      ⊎_elim
      (λ s.
      let p : 12 * suc y + 0 - 46 ≡ suc k = omega arith in
      omega (arith, begins (suc y) 0 (omega arith) (omega arith), ap first_day p))
      (λ l.
      let p : 12 * y + suc m - 46 ≡ suc k = omega arith in
      let b : day < march_days (suc m) = omega arith in
      omega (arith, days, begins y (suc m) (omega arith) (omega arith), ap first_day p))
      (eq-or-lt_of_le month_lt)

  -- so the walk ends in its month
  walked : date_from 1200 0 d ≡ day_of k (day - march_days m)
  walked =
      let b : march_days m ≤ day = omega arith in
      let c = begins y m month_lt late in
      walk_is 1200 0 d k (day - march_days m) zero-le (omega (arith, early)) (omega (arith, first_zero, days)) (omega (arith, days, ends, first_suc k))

-- the date of every day, 1999-12-31 by evaluation
pub worked : (n : ℕ) → n < 36527
    → record { month = (month_at (year_day n) + 2) % 12 + 1; day = year_day n - march_days (month_at (year_day n)) + 1 } ≡ date_of n
worked zero h = refl
worked (suc d) h =
    let y : ℕ = quarters (suc d) / 1461 in
    let q : ℕ = quarters (suc d) % 1461 in
    let b : q < 1461 = omega arith in
    let e : quarters (suc d) ≡ 1461 * y + q = omega arith in
    let m : ℕ = month_at (q / 4) in
    let a = in_turn y m (month_lt d y q (omega arith) b e) (late d y q (omega arith) b e) in
    (λ i. record { month = a i + 1; day = q / 4 - march_days m + 1 }) ∙ sym (walked d y q (omega arith) b e)
