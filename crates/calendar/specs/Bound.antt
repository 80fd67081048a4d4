-- The law of a date's bounds: month 1 to 12, and a day that exists in its month (document 01, Timestamps; document 02, ask 2), for every
-- day that local time may fall on. It is looser than the calendar: 29 February is a day of every year here. Assumes nothing.
use Rattle.std.specs.Prelude.{◌≡◌, refl, Bool, true, false, cond, ◌∷◌, ℕ, zero, suc, ◌+◌, ◌-◌, ◌/◌, ◌%◌, ◌<◌, ◌≤◌, ltb, eqb, get_or}
use Rattle.std.proofs.Common.{sym, ap, ◌∙◌, add-zero, add-one, arith, lit≤, ltb-true, ltb-false, eq-eqb}
use Rattle.calendar.specs.declared.Date.{Date}
use Rattle.calendar.specs.Every.{within_at, above_at, below_at}
use Rattle.calendar.specs.Calendar.{common, leap, longest, month_days, day_of, date_from, date_of}
use Rattle.calendar.specs.FirstDay.{first_day, first_zero, first_suc, all_days}

-- a date's month is 1 to 12, and its day 1 to the month's longest
pub record Bounded (d : Date) : Type 0 where
  pub month_low : 1 ≤ d.month
  pub month_high : d.month ≤ 12
  pub day_low : 1 ≤ d.day
  pub day_high : d.day ≤ longest d.month

cond_le : (b : ℕ) (t : Bool) {x y : ℕ} → x ≤ b → y ≤ b → cond t x y ≤ b
cond_le b true p q = p
cond_le b false p q = q

-- no month has more than 31 days
pub longest_le : (month : ℕ) → longest month ≤ 31
longest_le month = within_at 31 (0 ∷ leap) tt month

-- the place of a month in the table of the longest
month_place : (m : ℕ) → longest (m % 12 + 1) ≡ get_or leap (m % 12) 0
month_place m = ap longest (add-one (m % 12))

-- a month of any year is no longer than the longest
pub month_le : (m : ℕ) → month_days m ≤ longest (m % 12 + 1)
unfolding month_days
month_le m =
    let e = month_place m in
    let c : cond (eqb (m / 12 % 4) 0) (get_or leap (m % 12) 0) (get_or common (m % 12) 0) ≤ get_or leap (m % 12) 0 =
    cond_le (get_or leap (m % 12) 0) (eqb (m / 12 % 4) 0) (omega arith) (below_at common leap tt (m % 12)) in
    omega (arith, e, c)

-- and is as long in a leap year, as 2000 is, the year of the months 0 to 11
pub longest_reached : (k : ℕ) → k < 12 → longest (k + 1) ≡ month_days k
unfolding month_days
longest_reached k h =
    let y : k / 12 % 4 ≡ 0 = omega arith in
    let m : k % 12 ≡ k = omega arith in
    ap longest (add-one k) ∙ sym (rw (eq-eqb (k / 12 % 4) 0 y, m))

-- and each has a first day
first_there : (m : ℕ) → 1 ≤ longest (m % 12 + 1)
first_there m = omega (arith, month_place m, above_at 1 leap tt (m % 12) (omega arith))

day_bounded : (m d : ℕ) → d < longest (m % 12 + 1) → Bounded (day_of m d)
day_bounded m d h = record { month_low = omega arith; month_high = omega arith; day_low = omega arith; day_high = omega arith }

by_test : {x y : Date} (a b : ℕ) → (a < b → Bounded x) → (b ≤ a → Bounded y) → (t : Bool) → ltb a b ≡ t → Bounded (cond t x y)
by_test a b f g true e = f (ltb-true a b e)
by_test a b f g false e = g (ltb-false a b e)

-- the walk from the month m ends with a bounded date, if the day lies before the end of the n months or on the day after it
walk_bounded : (n m d : ℕ) → first_day m + d ≤ first_day (m + n) → Bounded (date_from n m d)
unfolding date_from
walk_bounded zero m d h = day_bounded m d (omega (arith, rw add-zero at h, first_there m))
walk_bounded (suc n) m d h =
    by_test d (month_days m)
    (λ l. day_bounded m d (omega (arith, month_le m)))
    (λ l.
    let p : m + suc n ≡ suc m + n = omega arith in
    let e : first_day (m + suc n) ≡ first_day (suc m + n) = ap first_day p in
    walk_bounded n (suc m) (d - month_days m) (omega (arith, first_suc m)))
    (ltb d (month_days m)) refl

-- the dates from 1999-12-31 to 2100-01-01 are bounded
pub date_bounded : (n : ℕ) → n < 36527 → Bounded (date_of n)
date_bounded zero h = record { month_low = lit≤ tt; month_high = lit≤ tt; day_low = lit≤ tt; day_high = lit≤ tt }
date_bounded (suc d) h = walk_bounded 1200 0 d (omega (arith, first_zero, all_days))
