-- The date of a local day, by walking the lengths of the months: document 01, Timestamps (000, 6.1.1.5, "according to the CGF's local time zone").
-- Days count from 1999-12-31, which is 0: local time may fall a day before 2000 and a day after 2099.
-- The standard names no calendar and no range of years. Document 01 has leap years in those divisible by 4, which is the civil calendar from 2000 to 2099.
-- Nothing here speaks of how the code finds a date: it works it out without a walk (document 02, ask 4). Assumes nothing.
use Rattle.std.specs.Prelude.{cond, List, [], ◌∷◌, ℕ, zero, suc, ◌+◌, ◌-◌, ◌/◌, ◌%◌, eqb, ltb, get_or}
use Rattle.calendar.specs.declared.Date.{Date}

-- days of the twelve months of a year that is no leap year, and of a leap year
abbrev pub common : List ℕ
common = 31 ∷ 28 ∷ 31 ∷ 30 ∷ 31 ∷ 30 ∷ 31 ∷ 31 ∷ 30 ∷ 31 ∷ 30 ∷ 31 ∷ []

abbrev pub leap : List ℕ
leap = 31 ∷ 29 ∷ 31 ∷ 30 ∷ 31 ∷ 30 ∷ 31 ∷ 31 ∷ 30 ∷ 31 ∷ 30 ∷ 31 ∷ []

-- the most days that a month, 1 to 12, has in any year, and 0 for a number that is no month: 29 February may always be, since no
-- year is written (document 02, ask 2)
abbrev pub longest : ℕ → ℕ
longest month = get_or (0 ∷ leap) month 0

-- days of the month m, counted from January 2000, which is 0; 2000 is divisible by 4, so a year is where its number after 2000 is
unfoldable pub month_days : ℕ → ℕ
month_days m = cond (eqb (m / 12 % 4) 0) (get_or leap (m % 12) 0) (get_or common (m % 12) 0)

-- the date d days after the first of the month m
abbrev pub day_of : ℕ → ℕ → Date
day_of m d = record { month = m % 12 + 1; day = d + 1 }

-- the same where d may lie beyond the month: the walk passes at most n months
unfoldable pub date_from : ℕ → ℕ → ℕ → Date
date_from zero m d = day_of m d
date_from (suc n) m d = cond (ltb d (month_days m)) (day_of m d) (date_from n (suc m) (d - month_days m))

-- the date n days after 1999-12-31, for n below 36,527: the walk passes the 1,200 months from January 2000 and ends on 2100-01-01
abbrev pub date_of : ℕ → Date
date_of zero = record { month = 12; day = 31 }
date_of (suc d) = date_from 1200 0 d
