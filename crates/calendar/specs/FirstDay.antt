-- The first day number of each month, January 2000 having 0 (document 01, Timestamps): the sum of the months before it.
-- The public contract does not need this file: it has the laws by which days and months are counted. Assumes nothing.
use Rattle.std.specs.Prelude.{◌≡◌, refl, ℕ, zero, suc, ◌+◌, ◌<◌, ◌≤◌}
use Rattle.std.proofs.Common.{ap, ⊎_elim, le_of_eq, le_trans, le-add_right, eq-or-lt_of_le, le_of_suc-le-suc, lt_of_not-le, not-le_of_lt}
use Rattle.std.proofs.Math.Arith.{le-zero}
use Rattle.calendar.specs.Calendar.{month_days}

-- the first day of the month m
unfoldable pub first_day : ℕ → ℕ
first_day zero = 0
first_day (suc m) = first_day m + month_days m

pub first_zero : first_day 0 ≡ 0
unfolding first_day
first_zero = refl

-- the months end with 2099
pub all_days : first_day 1200 ≡ 36525
unfolding first_day month_days
all_days = refl

-- a month's first day and its days are the next month's first day
pub first_suc : (m : ℕ) → first_day (suc m) ≡ first_day m + month_days m
unfolding first_day
first_suc m = refl

-- a later month does not begin earlier
pub mono : (a b : ℕ) → a ≤ b → first_day a ≤ first_day b
unfolding first_day
mono a zero h = le_of_eq (ap first_day (le-zero h))
mono a (suc b) h =
    ⊎_elim (λ e. le_of_eq (ap first_day e)) (λ l. le_trans (mono a b (le_of_suc-le-suc l)) (le-add_right (first_day b) (month_days b))) (eq-or-lt_of_le h)

-- a month that begins earlier is earlier
pub below : (a b : ℕ) → first_day a < first_day b → a < b
below a b h = lt_of_not-le (λ g. not-le_of_lt h (mono b a g))
