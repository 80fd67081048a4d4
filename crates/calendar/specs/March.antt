-- The first day of a month, worked out (document 02, ask 4): no month before it is walked. Years are counted from March, so that a leap day is
-- the last day of its year. The law holds of every month, and its one evaluation is of the 48 months of four years. Assumes nothing.
use Rattle.std.specs.Prelude.{◌≡◌, refl, Bool, ℕ, zero, suc, ◌+◌, ◌*◌, ◌/◌, ◌%◌, T, eqb}
use Rattle.std.proofs.Common.{ap, arith, eqb→eq}
use Rattle.calendar.specs.Every.{passed, passed_at}
use Rattle.calendar.specs.Calendar.{month_days}
use Rattle.calendar.specs.FirstDay.{first_day}

-- days of y years from 1996-03-01: every four have 1,461, and the leap day stands at the end of the fourth
abbrev pub year_days : ℕ → ℕ
year_days y = 1461 * y / 4

-- days of the first m months of such a year, of twelve: every five have 153
abbrev pub march_days : ℕ → ℕ
march_days m = (153 * m + 2) / 5

-- days from 1996-03-01 to the first of the month m, which is counted from January 2000, 46 months after that March
unfoldable pub from_march : ℕ → ℕ
from_march m = year_days ((m + 46) / 12) + march_days ((m + 46) % 12)

-- four years on it is 1,461 days later
four_years : (a m : ℕ) → from_march (48 * a + m) ≡ 1461 * a + from_march m
unfolding from_march
four_years a m =
    let y : (48 * a + m + 46) / 12 ≡ 4 * a + (m + 46) / 12 = omega arith in
    let k : (48 * a + m + 46) % 12 ≡ (m + 46) % 12 = omega arith in
    let d : 1461 * (4 * a + (m + 46) / 12) / 4 ≡ 1461 * a + 1461 * ((m + 46) / 12) / 4 = omega arith in
    omega (arith, ap year_days y, ap march_days k)

-- and a month is as long
as_long : (m : ℕ) → month_days m ≡ month_days (m % 48)
unfolding month_days
as_long m =
    let y : m / 12 % 4 ≡ m % 48 / 12 % 4 = omega arith in
    let k : m % 12 ≡ m % 48 % 12 = omega arith in
    rw (y, k)

-- each of the 48 months ends where the next begins
abbrev stepping : ℕ → Bool
stepping m = eqb (from_march (suc m)) (from_march m + month_days m)

stepped : T (passed stepping 48)
unfolding from_march month_days
stepped = tt

-- and so each month
step : (m : ℕ) → from_march (suc m) ≡ from_march m + month_days m
step m =
    let b : ℕ = m % 48 in
    let e : from_march (suc b) ≡ from_march b + month_days b = eqb→eq _ _ (passed_at stepping 48 stepped b (omega arith)) in
    let n : m ≡ 48 * (m / 48) + b = omega arith in
    let f : suc m ≡ 48 * (m / 48) + suc b = omega arith in
    omega (arith, as_long m, ap from_march n, four_years (m / 48) b, ap from_march f, four_years (m / 48) (suc b))

-- the first day of every month, January 2000 being 1,401 days after 1996-03-01
pub first_worked : (m : ℕ) → 1401 + first_day m ≡ from_march m
unfolding first_day from_march
first_worked zero = refl
first_worked (suc m) = omega (arith, first_worked m, step m)
