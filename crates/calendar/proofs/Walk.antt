-- The walk over the months ends at the month in which the day lies. Assumes nothing.
use mathlib.Core.Path.{◌≡◌, refl, ap}
use mathlib.Core.Bool.{Bool, true, false, cond}
use Prim.Native.Nat.{ℕ, zero, suc, ◌+◌, ◌-◌, ◌<◌, ◌≤◌}
use native.Mathlib.Omega.{arith}
use lib.Dec.{ltb}
use borrow.Author.Tests.{ltb-true, ltb-false}
use Rattle.calendar.specs.declared.Date.{Date}
use Rattle.calendar.specs.Calendar.{month_days, day_of, date_from}
use Rattle.calendar.specs.FirstDay.{first_day, first_suc, below}

by_test : {x y z : Date} (a b : ℕ) → (a < b → x ≡ z) → (b ≤ a → y ≡ z) → (t : Bool) → ltb a b ≡ t → cond t x y ≡ z
by_test a b f g true e = f (ltb-true a b e)
by_test a b f g false e = g (ltb-false a b e)

-- one day of one month, named twice
same_day : {m k d r : ℕ} → m ≡ k → d ≡ r → day_of m d ≡ day_of k r
same_day p s = λ i. day_of (p i) (s i)

-- the walk from the month m ends at the month k, if the day is the r-th of it, counted from 0; k may be the month behind those that it passes
pub walk_is : (n m d k r : ℕ) → m ≤ k → k ≤ m + n → first_day k + r ≡ first_day m + d → r < month_days k → date_from n m d ≡ day_of k r
unfolding date_from
walk_is zero m d k r mk kn e h =
    let p : m ≡ k = omega arith in
    let q : first_day m ≡ first_day k = ap first_day p in
    same_day p (omega arith)
walk_is (suc n) m d k r mk kn e h =
    by_test d (month_days m)
    (λ l.
    let u : k < suc m = below k (suc m) (omega (arith, first_suc m)) in
    let p : m ≡ k = omega arith in
    let q : first_day m ≡ first_day k = ap first_day p in
    same_day p (omega arith))
    (λ l.
    let u : suc m < suc k = below (suc m) (suc k) (omega (arith, first_suc m, first_suc k)) in
    walk_is n (suc m) (d - month_days m) k r (omega arith) (omega arith) (omega (arith, first_suc m)) h)
    (ltb d (month_days m)) refl
