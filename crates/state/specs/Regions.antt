-- The regions of the store (document 01, The events): each lies behind those before it, and all within their whole length.
-- Assumes nothing.
use Rattle.std.specs.Prelude.{◌≡◌, ℕ, zero, suc, ◌+◌, ◌-◌, ◌≤◌, ◌<◌, min}
use Rattle.std.proofs.Common.{ap, arith, add-zero, add-suc}
use Rattle.state.specs.Manager.{Manager}
use Rattle.state.specs.Manager.{settings_at, base, regions}

module _ (m : Manager) where
  base_on : (i d : ℕ) → base m i ≤ base m (i + d)
  base_on i zero = rw add-zero (omega arith)
  base_on i (suc d) = rw add-suc (omega (arith, base_on i d))

  -- a later region starts no earlier
  pub base_grows : (i n : ℕ) → i ≤ n → base m i ≤ base m n
  base_grows i n h =
      let e : i + (n - i) ≡ n = omega arith in
      rw e at (base_on i (n - i))

  -- a region ends before those behind it, and within the length of all
  pub region_within : (i n : ℕ) → i < n → base m i + (settings_at m i).limit ≤ base m n
  region_within i n h = base_grows (suc i) n (omega arith)

  -- with at most eight routes all of them have a region
  pub regions_all : m.count ≤ 8 → regions m ≡ base m m.count
  regions_all h =
      let e : min m.count 8 ≡ m.count = omega arith in
      ap (base m) e
