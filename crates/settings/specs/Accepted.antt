-- What accepted settings say of their manager (document 01, Settings; Refusals 1, 2, 3, 18 and 22): it has 1 to 8 routes, each in
-- range, closed and with a filter of its own. That they say so, and that it is within the bounds of refusal 18: proofs/Verdict.antt. Assumes nothing.
use Rattle.std.specs.Prelude.{◌≡◌, true, length}
use Rattle.std.proofs.Common.{◌∙◌, arith, get_or-set_same, get_or-set_other}
use mathlib.Core.List.{List}
use Prim.Native.Nat.{ℕ, zero, suc, ◌≤◌, ◌<◌}
use Rattle.std.proofs.Math.Decide.{ℕ_discrete}
use Rattle.octets.specs.Number.{num}
use Rattle.refusals.specs.Below.{all_below}
use Rattle.state.specs.Manager.{no_route, route_at}
use Rattle.state.specs.Bounds.{distinct}
use Rattle.settings.specs.Settings.{routes_in, sets_in, route_start, set_time_right, in_range, route_from, routes_from, manager_from}
use Rattle.settings.specs.Cases.{Shaped, routes_length}

-- the configured routes are those of the octets
pub route_from_lem : (xs : List ℕ) (n i : ℕ) → i < n → n ≤ 8 → route_at (manager_from xs n) i ≡ route_from xs (route_start i)
route_from_lem xs zero i h m = absurd (omega arith)
route_from_lem xs (suc n) i h m = elim (ℕ_discrete i n) [
  | yes e ↦
      let l : n < length (routes_from xs n) = rw (routes_length xs n) (omega arith) in
      rw e (get_or-set_same (routes_from xs n) n (route_from xs (route_start n)) no_route l)
  | no e ↦
      get_or-set_other (routes_from xs n) n i (route_from xs (route_start n)) no_route e ∙ route_from_lem xs n i (omega arith) (omega arith)
]

-- What accepted settings say.
pub record Accepted (xs : List ℕ) : Type 0 where
  pub shape : Shaped xs
  pub bias : num 2 xs 17 ≤ 2878
  pub range : in_range xs (routes_in xs) ≡ true
  pub filters : distinct (manager_from xs (routes_in xs)) (routes_in xs) ≡ true
  pub sets : all_below (set_time_right xs) (sets_in xs) ≡ true
