-- `settings::routes_in` meets its contract: the routes before n have their kind, and where the loop ends the next one is none.
-- Assumes nothing.
use mathlib.Core.Path.{◌≡◌}
use mathlib.Core.Bool.{true}
use Rattle.refusals.specs.Below.{all_below}
use Rattle.settings.specs.Settings.{kind_at}
use Rattle.settings.proofs.routes_in.Given as goal

abbrev pub invariant-loop-n : goal.invariant-loop-n
invariant-loop-n l = all_below (kind_at l.octets) l.n ≡ true
