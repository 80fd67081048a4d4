-- `settings::Settings::put_sets` meets its contract: before set time j the words have those before it, which are right. Assumes nothing.
use mathlib.Core.Path.{◌≡◌}
use mathlib.Core.Bool.{true}
use Rattle.refusals.specs.Below.{all_below}
use Rattle.settings.specs.Settings.{set_time_right}
use Rattle.settings.specs.Sets.{Setting}
use Rattle.settings.proofs.Settings.put_sets.Given as goal

abbrev pub invariant-loop-j : goal.invariant-loop-j
invariant-loop-j l = record { right : all_below (set_time_right l.self.octets.now) l.j ≡ true; setting : Setting l.self.octets.now l.self.routes l.j l.words }
