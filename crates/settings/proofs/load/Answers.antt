-- `settings::load` meets its contract: the words of a state without routes are zeros. Assumes nothing.
use mathlib.Core.Path.{◌∙◌}
use Rattle.settings.specs.Cases.{no_words}
use Rattle.settings.proofs.load.Goals as goal

pub returns-in-Err : goal.returns-in-Err
returns-in-Err c = (λ i. record { refusal = c.number.ensures i; words = no_words i }) ∙ c.in-Err.ensures
