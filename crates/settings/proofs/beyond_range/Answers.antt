-- `settings::beyond_range` meets its contract: the bias is the fifth word, and the routes' test is the definition's. Assumes nothing.
use mathlib.Core.Bool.{not, ◌||◌}
use lib.Dec.{ltb}
use Rattle.words.specs.Words.{manager_in}
use Rattle.settings.proofs.beyond_range.Goals as goal

pub returns : goal.returns
unfolding manager_in
returns c = λ i. ltb 2878 (manager_in c.args.words.now).bias || not (c.routes_right-right.ensures i)
