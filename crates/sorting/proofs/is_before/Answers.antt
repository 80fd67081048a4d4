-- `sorting::is_before` meets its contract: to come before is that the answer is `Less`.
use Rattle.std.proofs.Common.{ap, ◌∙◌, ℕ}
use Rattle.std.specs.Prelude.{eqb}
use Rattle.sorting.specs.Sorted.{is_less}
use Rattle.sorting.proofs.is_before.Goals as goal

pub returns : goal.returns
returns c = c.is_lt.ensures ∙ is_less c.compare.result ∙ ap (λ (n : ℕ). eqb n 0) c.compare.ensures
