-- `judging::filters::filter_sum` meets its contract: five words of 32 bits each have a sum of at most 35. Assumes nothing.
use Rattle.std.proofs.Common.{rules, tests, arith, take}
use Rattle.std.proofs.lemmas.Iterator.Adapters.{fits_from_length, at_most_from_yields_List}
use Rattle.std.proofs.lemmas.Iterator.{YieldsList-from_slice}
use Rattle.judging.proofs.filters.filter_sum.Goals as goal

pub sum-requires-clause-fits : goal.sum-requires-clause-fits
sum-requires-clause-fits c = fits_from_length _ _ 5 _ (at_most_from_yields_List (YieldsList-from_slice (take 5 c.args.part.now) cc) (grind arith)) c.map.ensures.closure (omega arith) (λ x r q k. search (rules, tests))
