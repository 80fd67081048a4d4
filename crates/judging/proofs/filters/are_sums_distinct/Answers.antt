use mathlib.Core.Path.{refl, ap, ◌∙◌}
use native.Mathlib.Omega.{arith}
use lib.ListN.{length-set}
use Rattle.refusals.specs.Below.{below_turn, below_end}
use Rattle.judging.specs.Sums.{filter_sum, sum_there, new_sum_at, sums_more, sum_among}
use Rattle.judging.proofs.filters.are_sums_distinct.Goals as goal

pub loop-i-init : goal.loop-i-init
loop-i-init c = record { room = refl; sums = λ i h. absurd (omega arith); differ = refl }

pub loop-i-preserved : goal.loop-i-preserved
loop-i-preserved c =
    let l = c.loop-i in
    let xs = c.args.words.now in
    let s = c.filter_sum-sum.result in
    let sum = c.filter_sum-sum.ensures ∙ ap filter_sum c.route_words.ensures ∙ sum_there xs l.i in
    let new = c.is_new_sum-differ.ensures ∙ sum_among xs l.sums l.i s sum l.invariant.sums in
    record {
      room = length-set l.sums l.i s ∙ l.invariant.room;
      sums = sums_more xs l.sums l.i s (omega arith) sum l.invariant.sums;
      differ = below_turn (new_sum_at xs) l.i l.invariant.differ new;
    }

pub returns : goal.returns
returns c =
    let l = c.loop-i in
    let a = c.args in
    below_end (new_sum_at a.words.now) l.i a.n l.invariant.differ (omega arith)
