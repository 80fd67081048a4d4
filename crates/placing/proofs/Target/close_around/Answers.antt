-- `placing::Target::close_around` meets its contract: what is written before a closing leaves the lengths as they were, and the
-- second file stands behind the first. Assumes nothing.
use Rattle.std.specs.Bool.{then_some}
use Rattle.std.proofs.Common.{◌≡◌, ap, length, ◌∙◌, arith}
use Rattle.octets.specs.Splice.{splice}
use Rattle.placing.specs.Files.{size_if}
use Rattle.placing.specs.Made.{carried_made}
use Rattle.placing.specs.Views.{plan_in, filled_by_number}
use Rattle.placing.proofs.Target.close_around.Goals as goal

pub returns : goal.returns
returns c =
    let x = c.args in
    let twenty : length x.self.route.settings.filter ≡ 20 = omega arith in (
      c.append.ensures,
      carried_made x.self.node x.self.from x.store.now x.output.now x.self.route (plan_in x.turn x.taker) x.h x.body.now c.requires twenty _
          (c.size_if-at.ensures.0 ∙ (λ i. size_if (c.is_some.ensures i) x.self.route))
          c.close_if.ensures
          (c.close_if-2.ensures ∙ (λ i. splice c.close_if.new.output c.size_if-at.result (filled_by_number x.taker.fills (c.then_some-full.ensures ∙ ap (then_some x.taker.fills) c.number.ensures) x.self.node x.taker.holding c.append.new.store x.self.from i))),
    )
