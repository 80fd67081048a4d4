use mathlib.Core.Path.{◌≡◌, refl, sym, ◌∙◌}
use mathlib.Core.Bool.{cond}
use Prim.Native.Nat.{◌+◌}
use native.Mathlib.Omega.{arith}
use Rattle.words.specs.Words.{manager_in}
use Rattle.filing.specs.Closing.{closed_size}
use Rattle.events.specs.Met.{met}
use Rattle.events.specs.Rules.{ending}
use Rattle.events.specs.Events.{met_at}
use Rattle.manager.specs.Tick.{meetable, size_one}
use Rattle.manager.proofs.ticking.due_size.Goals as goal

pub is_met-met-requires : goal.is_met-met-requires
unfolding manager_in
is_met-met-requires c =
    meetable c.args.words.now c.told-words c.requires c.loop-i.i c.loop-i-test.true c.route_at-r.ensures.1 refl

pub loop-i-preserved : goal.loop-i-preserved
unfolding manager_in
loop-i-preserved c =
    let l = c.loop-i in
    let a = c.args in
    let m = manager_in a.words.now in
    let route = c.route_at-r.ensures.0 in
    let fell : c.is_met-met.result ≡ met_at m a.t l.i = c.is_met-met.ensures ∙ (λ k. met m.set_times l.i m.bias (route k).file.opened a.t) in
    let octets = c.end_octets-size.ensures.0 ∙ (λ k. cond (ending a.t (route k) (fell k)) (closed_size (route k)) 0) in (
      (λ k. l.invariant.0 k + octets k) ∙ sym (size_one m a.t l.i),
      omega (arith, l.invariant.1, c.end_octets-size.ensures.1),
    )
