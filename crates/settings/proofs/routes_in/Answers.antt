use mathlib.Core.Path.{◌≡◌, sym, ◌∙◌}
use native.Mathlib.Omega.{arith}
use Rattle.std.proofs.lemmas.Grind.{common_steps}
use Rattle.settings.specs.Cases.{routes_eight, routes_other}
use Rattle.settings.proofs.routes_in.Goals as goal

pub returns-then-ne : goal.returns-then-ne
returns-then-ne c =
    let l = c.loop-n in
    (routes_other c.args.octets.now l.n l.invariant (omega arith) (grind (arith, common_steps)), omega arith)

pub returns : goal.returns
returns c =
    let l = c.loop-n in
    let e : l.n ≡ 8 = omega arith in
    (sym e ∙ routes_eight c.args.octets.now l.n l.invariant e, omega arith)
