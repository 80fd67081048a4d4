-- `filename::reading::before_stop` meets its contract: the first stop, or all n octets without one. Assumes nothing.
use Rattle.std.proofs.Common.{sym, ◌∙◌, arith}
use Rattle.filename.specs.Places.{before_all, before_is}
use Rattle.filename.proofs.reading.before_stop.Goals as goal

pub returns-then-octet_at-stop : goal.returns-then-octet_at-stop
returns-then-octet_at-stop c =
    let a = c.args in
    (sym (before_is a.stop a.name.now a.k c.loop-i.i a.n (omega arith) c.loop-i.invariant (sym c.octet_at.ensures ∙ c.if-octet_at-stop.true)), omega arith)

pub returns : goal.returns
returns c =
    let a = c.args in
    (sym (before_all a.stop a.name.now a.k a.n (λ j l. c.loop-i.invariant j (omega (arith, l)))), omega arith)
