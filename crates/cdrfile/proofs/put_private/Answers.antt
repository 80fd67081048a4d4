-- `cdrfile::put_private` meets its contract: the length and the octets behind it are one splice. Assumes nothing.
use mathlib.Core.Path.{refl, ◌∙◌, ap, sym}
use mathlib.Core.List.{List}
use Prim.Native.Nat.{ℕ, ◌+◌}
use native.Mathlib.Omega.{arith}
use lib.ListN.{length}
use Rattle.octets.specs.Number.{be}
use Rattle.octets.specs.Splice.{splice, splice_nil, splice_then}
use Rattle.cdrfile.specs.Laws.{private_none, private_some, private_some_length}
use Rattle.cdrfile.proofs.put_private.Goals as goal

pub returns-then-statement-eq0 : goal.returns-then-statement-eq0
returns-then-statement-eq0 c =
    let a = c.args in
    sym (ap (splice a.output.now a.at) (private_none a.statement a.private.now c.if-statement-eq0.true) ∙ splice_nil a.output.now a.at)

pub copy-requires : goal.copy-requires
copy-requires c =
    omega (arith, c.requires, ap length c.be.ensures, private_some_length c.args.statement c.args.private.now c.if-statement-eq0.false)

pub copy-requires-2 : goal.copy-requires-2
copy-requires-2 c =
    omega (arith, c.requires, c.copy.auto.dst, private_some_length c.args.statement c.args.private.now c.if-statement-eq0.false)

pub returns : goal.returns
returns c =
    let a = c.args in
    let some = c.if-statement-eq0.false in
    let n = private_some_length a.statement a.private.now some in
    let two = be 2 (length a.private.now) in
    c.copy-2.ensures
    ∙ ap (λ (o : List ℕ). splice o (a.at + 2) a.private.now) (c.copy.ensures ∙ ap (splice a.output.now a.at) c.be.ensures)
    ∙ splice_then a.output.now a.at two (omega (arith, c.requires)) a.private.now (a.at + 2) refl
    ∙ ap (splice a.output.now a.at) (sym (private_some a.statement a.private.now some))
