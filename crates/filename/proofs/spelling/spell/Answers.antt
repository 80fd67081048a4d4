-- `filename::spelling::spell` meets its contract: each part stands behind the one before it. Assumes nothing.
use mathlib.Core.Path.{ap, ◌∙◌}
use Prim.Native.Nat.{◌+◌}
use lib.ListN.{length}
use Rattle.octets.specs.Splice.{splice}
use Rattle.filename.specs.Cases.{spelled_made}
use Rattle.filename.proofs.spelling.spell.Goals as goal

pub returns : goal.returns
returns c =
    let a = c.args in
    spelled_made a.f a.node.now a.private.now a.output.now _ _ _ _ _ c.width_of-digits.result c.width_of-digits.ensures.0
    c.copy.ensures
    c.copy-2.ensures
    c.put_decimal.ensures
    (c.copy-3.ensures ∙ ap (splice c.put_decimal.new.output (length a.node.now + 3 + c.width_of-digits.result)) c.closing_of-closing.ensures)
    c.put_private.ensures
