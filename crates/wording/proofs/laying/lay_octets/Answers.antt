-- `wording::laying::lay_octets` meets its contract: the digits of an octet more stand behind the others. Assumes nothing.
use Rattle.std.proofs.Common.{refl, rules, arith, take, length-take-le}
use Rattle.numerals.specs.Hexadecimal.{hex_length, hex_more}
use Rattle.wording.specs.Laid.{laid_none, laid_then, laid_as}
use Rattle.wording.proofs.laying.lay_octets.Goals as goal

pub loop-octet-init : goal.loop-octet-init
loop-octet-init c = (refl, laid_none (omega (arith, c.requires)))

pub lay_octet-end-requires : goal.lay_octet-end-requires
lay_octet-end-requires c =
    let l = c.loop-octet in
    let xs = c.args.octets.now in
    omega (arith, c.requires, l.invariant.0, l.invariant.1.ends, hex_length (take l.octet-index xs), length-take-le l.octet-index xs (omega arith), c.loop-octet-test.true)

pub loop-octet-preserved : goal.loop-octet-preserved
loop-octet-preserved c =
    let l = c.loop-octet in
    (search rules, laid_as (hex_more c.args.octets.now l.octet-index c.loop-octet-test.true) (laid_then (omega (arith, c.requires)) l.invariant.1 c.lay_octet-end.ensures))
