-- `numerals::put_decimal` meets its contract: the last of ten digits are the number without leading zeros. Assumes nothing.
use mathlib.Core.Path.{ap, ◌∙◌}
use Rattle.octets.specs.Splice.{splice}
use Rattle.numerals.specs.Decimal.{decimal_part}
use Rattle.numerals.proofs.put_decimal.Goals as goal

pub returns : goal.returns
returns c =
    let a = c.args in
    let w = c.width_of-leading in
    c.copy.ensures
    ∙ ap (splice a.output.now a.at) (decimal_part a.n w.result c.digits-ten.result w.ensures.0 w.ensures.2 c.digits-ten.ensures)
