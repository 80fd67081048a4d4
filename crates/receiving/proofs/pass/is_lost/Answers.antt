-- `receiving::pass::is_lost` meets its contract: with mark 1 the first test decides, and with another the fields are within
-- their widths. Assumes nothing.
use mathlib.Core.Path.{ap, ◌∙◌}
use borrow.Author.Tests.{eq-eqb}
use Rattle.record.specs.declared.RecordHeader.{RecordHeader}
use Rattle.state.specs.Loss.{lost}
use Rattle.receiving.proofs.pass.is_lost.Goals as goal

pub returns-then-a-eq1 : goal.returns-then-a-eq1
returns-then-a-eq1 c = rw (eq-eqb _ _ c.if-a-eq1.true)

pub header_for-h-requires : goal.header_for-h-requires
header_for-h-requires c = c.requires c.if-a-eq1.false

pub returns : goal.returns
returns c =
    let a = c.args in
    c.is_lost.ensures ∙ ap (λ (h : RecordHeader). lost a.s.limit a.s.octets a.a.mark h.release a.body) c.header_for-h.ensures
