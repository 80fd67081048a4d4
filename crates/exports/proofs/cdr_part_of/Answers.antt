-- `exports::cdr_part_of` meets its contract: the part's place by whether the part that `part_of` hands back is empty. Assumes
-- nothing.
use Rattle.exports.specs.Place.{part_none, part_found}
use Rattle.exports.proofs.cdr_part_of.Goals as goal

pub returns-then-part-eq0 : goal.returns-then-part-eq0
returns-then-part-eq0 c = part_none _ _ c.part_of-part.ensures c.if-part-eq0.true

pub returns : goal.returns
returns c = part_found _ _ c.part_of-part.ensures c.if-part-eq0.false
