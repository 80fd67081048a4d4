-- `exports::cdr_body_at` meets its contract: where the step finds a record, its header lies within the file. Assumes nothing.
use native.Mathlib.Omega.{arith}
use lib.ListN.{length-drop}
use Rattle.record.specs.Step.{taken}
use Rattle.exports.specs.Place.{place_found, place_none}
use Rattle.exports.proofs.cdr_body_at.Goals as goal

pub returns-then-s-ne0 : goal.returns-then-s-ne0
returns-then-s-ne0 c = place_none _ _ c.step_at-s.ensures c.body_at-body.ensures c.if-s-ne0.true

pub overflow_add-result : goal.overflow_add-result
overflow_add-result c =
    let a = c.args in
    let f = taken _ _ c.step_at-s.ensures c.if-s-ne0.false in
    omega (arith, f.within, f.some, length-drop a.at a.file.now)

pub returns : goal.returns
returns c = place_found _ _ c.step_at-s.ensures c.body_at-body.ensures c.if-s-ne0.false
