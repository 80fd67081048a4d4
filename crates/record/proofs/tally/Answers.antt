use mathlib.Core.Path.{◌∙◌, ap, refl, sym}
use borrow.Author.Tests.{eqb-true, eqb-false}
use Prim.Native.Nat.{max, min}
use native.Mathlib.Omega.{arith}
use lib.ListN.{length-take, length-drop}
use Rattle.std.specs.Prelude.{Some}
use Rattle.record.specs.Step.{stepped, refused_step, Taken, taken, untaken}
use Rattle.record.specs.Walk.{answer_of, walking_none, walking_taken, walking_broken, walking_end}
use Rattle.record.proofs.tally.Goals as goal
use Rattle.record.proofs.tally.Goals.{In_ok-next}

-- what the next record says of the rest
within : (c : goal.In_ok-next) → Taken c.loop-rest.rest.now (stepped (Some c.in_ok-next.next))
within c = taken _ _ c.in_ok-next.ensures refl

pub loop-rest-init : goal.loop-rest-init
loop-rest-init c = walking_none _

pub returns-in_err-next : goal.returns-in_err-next
returns-in_err-next c =
    let l = c.loop-rest in
    ap answer_of c.from_residual.ensures
    ∙ walking_broken _ l.rest.now l.count l.high l.low (eqb-false _ 0 (sym c.loop-rest-test.ensures)) l.invariant (untaken _ refused_step c.in_err-next.ensures (λ z. absurd (omega arith)))

pub overflow_add-start : goal.overflow_add-start
overflow_add-start c = omega (arith, (within (goal.at.overflow_add-start c).In_ok-next).within)

pub slice_bounds-rest-count : goal.slice_bounds-rest-count
slice_bounds-rest-count c = (within (goal.at.slice_bounds-rest-count c).In_ok-next).within

pub slice_bounds-rest-start : goal.slice_bounds-rest-start
slice_bounds-rest-start c = (within (goal.at.slice_bounds-rest-start c).In_ok-next).within

pub loop-rest-smaller : goal.loop-rest-smaller
loop-rest-smaller c =
    let w = within (goal.at.loop-rest-smaller c).In_ok-next in
    simp (length-take, length-drop) (omega (arith, w.within, w.some))

pub loop-rest-preserved : goal.loop-rest-preserved
loop-rest-preserved c =
    let l = c.loop-rest in
    walking_taken _ l.rest.now l.count l.high l.low (eqb-false _ 0 (sym c.loop-rest-test.ensures)) l.invariant (within (goal.at.loop-rest-preserved c).In_ok-next)
    (c.max-high.ensures ∙ ap (max l.high) c.rank_of-rank.ensures)
    (c.min-low.ensures ∙ ap (min l.low) c.rank_of-rank.ensures)

pub returns : goal.returns
returns c =
    let l = c.loop-rest in
    walking_end _ l.rest.now l.count l.high l.low l.invariant (eqb-true _ 0 (sym c.loop-rest-test.ensures))
