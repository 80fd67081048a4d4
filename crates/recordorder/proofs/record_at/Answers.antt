-- `recordorder::record_at` meets its contract: where a whole record is found, it lies within the file.
use Rattle.std.proofs.Common.{◌≡◌, ◌∙◌, refl, sym, ap, arith, ◌+◌, ◌-◌, take}
use Rattle.std.specs.Prelude.{Some}
use Rattle.record.specs.Step.{stepped, cut, refused_step, record_length_at, Taken, taken, untaken}
use Rattle.recordorder.specs.At.{at_cut, at_whole}
use Rattle.recordorder.proofs.record_at.Goals as goal
use Rattle.recordorder.proofs.record_at.Goals.{In-Some}

-- what the record that was found says of the rest of the file
found : (c : goal.In-Some) → Taken c.rest_at-part.result.now (stepped (Some c.in-Some.whole))
found c = taken _ _ c.in-Some.ensures refl

pub returns-in_default : goal.returns-in_default
returns-in_default c =
    let e = c.rest_at-part.ensures in
    e ∙ sym (at_cut c.args.file.now c.args.at (ap cut (sym e) ∙ untaken _ refused_step c.in_default.ensures (λ z. absurd (omega (arith, z)))))

pub overflow_add-end : goal.overflow_add-end
overflow_add-end c = omega (arith, (found (goal.at.overflow_add-end c).In-Some).within)

pub slice_bounds-result-end : goal.slice_bounds-result-end
slice_bounds-result-end c = omega (arith, (found (goal.at.slice_bounds-result-end c).In-Some).within)

pub returns : goal.returns
returns c =
    let a = c.args in
    let e = c.rest_at-part.ensures in
    let f = found (goal.at.returns c).In-Some in
    let n : c.in-Some.whole.header + c.in-Some.whole.body - 0 ≡ record_length_at c.rest_at-part.result.now = omega (arith, f.header, f.body) in
    (λ i. take (n i) c.rest_at-part.result.now)
    ∙ (λ i. take (record_length_at (e i)) (e i))
    ∙ sym (at_whole a.file.now a.at (ap cut (sym e) ∙ f.whole))
