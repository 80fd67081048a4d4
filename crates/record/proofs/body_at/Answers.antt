-- `record::body_at` meets its contract: where a whole record is found, its lengths lie within the file. Assumes nothing.
use mathlib.Core.Path.{◌≡◌, ◌∙◌, sym, ap, refl}
use Prim.Native.Nat.{◌+◌, ◌-◌}
use native.Mathlib.Omega.{arith}
use lib.ListN.{take, drop}
use Rattle.record.specs.Step.{stepped, header_at, body_length_at, cut, refused_step, Taken, taken, untaken, body_cut, body_whole}
use Rattle.std.specs.Prelude.{Some}
use Rattle.record.proofs.body_at.Goals as goal
use Rattle.record.proofs.body_at.Goals.{In-Some}

-- what the record that was found says of the rest of the file
within : (c : goal.In-Some) → Taken c.rest_at-part.result.now (stepped (Some c.in-Some.found))
within c = taken _ _ c.in-Some.ensures refl

pub returns-in_default : goal.returns-in_default
returns-in_default c =
    sym (body_cut c.args.file.now c.args.at (ap cut (sym c.rest_at-part.ensures) ∙ untaken _ refused_step c.in_default.ensures (λ z. absurd (omega (arith, z)))))

pub overflow_add-end : goal.overflow_add-end
overflow_add-end c = omega (arith, (within (goal.at.overflow_add-end c).In-Some).within)

pub slice_bounds-result-end-2 : goal.slice_bounds-result-end-2
slice_bounds-result-end-2 c = omega (arith, (within (goal.at.slice_bounds-result-end-2 c).In-Some).within)

pub returns : goal.returns
returns c =
    let file = c.args.file.now in
    let at = c.args.at in
    let part = c.rest_at-part.result.now in
    let rest = c.rest_at-part.ensures in
    let f = within (goal.at.returns c).In-Some in
    let header = c.in-Some.found.header in
    let n : header + c.in-Some.found.body - header ≡ body_length_at part = omega (arith, f.body) in
    (λ i. take (n i) (drop (f.header i) part))
    ∙ (λ i. take (body_length_at (rest i)) (drop (header_at (rest i)) (rest i)))
    ∙ sym (body_whole file at (ap cut (sym rest) ∙ f.whole))
