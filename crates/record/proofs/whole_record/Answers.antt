-- `record::whole_record` meets its contract: each way out is a case of `cut`. Assumes nothing.
use mathlib.Core.Path.{◌≡◌, ◌∙◌, sym, ap}
use Prim.Native.Nat.{◌+◌, ◌/◌, ◌%◌}
use native.Mathlib.Omega.{arith}
use lib.ListN.{get_or}
use Rattle.record.specs.Release.{header_by}
use Rattle.record.specs.Step.{header_at, body_length_at, record_length_at, cut_short, cut_most, cut_body, cut_none, step_cut, step_whole}
use Rattle.record.proofs.whole_record.Goals as goal
use Rattle.record.proofs.whole_record.Goals.{After-extension_length-header}

-- the header's length, as the code and as the definition have it
header : (c : goal.After-extension_length-header) → 4 + c.extension_length-header.result ≡ header_at c.args.part.now
header c = ap (λ n. 4 + n) c.extension_length-header.ensures.is ∙ header_by (get_or c.args.part.now 2 0 / 32)

-- the body's length is not the reserved one
usual : (c : goal.After-extension_length-header) → body_length_at c.args.part.now ≡ 65535 → ⊥
usual c e = c.if-body-eq65535.false (c.num-body.ensures ∙ e)

-- header and body together
total : (c : goal.After-extension_length-header) → 4 + c.extension_length-header.result + c.num-body.result ≡ record_length_at c.args.part.now
total c = λ i. header c i + c.num-body.ensures i

pub returns-then-part-lt4 : goal.returns-then-part-lt4
returns-then-part-lt4 c = sym (step_cut _ (cut_short _ c.if-part-lt4.true))

pub returns-then-body-eq65535 : goal.returns-then-body-eq65535
returns-then-body-eq65535 c = sym (step_cut _ (cut_most _ c.if-part-lt4.false (sym c.num-body.ensures ∙ c.if-body-eq65535.true)))

pub returns-then-part-header : goal.returns-then-part-header
returns-then-part-header c =
    let s = (goal.at.returns-then-part-header c).After-extension_length-header in
    let t = total s in
    sym (step_cut _ (cut_body _ c.if-part-lt4.false (usual s) (omega (arith, c.if-part-header.true))))

pub returns : goal.returns
returns c =
    let s = (goal.at.returns c).After-extension_length-header in
    let t = total s in
    let part = c.args.part.now in
    (λ i. record { refusal = 0; fields = record { release = c.release_at-release.ensures i; format = get_or part 3 0 / 32; ts = get_or part 3 0 % 32 }; header = header s i; body = c.num-body.ensures i })
    ∙ sym (step_whole _ (cut_none _ c.if-part-lt4.false (usual s) (omega (arith, c.if-part-header.false))))
