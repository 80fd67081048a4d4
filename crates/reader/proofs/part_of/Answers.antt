-- `reader::part_of` meets its contract: a part that does not lie within the file is the empty one. Assumes nothing.
use mathlib.Core.Path.{◌≡◌, ◌∙◌, sym}
use mathlib.Core.Logic.{⊎_elim}
use Prim.Native.Nat.{◌-◌, ◌≤◌}
use native.Mathlib.Omega.{arith}
use lib.ListN.{length, take, drop, length-drop}
use Rattle.std.proofs.Common.{take_all}
use Rattle.reader.specs.Parts.{part_past, part_over, part_within}
use Rattle.reader.proofs.part_of.Goals as goal
use Rattle.reader.proofs.part_of.Goals.{In-Some}

pub returns-in_default : goal.returns-in_default
returns-in_default c = sym (part_past c.args.file.now c.args.p (⊎_elim (λ h. h) (λ h. absurd (omega (arith, h))) c.in_default.ensures.lookup.0))

-- what the file has from the part's start on
rest : (c : goal.In-Some) → (c.args.p.start ≤ length c.args.file.now) × (length c.in-Some.rest.now ≡ length c.args.file.now - c.args.p.start) × (c.in-Some.rest.now ≡ drop c.args.p.start c.args.file.now)
rest c =
    let g = c.in-Some.ensures.lookup.0 in
    (g.0, omega (arith, g.3), g.2 ∙ take_all _ _ (omega (arith, length-drop c.args.p.start c.args.file.now)))

pub returns-in_default-get : goal.returns-in_default-get
returns-in_default-get c =
    let r = rest (goal.at.returns-in_default-get c).In-Some in
    sym (part_over c.args.file.now c.args.p (⊎_elim (λ h. absurd (omega (arith, h))) (λ h. omega (arith, r.1, h)) c.in_default-get.ensures.lookup.0))

pub returns : goal.returns
returns c =
    let r = rest (goal.at.returns c).In-Some in
    let g = c.in-Some-get.ensures.lookup.0 in
    let n : c.args.p.octets - 0 ≡ c.args.p.octets = omega arith in
    g.2
    ∙ (λ i. take (n i) (r.2 i))
    ∙ sym (part_within c.args.file.now c.args.p r.0 (omega (arith, r.1, g.1)))
