use Rattle.std.proofs.Common.{◌≡◌, refl, sym, subst, ap, ◌∙◌, arith, List, ℕ, length, take, drop, length-drop}
use Rattle.std.specs.Prelude.{Some}
use Rattle.std.proofs.lemmas.List.{take-set}
use Rattle.record.specs.Step.{stepped, cut, refused_step, Taken, taken, untaken}
use Rattle.offsets.specs.Offsets.{placing_none, placing_on, placing_cut, placing_full}
use Rattle.offsets.proofs.place.Goals as goal
use Rattle.offsets.proofs.place.Goals.{In-Some}

-- what the record that was found says of the file from `at` on
found : (c : goal.In-Some) → Taken (drop c.loop-n.at c.args.file.now) (stepped (Some c.in-Some.whole))
found c = subst (λ (xs : List ℕ). Taken xs (stepped (Some c.in-Some.whole))) c.rest_at-rest.ensures (taken _ _ c.in-Some.ensures refl)

pub loop-n-init : goal.loop-n-init
loop-n-init c = placing_none c.args.file.now c.args.from c.args.out.now c.requires.0

pub returns-in_default : goal.returns-in_default
returns-in_default c =
    let a = c.args in
    let l = c.loop-n in
    (omega arith, take-set l.out l.n _ ∙ placing_cut a.file.now a.from l.out l.n l.at l.invariant (ap cut (sym c.rest_at-rest.ensures) ∙ untaken _ refused_step c.in_default.ensures (λ z. absurd (omega (arith, z)))))

pub overflow_add-at : goal.overflow_add-at
overflow_add-at c = omega (arith, (found (goal.at.overflow_add-at c).In-Some).within, length-drop c.loop-n.at c.args.file.now)

pub overflow_add-at-in-loop-n : goal.overflow_add-at-in-loop-n
overflow_add-at-in-loop-n c = omega (arith, (found (goal.at.overflow_add-at-in-loop-n c).In-Some).within, length-drop c.loop-n.at c.args.file.now)

pub loop-n-preserved : goal.loop-n-preserved
loop-n-preserved c =
    let a = c.args in
    let l = c.loop-n in
    placing_on a.file.now a.from l.out l.n l.at l.invariant (omega arith) (found (goal.at.loop-n-preserved c).In-Some)

pub returns : goal.returns
returns c =
    let a = c.args in
    let l = c.loop-n in
    let e : length a.out.now ≡ l.n = omega arith in
    (omega arith, ap (λ (k : ℕ). take k l.out) e ∙ placing_full a.file.now a.from l.out l.n l.at l.invariant (omega arith) (omega arith))
