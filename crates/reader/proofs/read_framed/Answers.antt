-- `reader::read_framed` meets its contract: the fields are those of the frame, and each way out is a rule of the list.
-- Assumes nothing.
use mathlib.Core.Path.{◌∙◌, sym, ap, refl}
use native.Mathlib.Omega.{arith}
use Rattle.std.specs.Prelude.{Result, Option}
use Rattle.std.specs.Option.{ok_or}
use Rattle.octets.specs.Number.{num}
use Rattle.refusals.specs.declared.Refusal.{Refusal}
use Rattle.refusals.specs.declared.Refusal.TheVariants.{Record}
use Rattle.refusals.specs.Number.{number, number_of, number_positive}
use Rattle.record.specs.declared.Totals.{Totals}
use Rattle.record.specs.Walk.{answer_of}
use Rattle.std.proofs.lemmas.Result.{err_from_is_err_and}
use Rattle.reader.specs.Reader.{refused_contents}
use Rattle.reader.specs.Frame.{Ready, ready, reads_value, reads_on, contents_is, settled_refused, frame_found}
use Rattle.reader.proofs.read_framed.Goals as goal
use Rattle.reader.proofs.read_framed.Goals.{Start}

facts : (s : goal.Start) → Ready s.args.file.now (frame_found s.args.f)
facts s = ready _ _ s.requires

pub overflow_add-private : goal.overflow_add-private
overflow_add-private c = omega (arith, (facts (goal.at.overflow_add-private c).Start).within, (facts (goal.at.overflow_add-private c).Start).ends)

pub header_of-header-requires : goal.header_of-header-requires
header_of-header-requires c =
    let r = facts (goal.at.header_of-header-requires c).Start in
    record { in_bounds = r.long; file_in_bounds = omega (arith, r.within, r.ends) }

pub returns-then-wrong_value : goal.returns-then-wrong_value
returns-then-wrong_value c =
    sym (reads_value _ _ c.requires c.header_of-header.ensures c.wrong_value.ensures c.if-wrong_value.true)

pub slice_bounds-tally-count : goal.slice_bounds-tally-count
slice_bounds-tally-count c = (facts (goal.at.slice_bounds-tally-count c).Start).within

pub slice_bounds-tally-start : goal.slice_bounds-tally-start
slice_bounds-tally-start c = (facts (goal.at.slice_bounds-tally-start c).Start).within

pub num-requires : goal.num-requires
num-requires c = omega (arith, (facts (goal.at.num-requires c).Start).long)

pub returns-in_err-t : goal.returns-in_err-t
returns-in_err-t c =
    let e = err_from_is_err_and c.from_residual.result c.from_residual.ensures.1 in
    let none = c.in_err-t.ensures.ok_part in
    rw (e.1, e.2)
    (ap (λ (r : Result Totals Refusal). refused_contents (number_of r)) (c.in_err-t.ensures.value ∙ ap (λ (o : Option Totals). ok_or o Record) none)
    ∙ sym (reads_on _ _ c.requires c.header_of-header.ensures c.wrong_value.ensures c.if-wrong_value.false (ap answer_of (sym none) ∙ c.tally.ensures) {count = num 4 c.args.file.now 18} {n = 11} refl refl))

pub returns-in_err-judge_records : goal.returns-in_err-judge_records
returns-in_err-judge_records c =
    let e = err_from_is_err_and c.from_residual-in_err-judge_records.result c.from_residual-in_err-judge_records.ensures.1 in
    let n = c.in_err-judge_records.field-0.0 in
    rw (e.1, e.2)
    (sym (settled_refused (number n) c.args.file.now (λ z. absurd (omega (arith, z, number_positive n))))
    ∙ sym (reads_on _ _ c.requires c.header_of-header.ensures c.wrong_value.ensures c.if-wrong_value.false (ap answer_of (sym c.in_ok-t.ensures.ok_part) ∙ c.tally.ensures) c.num.ensures c.in_err-judge_records.ensures))

pub overflow_sub-result : goal.overflow_sub-result
overflow_sub-result c = (facts (goal.at.overflow_sub-result c).Start).within

pub returns : goal.returns
returns c =
    let found = ap answer_of (sym c.in_ok-t.ensures.ok_part) ∙ c.tally.ensures in
    contents_is _ _ c.requires c.header_of-header.ensures c.wrong_value.ensures c.if-wrong_value.false found
    ∙ sym (reads_on _ _ c.requires c.header_of-header.ensures c.wrong_value.ensures c.if-wrong_value.false found c.num.ensures c.in_ok-judge_records.ensures)
