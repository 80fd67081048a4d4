-- `writer::write_file` meets its contract: each way out is a case of the definition. A refusal returns before anything is written,
-- and the tests that were passed say what the layout needs. Assumes nothing.
use mathlib.Core.Path.{◌≡◌, refl, sym, ap, ◌∙◌}
use mathlib.Core.Bool.{false}
use Prim.Native.Nat.{ℕ, ◌+◌}
use native.Mathlib.Omega.{arith}
use lib.ListN.{length}
use Rattle.std.proofs.lemmas.Result.{err_from_is_err_and}
use Rattle.std.specs.Prelude.{Result, Ok, Err, Option}
use Rattle.std.specs.Option.{ok_or}
use Rattle.refusals.specs.declared.Refusal.{Refusal}
use Rattle.refusals.specs.declared.Refusal.TheVariants.{Record}
use Rattle.refusals.specs.Number.{number, needed as octets_needed}
use Rattle.record.specs.declared.Totals.{Totals}
use Rattle.record.specs.Walk.{Tallied, tally_of, found, answer_of as told}
use Rattle.cdrfile.specs.Order.{wrong_order}
use Rattle.writer.specs.declared.Written.{Written}
use Rattle.writer.specs.Writer.{after, wrong_fields, wrong_value, needed_octets}
use Rattle.writer.specs.Cases.{answered, Passed, write_unfit, write_wrong, write_cut, write_disordered, write_long, write_needing, write_done, written_made, short, header_most, layable}
use Rattle.writer.proofs.write_file.Goals as goal
use Rattle.writer.proofs.write_file.Goals.{After-header_length, In_ok-found, Else-disordered, Else-unfit, Else-wrong}

passed2 : (c : goal.Else-unfit) → wrong_fields c.args.h c.args.private.now ≡ false
passed2 c = sym c.wrong_fields-unfit.ensures ∙ c.if-unfit.false

passed10 : (c : goal.Else-wrong) → wrong_value c.args.h c.args.filter.now c.args.private.now ≡ false
passed10 c = sym c.wrong_value-wrong.ensures ∙ c.if-wrong.false

-- what the walk, the test of the order and the sum of the lengths give is what the definition asks
walked : (c : goal.After-header_length) → found c.in_ok-found.found ≡ tally_of c.args.records.now
walked c = ap (λ (o : Option Totals). told o) (sym c.in_ok-found.ensures.ok_part) ∙ c.tally.ensures

order : (c : goal.After-header_length)
    → wrong_order c.args.h.high c.args.h.low (tally_of c.args.records.now) ≡ c.wrong_order-disordered.result
order c = ap (wrong_order c.args.h.high c.args.h.low) (sym (walked c)) ∙ sym c.wrong_order-disordered.ensures

needed : (c : goal.After-header_length)
    → c.header_length.result + length c.args.records.now ≡ needed_octets c.args.h c.args.filter.now c.args.private.now c.args.records.now
needed c = ap (λ (n : ℕ). n + length c.args.records.now) c.header_length.ensures

passed : (c : goal.Else-disordered)
    → Passed c.args.h c.args.filter.now c.args.private.now c.args.records.now
passed c =
    let w = ap (λ (o : Option Totals). told o) (sym c.in_ok-found.ensures.ok_part) ∙ c.tally.ensures in
    record {
      fields = sym c.wrong_fields-unfit.ensures ∙ c.if-unfit.false;
      right = sym c.wrong_value-wrong.ensures ∙ c.if-wrong.false;
      whole = ap (λ (t : Tallied). t.refusal) (sym w);
      ordered = ap (wrong_order c.args.h.high c.args.h.low) (sym w) ∙ sym c.wrong_order-disordered.ensures ∙ c.if-disordered.false;
    }

-- how many records it found
count : (c : goal.After-header_length) → c.in_ok-found.found.count ≡ (tally_of c.args.records.now).count
count c = ap (λ (t : Tallied). t.count) (walked c)

-- what is answered where the walk finds no records
abbrev answer_of_walk : Result Totals Refusal → Written
answer_of_walk (Ok t) = answered 0 0
answer_of_walk (Err r) = answered (number r) (octets_needed r)

pub returns-then-unfit : goal.returns-then-unfit
returns-then-unfit c =
    let a = c.args in
    write_unfit a.h a.filter.now a.private.now a.records.now a.output.now (sym c.wrong_fields-unfit.ensures ∙ c.if-unfit.true)

pub returns-then-wrong : goal.returns-then-wrong
returns-then-wrong c =
    let a = c.args in
    write_wrong a.h a.filter.now a.private.now a.records.now a.output.now (passed2 (goal.at.returns-then-wrong c).Else-unfit)
    (sym c.wrong_value-wrong.ensures ∙ c.if-wrong.true)

pub header_length-requires : goal.header_length-requires
header_length-requires c =
    let a = c.args in
    let s = short a.h a.filter.now a.private.now (passed10 (goal.at.header_length-requires c).Else-wrong) in
    (omega (arith, s.0), omega (arith, s.1))

pub overflow_add-octets : goal.overflow_add-octets
overflow_add-octets c =
    let a = c.args in
    omega (arith, c.header_length.ensures, header_most a.h a.filter.now a.private.now (passed10 (goal.at.overflow_add-octets c).Else-wrong))

pub returns-in_err-found : goal.returns-in_err-found
returns-in_err-found c =
    let a = c.args in
    let e = err_from_is_err_and c.from_residual.result c.from_residual.ensures.1 in
    let none = c.in_err-found.ensures.ok_part in
    let broken = ap (λ (o : Option Totals). told o) (sym none) ∙ c.tally.ensures in
    rw (e.1, e.2)
    (ap (λ (r : Result Totals Refusal). after (answer_of_walk r) a.output.now) (c.in_err-found.ensures.value ∙ ap (λ (o : Option Totals). ok_or o Record) none)
    ∙ write_cut a.h a.filter.now a.private.now a.records.now a.output.now (passed2 (goal.at.returns-in_err-found c).Else-unfit) (passed10 (goal.at.returns-in_err-found c).Else-wrong)
    (λ z. absurd (omega (arith, ap (λ (t : Tallied). t.refusal) broken, z))))

pub returns-then-disordered : goal.returns-then-disordered
returns-then-disordered c =
    let a = c.args in
    write_disordered a.h a.filter.now a.private.now a.records.now a.output.now (passed2 (goal.at.returns-then-disordered c).Else-unfit) (passed10 (goal.at.returns-then-disordered c).Else-wrong)
    (ap (λ (t : Tallied). t.refusal) (sym (walked (goal.at.returns-then-disordered c).After-header_length))) (order (goal.at.returns-then-disordered c).After-header_length ∙ c.if-disordered.true)

pub returns-then-octets-gt1048576 : goal.returns-then-octets-gt1048576
returns-then-octets-gt1048576 c =
    let a = c.args in
    let n = needed (goal.at.returns-then-octets-gt1048576 c).After-header_length in
    write_long a.h a.filter.now a.private.now a.records.now a.output.now (passed (goal.at.returns-then-octets-gt1048576 c).Else-disordered) (omega (arith, c.if-octets-gt1048576.true))

pub returns-then-output-octets : goal.returns-then-output-octets
returns-then-output-octets c =
    let a = c.args in
    let n = needed (goal.at.returns-then-output-octets c).After-header_length in
    (λ i. after (answered 17 (n i)) a.output.now)
    ∙ write_needing a.h a.filter.now a.private.now a.records.now a.output.now (passed (goal.at.returns-then-output-octets c).Else-disordered)
    (omega (arith, c.if-octets-gt1048576.false)) (omega (arith, c.if-output-octets.true))

pub lay_out-requires : goal.lay_out-requires
lay_out-requires c =
    let a = c.args in
    let n = needed (goal.at.lay_out-requires c).After-header_length in
    layable a.h a.filter.now a.private.now a.records.now a.output.now (passed (goal.at.lay_out-requires c).Else-disordered).fields
    (omega (arith, c.if-octets-gt1048576.false)) (omega (arith, c.if-output-octets.false)) (count (goal.at.lay_out-requires c).After-header_length)

pub returns : goal.returns
returns c =
    let a = c.args in
    let n = needed (goal.at.returns c).After-header_length in
    written_made a.h a.filter.now a.private.now a.records.now a.output.now refl n c.lay_out.ensures (count (goal.at.returns c).After-header_length)
    ∙ write_done a.h a.filter.now a.private.now a.records.now a.output.now (passed (goal.at.returns c).Else-disordered)
    (omega (arith, c.if-octets-gt1048576.false)) (omega (arith, c.if-output-octets.false))
