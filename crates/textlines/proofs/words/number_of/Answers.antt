use Rattle.std.proofs.Common.{arith, rules, ◌∙◌, sym}
use Rattle.textlines.proofs.Decimal.{digit_too_great, none_left}
use Rattle.textlines.proofs.words.number_of.Goals as goal

pub returns-in_err-checked_mul : goal.returns-in_err-checked_mul
returns-in_err-checked_mul c =
    let l = c.loop-octet in
    let d = c.in_ok-digit.ensures.value in
    c.from_residual-in_err-checked_mul.ensures ∙ sym (digit_too_great l.number l.octet-index c.from.result c.in_ok-digit.digit c.args.digits.now c.loop-octet-test.true c.from.ensures d.0 d.1
    (omega (arith, c.in_err-checked_mul.ensures)) l.invariant.0)

pub returns-in_err-number : goal.returns-in_err-number
returns-in_err-number c =
    let l = c.loop-octet in
    let d = c.in_ok-digit.ensures.value in
    c.from_residual-in_err-number.ensures ∙ sym (digit_too_great l.number l.octet-index c.from.result c.in_ok-digit.digit c.args.digits.now c.loop-octet-test.true c.from.ensures d.0 d.1
    (omega (arith, c.in_err-number.ensures, c.in_ok-checked_mul.ensures)) l.invariant.0)

pub returns : goal.returns
returns c =
    let l = c.loop-octet in
    none_left l.number l.octet-index c.args.digits.now (search rules) (omega (arith, c.loop-octet-test.false)) l.invariant.1 l.invariant.0
