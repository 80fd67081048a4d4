-- `wording::lost::lay_phrase` meets its contract: each arm is a phrase, the second one for 1 to 126 and one for 127.
use Rattle.std.proofs.Common.{sym, ap, ℕ, ◌-◌, arith}
use Rattle.numerals.specs.Decimal.{decimal}
use Rattle.wording.specs.Laid.{laid_then, laid_of, laid_as}
use Rattle.wording.specs.Lost.{phrase_words, words_least, phrase_exactly, phrase_many}
use Rattle.wording.proofs.lost.lay_phrase.Goals as goal

pub returns-in-1-to-127 : goal.returns-in-1-to-127
returns-in-1-to-127 c =
    let v = c.lay-a.ensures in
    let n = laid_of decimal (sym c.from.ensures) c.lay_number-b.ensures.0 in
    let w = c.lay-in-1-to-127.ensures in
    laid_as (words_least c.args.octet (λ z. omega arith) (omega arith)) (laid_then (omega (arith, c.requires)) v (laid_then v.within n w))

pub returns-in-129-to-254 : goal.returns-in-129-to-254
returns-in-129-to-254 c =
    let v = c.lay-a-in-129-to-254.ensures in
    let n = laid_of decimal (ap (λ (k : ℕ). k - 128) (sym c.from-in-129-to-254.ensures)) c.lay_number.ensures.0 in
    let e = phrase_exactly c.args.octet (λ z. omega arith) (omega arith) (omega arith) in
    laid_as (ap phrase_words e) (laid_then (omega (arith, c.requires)) v n)

pub returns-in-255 : goal.returns-in-255
returns-in-255 c = laid_as (ap phrase_words (phrase_many c.args.octet (omega arith))) c.lay-in-255.ensures
