use Rattle.std.proofs.Common.{◌≡◌, sym, ap, ◌∙◌, arith, length-set, subst, [], ◌∷◌, ◌++◌, ◌<◌, length, MatchOption}
use Rattle.textlines.specs.Words.{word_of}
use Rattle.showanswers.specs.Line.{word_at, printed_number}
use Rattle.showanswers.proofs.Numbers.{word_taken, number_taken}
use Rattle.showanswers.proofs.input.numbers_of.Goals as goal

pub loop-number-preserved : goal.loop-number-preserved
loop-number-preserved g c =
    let l = c.loop-number in
    let old = l.words.rest.now in
    let new = c.word.new.self.rest.now in
    let taken = subst (λ r. MatchOption r ((word_of old ≡ []) × (new ≡ old)) (λ word. (word.now ≡ word_of old) × (0 < length word.now) × (old ≡ 32 ∷ word.now ++ new))) c.in_ok-word.ensures.ok_part c.word.ensures in
    let at : c.in_ok-word.word.now ≡ word_at l.number-index c.args.rest.now = taken.0 ∙ ap word_of l.invariant.0 in
    let number = sym (ap printed_number at) ∙ sym c.printed_number.ensures ∙ c.in_ok-number.ensures.ok_part in
    (word_taken l.number-index c.args.rest.now old new c.in_ok-word.word.now l.invariant.0 taken.0 taken.2, number_taken l.number-items c.args.rest.now l.number-index _ (omega (arith, c.loop-number-test.true, l.invariant.2)) number l.invariant.1, length-set l.number-items l.number-index _ ∙ l.invariant.2)
