use Rattle.std.proofs.Common.{◌≡◌, ◌∙◌, ap, ◌+◌, ◌*◌, arith}
use Rattle.refusals.specs.Below.{all_below}
use Rattle.routing.specs.Prefix.{same_in, word_same, word_differs, words_end}
use Rattle.routing.proofs.same_first.Goals as goal

pub returns-then-part-i : goal.returns-then-part-i
returns-then-part-i c =
    let l = c.loop-i in
    let d = c.same_before.ensures in
    d.is ∙ word_differs c.args.part.now c.args.five.now l.i l.invariant d.at c.args.n d.differs

pub returns-then-n-from : goal.returns-then-n-from
returns-then-n-from c =
    let l = c.loop-i in
    let xs = c.args.part.now in
    let ks = c.args.five.now in
    words_end xs ks (4 * l.i + 4) c.args.n (word_same xs ks l.i l.invariant c.if-part-i.false) (omega arith)

pub loop-i-preserved : goal.loop-i-preserved
loop-i-preserved c =
    let l = c.loop-i in
    let xs = c.args.part.now in
    let ks = c.args.five.now in
    let e : 4 * (l.i + 1) ≡ 4 * l.i + 4 = omega arith in
    ap (all_below (same_in xs ks)) e ∙ word_same xs ks l.i l.invariant c.if-part-i.false

pub returns : goal.returns
returns c =
    let l = c.loop-i in
    words_end c.args.part.now c.args.five.now (4 * l.i) c.args.n l.invariant (omega arith)
