-- `judging::sets::set_right` meets its contract: more than 24 are not right, and of at most 24 each is looked at. Assumes nothing.
use borrow.Author.Rules.{rules}
use mathlib.Core.Path.{◌≡◌, sym, ap, ◌∙◌}
use mathlib.Core.Bool.{false}
use native.Mathlib.Omega.{arith}
use lib.Dec.{leb}
use borrow.Author.Tests.{lt-leb, le-leb}
use Rattle.refusals.specs.Below.{all_below}
use Rattle.state.specs.SetTimes.{set_count, set_minute, minute_right}
use Rattle.words.specs.Words.{manager_in}
use Rattle.judging.proofs.sets.set_right.Goals as goal

pub returns-then-n-gt24 : goal.returns-then-n-gt24
returns-then-n-gt24 c =
    let a = c.args in
    let sets = (manager_in a.words.now).set_times in
    let many : leb (set_count sets a.i) 24 ≡ false = lt-leb (set_count sets a.i) 24 (omega (arith, c.set_count-n.ensures, c.if-n-gt24.true)) in
    sym (rw many)

pub returns : goal.returns
returns c =
    let a = c.args in
    let sets = (manager_in a.words.now).set_times in
    let n = c.set_count-n in
    let few = le-leb (set_count sets a.i) 24 (omega (arith, n.ensures, c.if-n-gt24.false)) in
    let all = c.all_below.ensures (minute_right (set_minute sets a.i)) (λ j b l e. search rules) in
    all ∙ ap (all_below (minute_right (set_minute sets a.i))) n.ensures ∙ sym (rw few)
