use mathlib.Core.Path.{◌≡◌, ap, ◌∙◌}
use Prim.Native.Nat.{ℕ}
use native.Mathlib.Omega.{arith}
use Rattle.words.specs.Words.{words_of}
use Rattle.settings.specs.Cases.{blank, blank_words, next_words, whole_words}
use Rattle.settings.proofs.Settings.fresh_words.Goals as goal

pub loop-i-init : goal.loop-i-init
loop-i-init c = blank_words c.args.self.now.octets.now

pub loop-i-preserved : goal.loop-i-preserved
loop-i-preserved c =
    let l = c.loop-i in
    c.copy.ensures ∙ next_words c.args.self.now.octets.now l.i (omega (arith, c.loop-i-test.true, c.args.self.now.most)) l.invariant c.route_words-route.ensures

pub returns : goal.returns
returns c =
    let l = c.loop-i in
    let a = c.args in
    let e : l.i ≡ a.self.now.routes = omega arith in
    c.copy-2.ensures
    ∙ whole_words a.self.now.octets.now a.self.now.routes (l.invariant ∙ ap (λ (k : ℕ). words_of (blank a.self.now.octets.now k)) e) c.node_words-node.ensures
