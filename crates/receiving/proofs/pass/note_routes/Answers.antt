use Prim.Native.Nat.{ℕ}
use mathlib.Core.Path.{◌≡◌, ap, ◌∙◌}
use native.Mathlib.Omega.{arith}
use Rattle.words.specs.Words.{manager_in, words_of}
use Rattle.receiving.specs.Told.{noted_to, noting_begins, noting_room, noting_turn}
use Rattle.receiving.proofs.pass.note_routes.Goals as goal

pub loop-i-init : goal.loop-i-init
loop-i-init c = noting_begins _ _ c.told-words

pub note_route-requires : goal.note_route-requires
note_route-requires c =
    let room = noting_room c.args.words.now c.args.n c.loop-i.invariant c.loop-i-test.true c.requires.0 c.requires.1 in
    (omega (arith, c.requires.0, c.loop-i-test.true), room)

pub loop-i-preserved : goal.loop-i-preserved
loop-i-preserved c = noting_turn _ _ c.loop-i.invariant c.loop-i-test.true c.requires.0 c.note_route.ensures

pub returns : goal.returns
returns c =
    let l = c.loop-i in
    let a = c.args in
    let e : l.i ≡ a.n = omega (arith, l.invariant.below) in
    l.invariant.words ∙ ap (λ (k : ℕ). words_of (noted_to (manager_in a.words.now) k)) e
