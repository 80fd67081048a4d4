-- `batch::take_at` meets its contract: the parts of the record stand in their places, and RECEIVE's inner function is given them. Assumes nothing.
use mathlib.Core.Path.{refl, ◌∙◌}
use Prim.Native.Nat.{◌+◌, ◌≤◌}
use native.Mathlib.Omega.{arith}
use lib.ListN.{length, get_or}
use Rattle.events.specs.Lent.{receive_on}
use Rattle.packets.proofs.Walk.{size_at, time_at, key_at, body_at}
use Rattle.batch.proofs.take_at.Goals as goal
use Rattle.batch.proofs.take_at.Goals.{After-num-body}

fits : (n : goal.After-num-body) → n.args.at + 15 + get_or n.args.packet.now (n.args.at + 5) 0 + n.num-body.result ≤ length n.args.packet.now
fits n = omega (arith, size_at n.args.packet.now n.args.at refl n.num-body.ensures, n.requires.1)

pub overflow_add-to : goal.overflow_add-to
overflow_add-to c = omega (arith, fits c)

pub slice_bounds-take-end : goal.slice_bounds-take-end
slice_bounds-take-end c = let f = fits (goal.at.slice_bounds-take-end c).After-num-body in omega arith

pub overflow_add-to-2 : goal.overflow_add-to-2
overflow_add-to-2 c = omega (arith, fits (goal.at.overflow_add-to-2 c).After-num-body)

pub slice_bounds-take-end-2 : goal.slice_bounds-take-end-2
slice_bounds-take-end-2 c = let f = fits (goal.at.slice_bounds-take-end-2 c).After-num-body in omega arith

pub returns : goal.returns
returns c =
    let a = c.args in
    let xs = a.packet.now in
    c.take.ensures
    ∙ (λ i. receive_on a.words.now a.store.now a.output.now ((c.num-time.ensures ∙ time_at xs a.at) i) (c.arrival_at-a.ensures i) (key_at xs a.at i) (body_at xs a.at c.num-body.ensures i))
