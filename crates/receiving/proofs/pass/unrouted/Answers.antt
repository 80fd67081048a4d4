-- `receiving::pass::unrouted` meets its contract: its two ways out are the definition's. Assumes nothing.
use mathlib.Core.Path.{◌≡◌, refl, sym, ap, ◌∙◌}
use mathlib.Core.Bool.{false, not, ◌||◌}
use native.Mathlib.Omega.{arith}
use lib.Dec.{eqb}
use lib.ListN.{get_or}
use borrow.Author.Tests.{eqb-false, not-false}
use Rattle.refusals.specs.Refusal.{or_false}
use Rattle.refusals.specs.Below.{all_below}
use Rattle.words.specs.Words.{manager_in}
use Rattle.events.specs.Receive.{can_note, unrouted_full}
use Rattle.receiving.specs.Told.{unrouted_refused, unrouted_done}
use Rattle.receiving.proofs.pass.unrouted.Goals as goal
use Rattle.receiving.proofs.pass.unrouted.Goals.{After-can_note-room, Else-words-room}

-- what is tested is 19's condition
full_is : (e : goal.After-can_note-room)
    → (eqb (get_or e.args.words.now 7 0) 4294967295 || not e.can_note-room.result) ≡ unrouted_full (manager_in e.args.words.now)
unfolding manager_in
full_is e =
    let xs = e.args.words.now in
    let room = e.can_note-room.ensures ∙ ap (all_below (can_note (manager_in xs))) e.count_of-n.ensures in
    λ i. eqb (get_or xs 7 0) 4294967295 || not (room i)

-- and where it is not met
rises : (c : goal.Else-words-room) → (eqb (get_or c.args.words.now 7 0) 4294967295 || not c.can_note-room.result) ≡ false
rises c = c.if-words-room.false

pub returns-then-words-room : goal.returns-then-words-room
returns-then-words-room c =
    unrouted_refused c.args.words.now c.told-words c.args.t c.args.compared (sym (full_is (goal.at.returns-then-words-room c).After-can_note-room) ∙ c.if-words-room.true) refl

pub overflow_add-more : goal.overflow_add-more
overflow_add-more c =
    let least = eqb-false (get_or c.args.words.now 7 0) 4294967295 (or_false (eqb (get_or c.args.words.now 7 0) 4294967295) (not c.can_note-room.result) (rises (goal.at.overflow_add-more c).Else-words-room)).0 in
    omega (arith, least)

pub note_routes-requires : goal.note_routes-requires
note_routes-requires c =
    let room = (or_false (eqb (get_or c.args.words.now 7 0) 4294967295) (not c.can_note-room.result) (rises (goal.at.note_routes-requires c).Else-words-room)).1 in
    (omega (arith, c.count_of-n.ensures, c.requires), sym c.can_note-room.ensures ∙ not-false _ room)

pub returns : goal.returns
unfolding manager_in
returns c =
    unrouted_done c.args.words.now c.told-words c.args.t c.args.compared (sym (full_is (goal.at.returns c).After-can_note-room) ∙ rises (goal.at.returns c).Else-words-room) c.count_of-n.ensures c.accept.ensures c.note_routes.ensures
