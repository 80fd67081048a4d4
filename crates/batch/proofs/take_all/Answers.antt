use mathlib.Core.Path.{◌≡◌, refl, sym, ap, ◌∙◌, subst}
use Prim.Native.Nat.{ℕ, ◌+◌, ◌-◌, ◌<◌}
use native.Mathlib.Omega.{arith}
use mathlib.Core.List.{List, [], ◌++◌, append-nil}
use lib.ListN.{length, take, drop, set, length-drop, drop_of_length-le}
use borrow.Rule.Slice.PartMut.{put_mid, Post-is}
use Rattle.words.specs.Laws.{from_here}
use Rattle.words.specs.HeldIn.{Words32}
use Rattle.events.specs.Lent.{Left, left}
use Rattle.octets.specs.Number.{Octets}
use Rattle.packets.specs.Packet.{size_of, first_of}
use Rattle.packets.specs.Fold.{received}
use Rattle.batch.specs.Told.{told}
use Rattle.batch.specs.Taking.{Taking, underway, taking_begins, taking_few, below, taking_fits, fit, ends_told, stops_told, taking_next}
use Rattle.batch.proofs.take_all.Goals as goal
use Rattle.batch.proofs.take_all.Goals.{After-take_at-answer}

more : (t : goal.After-take_at-answer) → t.loop-i.i < t.args.n
more t = t.loop-i-test.true

-- what RECEIVE leaves of the record, on the rest of the output
abbrev x : goal.After-take_at-answer → Left
x t = let l = t.loop-i in received (first_of (drop l.at t.args.packet.now)) l.words l.store (drop l.used l.output)

x_is : (t : goal.After-take_at-answer) → left t.take_at-answer.result t.take_at-answer.new.words t.take_at-answer.new.store t.take_at-answer.new.output ≡ x t
x_is t =
    let l = t.loop-i in
    t.take_at-answer.ensures ∙ ap (received (first_of (drop l.at t.args.packet.now)) l.words l.store) (from_here l.output l.used)

-- the output with that in its place
out_is : (t : goal.After-take_at-answer) (ys : List ℕ) → put_mid t.loop-i.used (length t.loop-i.output - t.loop-i.used) t.loop-i.output ys ≡ take t.loop-i.used t.loop-i.output ++ ys
out_is t ys =
    let l = t.loop-i in
    ap (λ (z : List ℕ). take l.used l.output ++ (ys ++ z)) (Post-is l.used (length l.output) l.output l.invariant.room ∙ drop_all)
    ∙ ap (λ (z : List ℕ). take l.used l.output ++ z) (append-nil ys)
  where
    drop_all : drop (length t.loop-i.output) t.loop-i.output ≡ []
    drop_all = drop_of_length-le t.loop-i.output {i = length t.loop-i.output} (omega arith)

-- there are fewer than 64 before it, and the packet's octets are octets
low : (t : goal.After-take_at-answer) → t.loop-i.i < 64
low t = below (underway t.loop-i.invariant) (more t)

octets : (t : goal.After-take_at-answer) → Octets t.args.packet.now
octets t = record { at = λ i. omega (arith, t.type_inv.packet i) }

-- where it was accepted
taken : (t : goal.After-take_at-answer) → t.take_at-answer.result.refusal ≡ 0 → (x t).answer.refusal ≡ 0
taken t z = sym (ap (λ (y : Left). y.answer.refusal) (x_is t)) ∙ z

pub loop-i-init : goal.loop-i-init
loop-i-init c =
    taking_begins c.args.packet.now c.args.words.now c.args.store.now c.args.output.now c.untried-r.ensures c.told-words
    (record { at = c.fits-words }) c.requires.0 c.requires.1 c.requires.2

pub take_at-answer-requires : goal.take_at-answer-requires
take_at-answer-requires c =
    let l = c.loop-i in
    (l.invariant.right, taking_fits (underway l.invariant) c.loop-i-test.true)

pub offset_bounds-r-i : goal.offset_bounds-r-i
offset_bounds-r-i c = omega (arith, low (goal.at.offset_bounds-r-i c).After-take_at-answer)

pub bounds-r-i : goal.bounds-r-i
bounds-r-i c = low (goal.at.bounds-r-i c).After-take_at-answer

pub overflow_cast-r : goal.overflow_cast-r
overflow_cast-r c = omega (arith, low (goal.at.overflow_cast-r c).After-take_at-answer)

pub returns-then-answer-ne0 : goal.returns-then-answer-ne0
returns-then-answer-ne0 c =
    let l = c.loop-i in
    let e = x_is (goal.at.returns-then-answer-ne0 c).After-take_at-answer in
    ap (λ (out : List ℕ). told (record { refusal = c.take_at-answer.result.refusal; accepted = l.i; answers = set l.r.answers l.i c.take_at-answer.result }) c.take_at-answer.new.words c.take_at-answer.new.store out)
    (out_is (goal.at.returns-then-answer-ne0 c).After-take_at-answer c.take_at-answer.new.output)
    ∙ (λ j. told (record { refusal = (e j).answer.refusal; accepted = l.i; answers = set l.r.answers l.i (e j).answer }) (e j).words (e j).store (take l.used l.output ++ (e j).output))
    ∙ stops_told (underway l.invariant) (more (goal.at.returns-then-answer-ne0 c).After-take_at-answer) (λ z. c.if-answer-ne0.true (ap (λ (y : Left). y.answer.refusal) e ∙ z))

pub overflow_add-used : goal.overflow_add-used
overflow_add-used c =
    let accepted : c.take_at-answer.result.refusal ≡ 0 = omega arith in
    let l = c.loop-i in
    omega (
      arith,
      ap (λ (y : Left). y.answer.octets) (x_is (goal.at.overflow_add-used c).After-take_at-answer),
      fit (underway l.invariant) (more (goal.at.overflow_add-used c).After-take_at-answer) (octets (goal.at.overflow_add-used c).After-take_at-answer) (taken (goal.at.overflow_add-used c).After-take_at-answer accepted),
      length-drop l.used l.output,
      l.invariant.room,
      l.invariant.wide,
    )

pub size_at-at-requires : goal.size_at-at-requires
size_at-at-requires c = omega (arith, taking_fits (underway c.loop-i.invariant) (more (goal.at.size_at-at-requires c).After-take_at-answer))

pub overflow_add-at : goal.overflow_add-at
overflow_add-at c =
    omega (arith, c.size_at-at.ensures.0, taking_fits (underway c.loop-i.invariant) (more (goal.at.overflow_add-at c).After-take_at-answer))

pub loop-i-preserved : goal.loop-i-preserved
loop-i-preserved c =
    let accepted : c.take_at-answer.result.refusal ≡ 0 = omega arith in
    let l = c.loop-i in
    let s = c.args in
    let e = x_is (goal.at.loop-i-preserved c).After-take_at-answer in
    let size = c.size_at-at.ensures.0 in
    let same : length (x (goal.at.loop-i-preserved c).After-take_at-answer).output ≡ length (drop l.used l.output) =
    sym (ap (λ (y : Left). length y.output) e) ∙ c.output-1.given.0 ∙ ap length (from_here l.output l.used) in
    let next = taking_next (underway l.invariant) (more (goal.at.loop-i-preserved c).After-take_at-answer) (octets (goal.at.loop-i-preserved c).After-take_at-answer) (taken (goal.at.loop-i-preserved c).After-take_at-answer accepted) same (subst (λ (y : Left). Words32 y.words) e c.words_fit.ensures) refl in
    let there : (y : Left) (out : List ℕ) (k : ℕ) → Type 0 = λ (y : Left) (out : List ℕ) (k : ℕ). Taking s.packet.now s.n s.words.now s.store.now s.output.now y.words y.store out
    (record { refusal = l.r.refusal; accepted = l.r.accepted; answers = set l.r.answers l.i y.answer }) (l.at + k) (l.used + y.answer.octets) (l.i + 1) in
    let y = left c.take_at-answer.result c.take_at-answer.new.words c.take_at-answer.new.store c.take_at-answer.new.output in
    subst (λ (k : ℕ). there y (put_mid l.used (length l.output - l.used) l.output y.output) k) (sym size)
    (subst (λ (out : List ℕ). there y out (size_of (drop l.at s.packet.now))) (sym (out_is (goal.at.loop-i-preserved c).After-take_at-answer y.output))
    (subst (λ (q : Left). there q (take l.used l.output ++ q.output) (size_of (drop l.at s.packet.now))) (sym e) next))

pub overflow_cast-r-2 : goal.overflow_cast-r-2
overflow_cast-r-2 c = omega (arith, taking_few (underway c.loop-i.invariant))

pub returns : goal.returns
returns c = ends_told (underway c.loop-i.invariant) c.loop-i-test.false
