-- The proof of Names.antt: soundness is the reader's own comparison, completeness is that right fields are found at their
-- places (Places). Assumes nothing.
use Rattle.std.specs.Prelude.{◌≡◌, refl, Bool, true, false, cond, ◌&&◌, ◌↔◌, List, ◌++◌, ℕ, ◌+◌, ◌-◌, ◌≤◌, ◌<◌, min, length, take, drop}
use Rattle.std.proofs.Common.{sym, ap, subst, ◌∙◌, arith, length-take, length-drop, take_at}
use Rattle.std.proofs.Math.Decide.{dec_lt, ℕ_discrete}
use Rattle.octets.specs.Splice.{splice}
use Rattle.refusals.specs.Tests.{both}
use Rattle.filename.specs.declared.Name.{Name}
use Rattle.filename.specs.Name.{right, spelled}
use Rattle.filename.specs.Writing.{After, after, answered}
use Rattle.filename.specs.Reading.{node_length, closing_place, fields_of, node_of, private_of, same, named, no_name, judged, read_of}
use Rattle.filename.specs.Cases.{same_is, same_self, write_wrong, write_short, write_done, judged_named, take_least, drop_least}
use Rattle.filename.specs.Places.{fields_read, node_read, private_read}
use Rattle.filename.specs.Names.{Parts, Right, spelling, Named, handed_back, writing, Names}

-- The reader's two answers.

accepting : (xs : List ℕ) → (read_of xs).refusal ≡ 0
    → (right (fields_of xs) (node_of xs) (private_of xs) ≡ true) × (same xs (spelled (fields_of xs) (node_of xs) (private_of xs)) ≡ true)
unfolding read_of judged
accepting xs e = by (right (fields_of xs) (node_of xs) (private_of xs) && same xs (spelled (fields_of xs) (node_of xs) (private_of xs))) refl e
  where
    by : (b : Bool) → (right (fields_of xs) (node_of xs) (private_of xs) && same xs (spelled (fields_of xs) (node_of xs) (private_of xs))) ≡ b
        → (cond b (named (fields_of xs) (node_of xs) (private_of xs)) no_name).refusal ≡ 0
        → (right (fields_of xs) (node_of xs) (private_of xs) ≡ true) × (same xs (spelled (fields_of xs) (node_of xs) (private_of xs)) ≡ true)
    by true t h = both (right (fields_of xs) (node_of xs) (private_of xs)) (same xs (spelled (fields_of xs) (node_of xs) (private_of xs))) t
    by false t h = let z : ⊥ = omega arith in absurd z

-- a right set's spelling is read as that set
read_right : (p : Parts) → Right p → read_of (spelling p) ≡ named p.fields p.node p.private
unfolding read_of
read_right p r =
    let f = fields_read p.fields p.node p.private r in
    let n = node_read p.fields p.node p.private r in
    let q = private_read p.fields p.node p.private r in
    (λ i. judged (spelling p) (f i) (n i) (q i)) ∙ sym (judged_named (spelling p) p.fields p.node p.private r (same_self (spelling p)))

-- an accepted name's answer
read_named : (xs : List ℕ) → (read_of xs).refusal ≡ 0 → read_of xs ≡ named (fields_of xs) (node_of xs) (private_of xs)
unfolding read_of
read_named xs e =
    let a = accepting xs e in
    sym (judged_named xs (fields_of xs) (node_of xs) (private_of xs) a.0 a.1)

-- a part at the start, by its length, and a part at the end, by its length
first_part : (k : ℕ) (xs : List ℕ) → take (length (take k xs)) xs ≡ take k xs
first_part k xs = ap (λ (n : ℕ). take n xs) (length-take k xs) ∙ take_least k xs

last_part : (k : ℕ) (xs : List ℕ) → drop (length xs - length (drop k xs)) xs ≡ drop k xs
last_part k xs =
    let e : length xs - length (drop k xs) ≡ min k (length xs) = rw (length-drop k xs) (omega arith) in
    ap (λ (n : ℕ). drop n xs) e ∙ drop_least k xs

abbrev taken : List ℕ → Parts
taken xs = record { fields = fields_of xs; node = node_of xs; private = private_of xs }

handed_taken : (xs : List ℕ) → (read_of xs).refusal ≡ 0 → handed_back xs ≡ taken xs
unfolding node_of private_of
handed_taken xs e =
    let r = read_named xs e in
    (λ i. record { fields = (r i).fields; node = take (r i).node xs; private = drop (length xs - (r i).private) xs })
    ∙ (λ i. record { fields = fields_of xs; node = first_part (node_length xs) xs i; private = last_part (closing_place xs + 22) xs i })

-- The claims, one by one.

handed_back_lem : (xs : List ℕ) → (read_of xs).refusal ≡ 0 → Right (handed_back xs) × (spelling (handed_back xs) ≡ xs)
handed_back_lem xs e =
    let a = accepting xs e in
    let h = handed_taken xs e in
    (ap (λ (p : Parts). right p.fields p.node p.private) h ∙ a.0, ap spelling h ∙ sym (same_is xs (spelling (taken xs)) a.1))

right_accepted : (p : Parts) → Right p → (read_of (spelling p)).refusal ≡ 0
right_accepted p r = ap (λ (n : Name). n.refusal) (read_right p r)

only_these : (p : Parts) → Right p → handed_back (spelling p) ≡ p
only_these p r =
    handed_taken (spelling p) (right_accepted p r)
    ∙ (λ i.
    record {
      fields = fields_read p.fields p.node p.private r i;
      node = node_read p.fields p.node p.private r i;
      private = private_read p.fields p.node p.private r i;
    })

accepted : (xs : List ℕ) → ((read_of xs).refusal ≡ 0) ↔ Named xs
accepted xs = (λ e. let h = handed_back_lem xs e in (handed_back xs, h.0, h.1), λ q. ap (λ (l : List ℕ). (read_of l).refusal) (sym q.2) ∙ right_accepted q.0 q.1)

refused : (xs : List ℕ) → (Named xs → ⊥) → read_of xs ≡ no_name
unfolding read_of judged
refused xs h = by (ℕ_discrete (read_of xs).refusal 0)
  where
    other : (b : Bool) → ((cond b (named (fields_of xs) (node_of xs) (private_of xs)) no_name).refusal ≡ 0 → ⊥) → cond b (named (fields_of xs) (node_of xs) (private_of xs)) no_name ≡ no_name
    other true n = absurd (n refl)
    other false n = refl

    by : Dec ((read_of xs).refusal ≡ 0) → read_of xs ≡ no_name
    by (yes e) = let b = handed_back_lem xs e in absurd (h (handed_back xs, b.0, b.1))
    by (no n) = other (right (fields_of xs) (node_of xs) (private_of xs) && same xs (spelled (fields_of xs) (node_of xs) (private_of xs))) n

apart : (p q : Parts) → Right p → Right q → spelling p ≡ spelling q → p ≡ q
apart p q r s e = sym (only_these p r) ∙ ap handed_back e ∙ only_these q s

-- a name over the start of an output
over_start : (output xs : List ℕ) → splice output 0 xs ≡ xs ++ drop (length xs) output
unfolding splice
over_start output xs = let e : 0 + length xs ≡ length xs = omega arith in ap (λ (n : ℕ). xs ++ drop n output) e

is_written : (p : Parts) (output : List ℕ) → Right p → length (spelling p) ≤ length output
    → writing p output ≡ after (answered 0 (length (spelling p))) (spelling p ++ drop (length (spelling p)) output)
is_written p output r l =
    sym (write_done p.fields p.node p.private output r l) ∙ ap (after (answered 0 (length (spelling p)))) (over_start output (spelling p))

wrong : (p : Parts) (output : List ℕ) → (Right p → ⊥) → writing p output ≡ after (answered 20 0) output
wrong p output h = sym (write_wrong p.fields p.node p.private output (by (right p.fields p.node p.private) refl))
  where
    by : (b : Bool) → right p.fields p.node p.private ≡ b → right p.fields p.node p.private ≡ false
    by true e = absurd (h e)
    by false e = e

too_long : (p : Parts) (output : List ℕ) → Right p → length output < length (spelling p) → writing p output ≡ after (answered 21 0) output
too_long p output r l = sym (write_short p.fields p.node p.private output r l)

-- an accepted call had right fields and room
accepted_right : (p : Parts) (output : List ℕ) → (writing p output).answer.refusal ≡ 0 → Right p × (length (spelling p) ≤ length output)
accepted_right p output e = by (right p.fields p.node p.private) refl
  where
    room : Right p → Dec (length output < length (spelling p)) → length (spelling p) ≤ length output
    room r (yes l) = let z = ap (λ (a : After). a.answer.refusal) (too_long p output r l) in let q : ⊥ = omega arith in absurd q
    room r (no l) = omega arith

    by : (b : Bool) → right p.fields p.node p.private ≡ b → Right p × (length (spelling p) ≤ length output)
    by true r = (r, room r (dec_lt (length output) (length (spelling p))))
    by false r =
        let z = ap (λ (a : After). a.answer.refusal) (sym (write_wrong p.fields p.node p.private output r)) in
        let q : ⊥ = omega arith in absurd q

written_read : (p : Parts) (output : List ℕ) → (writing p output).answer.refusal ≡ 0
    → ((read_of (take (writing p output).answer.octets (writing p output).output)).refusal ≡ 0)
    × (handed_back (take (writing p output).answer.octets (writing p output).output) ≡ p)
written_read p output e =
    let a = accepted_right p output e in
    let w = is_written p output a.0 a.1 in
    let there : take (writing p output).answer.octets (writing p output).output ≡ spelling p =
    ap (λ (x : After). take x.answer.octets x.output) w ∙ take_at (spelling p) (drop (length (spelling p)) output) (length (spelling p)) refl in
    (ap (λ (l : List ℕ). (read_of l).refusal) there ∙ right_accepted p a.0, ap handed_back there ∙ only_these p a.0)

read_written : (xs output : List ℕ) → (read_of xs).refusal ≡ 0 → length xs ≤ length output
    → writing (handed_back xs) output ≡ after (answered 0 (length xs)) (xs ++ drop (length xs) output)
read_written xs output e l =
    let h = handed_back_lem xs e in
    is_written (handed_back xs) output h.0 (subst (λ (s : List ℕ). length s ≤ length output) (sym h.1) l)
    ∙ ap (λ (s : List ℕ). after (answered 0 (length s)) (s ++ drop (length s) output)) h.1

pub names : Names
names =
    record {
      accepted = accepted;
      refused = refused;
      handed_back_lem = handed_back_lem;
      only_these = only_these;
      apart = apart;
      written = is_written;
      wrong = wrong;
      too_long = too_long;
      written_read = written_read;
      read_written = read_written;
    }
