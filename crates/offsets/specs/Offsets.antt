-- The offsets of the records of a file, one after another, up to where no whole record begins.
use Rattle.std.specs.Prelude.{◌≡◌, refl, Bool, true, false, cond, List, [], ◌∷◌, ◌++◌, map, ℕ, zero, suc, ◌+◌, ◌-◌, ◌*◌, ◌≤◌, ◌<◌, length, take, drop, set}
use Rattle.std.proofs.Common.{sym, ap, ◌∙◌, append-nil, arith, add-one, length-append, length-set, length-take, length-drop, take-suc-set}
use Rattle.std.proofs.Math.Seq.{append_snoc}
use Rattle.record.specs.declared.Stepped.{Stepped}
use Rattle.record.specs.Step.{cut, record_length_at, Taken, inside, header_least}
use Rattle.recordorder.specs.At.{record_at}

-- with fuel for one record more than there can be
abbrev pub offsets_in : ℕ → List ℕ → ℕ → List ℕ
offsets_in zero file at = []
offsets_in (suc n) file at = cond (cut (drop at file)) [] (at ∷ offsets_in n file (at + record_length_at (drop at file)))

unfoldable pub offsets_of : List ℕ → ℕ → List ℕ
offsets_of file from = offsets_in (length file) file from

-- the records themselves, header and body
abbrev pub records_from : List ℕ → ℕ → List (List ℕ)
records_from file from = map (record_at file) (offsets_of file from)

pub offsets_cut : (n : ℕ) (file : List ℕ) (at : ℕ) → cut (drop at file) ≡ true → offsets_in n file at ≡ []
offsets_cut zero file at e = refl
offsets_cut (suc n) file at e = rw e

pub offsets_on : (n : ℕ) (file : List ℕ) (at : ℕ) → cut (drop at file) ≡ false
    → offsets_in (suc n) file at ≡ at ∷ offsets_in n file (at + record_length_at (drop at file))
offsets_on n file at e = rw e

-- a record takes four octets at least, so there are not more than a file has room for
most_in : (n : ℕ) (file : List ℕ) (at : ℕ) → 4 * length (offsets_in n file at) ≤ length (drop at file)
most_in zero file at = omega arith
most_in (suc n) file at = go (cut (drop at file)) refl (most_in n file (at + record_length_at (drop at file)))
  where
    go : (b : Bool) → cut (drop at file) ≡ b
        → 4 * length (offsets_in n file (at + record_length_at (drop at file))) ≤ length (drop (at + record_length_at (drop at file)) file)
        → 4 * length (offsets_in (suc n) file at) ≤ length (drop at file)
    go true c r = omega (arith, ap length (offsets_cut (suc n) file at c))
    go false c r =
        let i = inside (drop at file) c in
        omega (arith, ap length (offsets_on n file at c), i.within, header_least (drop at file), length-drop at file, length-drop (at + record_length_at (drop at file)) file)

pub offsets_most : (file : List ℕ) (from : ℕ) → 4 * length (offsets_of file from) ≤ length file
unfolding offsets_of
offsets_most file from = omega (arith, most_in (length file) file from, length-drop from file)

length_none : (xs : List ℕ) → length xs ≡ 0 → xs ≡ []
length_none [] e = refl
length_none (x ∷ xs) e = absurd (omega arith)

-- n offsets stand written, and the next record begins at `at`
pub record Placing (file : List ℕ) (from : ℕ) (out : List ℕ) (n at : ℕ) : Type 0 where
  pub room : n ≤ length out
  pub past : 4 * n ≤ at
  pub inside : at ≤ length file
  pub rest : take n out ++ offsets_in (length file - n) file at ≡ offsets_of file from

pub placing_none : (file : List ℕ) (from : ℕ) (out : List ℕ) → from ≤ length file → Placing file from out 0 from
unfolding offsets_of
placing_none file from out h =
    let e : length file - 0 ≡ length file = omega arith in
    record { room = omega arith; past = omega arith; inside = h; rest = ap (λ (k : ℕ). offsets_in k file from) e }

module _ (file : List ℕ) (from : ℕ) (out : List ℕ) (n at : ℕ) (p : Placing file from out n at) where
  pub placing_on : n < length out → {s : Stepped} → Taken (drop at file) s → Placing file from (set out n at) (n + 1) (at + (s.header + s.body))
  placing_on h {s} t =
      let m = length file - suc n in
      let d = length-drop at file in
      let w = t.within in
      let l = t.some in
      let more : length file - n ≡ suc m = omega (arith, p.past, p.inside) in
      let fewer : length file - (n + 1) ≡ m = omega arith in
      let next : at + (s.header + s.body) ≡ at + record_length_at (drop at file) = λ i. at + (t.header i + t.body i) in
      record {
        room = rw (length-set out n at) (omega arith);
        past = omega (arith, p.past);
        inside = omega (arith, p.inside);
        rest =
            (λ i. take (add-one n i) (set out n at) ++ offsets_in (fewer i) file (next i))
            ∙ ap (λ (o : List ℕ). o ++ offsets_in m file (at + record_length_at (drop at file))) (take-suc-set out n at h)
            ∙ append_snoc (take n out) at (offsets_in m file (at + record_length_at (drop at file)))
            ∙ ap (λ (o : List ℕ). take n out ++ o) (sym (offsets_on m file at t.whole) ∙ ap (λ (k : ℕ). offsets_in k file at) (sym more))
            ∙ p.rest;
      }

  -- no whole record begins there
  pub placing_cut : cut (drop at file) ≡ true → take n out ≡ offsets_of file from
  placing_cut e = sym (append-nil (take n out)) ∙ ap (λ (o : List ℕ). take n out ++ o) (sym (offsets_cut (length file - n) file at e)) ∙ p.rest

  -- the room is used up, and there are no more offsets
  pub placing_full : length out ≤ n → length (offsets_of file from) ≤ length out → take n out ≡ offsets_of file from
  placing_full h k =
      let more = offsets_in (length file - n) file at in
      let l : length (take n out) + length more ≡ length (offsets_of file from) = sym (length-append (take n out) more) ∙ ap length p.rest in
      let none : more ≡ [] = length_none more (omega (arith, length-take n out, p.room)) in
      sym (append-nil (take n out)) ∙ ap (λ (o : List ℕ). take n out ++ o) (sym none) ∙ p.rest
