-- A step over the part of a file that starts at the cursor (document 01, Reader): a whole record with its lengths, or 11 if
-- no whole record begins there. Assumes nothing.
use Rattle.std.specs.Prelude.{◌≡◌, refl, Bool, true, false, cond, ◌||◌, List, [], ℕ, Option, Some, None, ◌+◌, ◌/◌, ◌%◌, ◌≤◌, ◌<◌, ltb, eqb, length, get_or, take, drop}
use Rattle.std.proofs.Common.{ap, ◌∙◌, length-drop, arith}
use borrow.Author.Tests.{lt-ltb, le-ltb, eq-eqb, ne_eqb, ltb-false, eqb-false}
use Rattle.refusals.specs.Refusal.{or_false}
use Rattle.octets.specs.Number.{num}
use Rattle.record.specs.declared.RecordHeader.{RecordHeader}
use Rattle.record.specs.declared.Stepped.{Stepped}
use Rattle.record.specs.declared.Whole.{Whole}
use Rattle.record.specs.Record.{Record}

-- the lengths that the octets at the start of the part give
abbrev pub body_length_at : List ℕ → ℕ
body_length_at xs = num 2 xs 0

abbrev pub header_at : List ℕ → ℕ
header_at xs = cond (eqb (get_or xs 2 0 / 32) 7) 5 4

abbrev pub record_length_at : List ℕ → ℕ
record_length_at xs = header_at xs + body_length_at xs

-- the header's fields
abbrev pub fields_of : List ℕ → RecordHeader
fields_of xs =
    record {
      release =
          record {
            release = get_or xs 2 0 / 32;
            extension = cond (eqb (get_or xs 2 0 / 32) 7) (get_or xs 4 0) 0;
            version = get_or xs 2 0 % 32;
          };
      format = get_or xs 3 0 / 32;
      ts = get_or xs 3 0 % 32;
    }

-- refusal 11: a record cut or of length 65,535
unfoldable pub cut : List ℕ → Bool
cut xs = ltb (length xs) 4 || eqb (body_length_at xs) 65535 || ltb (length xs) (record_length_at xs)

abbrev pub refused_step : Stepped
refused_step =
    record {
      refusal = 11;
      fields = record { release = record { release = 0; extension = 0; version = 0 }; format = 0; ts = 0 };
      header = 0;
      body = 0;
    }

abbrev pub whole_step : List ℕ → Stepped
whole_step xs = record { refusal = 0; fields = fields_of xs; header = header_at xs; body = body_length_at xs }

unfoldable pub step_of : List ℕ → Stepped
step_of xs = cond (cut xs) refused_step (whole_step xs)

-- the call's answer from the whole record that its code finds, or from none
abbrev pub stepped : Option Whole → Stepped
stepped None = refused_step
stepped (Some w) = record { refusal = 0; fields = w.fields; header = w.header; body = w.body }

-- the record that begins with the part, where one does
abbrev pub record_of : List ℕ → Record
record_of xs = record { header = fields_of xs; body = take (body_length_at xs) (drop (header_at xs) xs) }

-- the step at any offset of a file; at or past the end nothing is left, which is 11
abbrev pub step_at : List ℕ → ℕ → Stepped
step_at file at = step_of (drop at file)

-- the body at an offset, the empty part where the step refuses
unfoldable pub body_at : List ℕ → ℕ → List ℕ
body_at file at = cond (cut (drop at file)) [] (record_of (drop at file)).body

-- The cases of `cut`.
module _ (xs : List ℕ) where
  pub cut_short : length xs < 4 → cut xs ≡ true
  unfolding cut
  cut_short a = rw (lt-ltb _ _ a)

  module _ (a : 4 ≤ length xs) where
    pub cut_most : body_length_at xs ≡ 65535 → cut xs ≡ true
    unfolding cut
    cut_most b = rw (le-ltb _ _ a, eq-eqb _ _ b)

    module _ (b : body_length_at xs ≡ 65535 → ⊥) where
      pub cut_body : length xs < record_length_at xs → cut xs ≡ true
      unfolding cut
      cut_body d = rw (le-ltb _ _ a, ne_eqb _ _ b, lt-ltb _ _ d)

      pub cut_none : record_length_at xs ≤ length xs → cut xs ≡ false
      unfolding cut
      cut_none d = rw (le-ltb _ _ a, ne_eqb _ _ b, le-ltb _ _ d)

-- a step goes by `cut`
pub step_cut : (xs : List ℕ) → cut xs ≡ true → step_of xs ≡ refused_step
unfolding step_of
step_cut xs e = rw e

pub step_whole : (xs : List ℕ) → cut xs ≡ false → step_of xs ≡ whole_step xs
unfolding step_of
step_whole xs e = rw e

-- a record that is not cut lies within the part and takes four octets at least
pub record Inside (xs : List ℕ) : Type 0 where
  pub long : 4 ≤ length xs
  pub usual : body_length_at xs ≡ 65535 → ⊥
  pub within : record_length_at xs ≤ length xs
  pub some : 4 ≤ header_at xs

pub header_least : (xs : List ℕ) → 4 ≤ header_at xs
header_least xs = least (eqb (get_or xs 2 0 / 32) 7)
  where
    least : (b : Bool) → 4 ≤ cond b 5 4
    least true = omega arith
    least false = omega arith

pub inside : (xs : List ℕ) → cut xs ≡ false → Inside xs
unfolding cut
inside xs e =
    let a = or_false (ltb (length xs) 4 || eqb (body_length_at xs) 65535) (ltb (length xs) (record_length_at xs)) e in
    let b = or_false (ltb (length xs) 4) (eqb (body_length_at xs) 65535) a.0 in
    record {
      long = ltb-false (length xs) 4 b.0;
      usual = eqb-false (body_length_at xs) 65535 b.1;
      within = ltb-false (length xs) (record_length_at xs) a.1;
      some = header_least xs;
    }

-- what a step that does not refuse says of the part
pub record Taken (xs : List ℕ) (s : Stepped) : Type 0 where
  pub whole : cut xs ≡ false
  pub fields : s.fields ≡ fields_of xs
  pub header : s.header ≡ header_at xs
  pub body : s.body ≡ body_length_at xs
  pub within : s.header + s.body ≤ length xs
  pub some : 4 ≤ s.header

module _ (xs : List ℕ) (s : Stepped) (e : s ≡ step_of xs) where
  by_cut : (b : Bool) → cut xs ≡ b → s.refusal ≡ 0 → Taken xs s
  by_cut true c h = let z : ◌≡◌ {A = ℕ} 11 0 = cc (step_cut xs c) in absurd (omega arith)
  by_cut false c h =
      let w = e ∙ step_whole xs c in
      let i = inside xs c in
      let eh : s.header ≡ header_at xs = ap (λ (t : Stepped). t.header) w in
      let eb : s.body ≡ body_length_at xs = ap (λ (t : Stepped). t.body) w in
      record {
        whole = c;
        fields = ap (λ (t : Stepped). t.fields) w;
        header = eh;
        body = eb;
        within = omega (arith, i.within);
        some = omega (arith, i.some);
      }

  pub taken : s.refusal ≡ 0 → Taken xs s
  taken h = by_cut (cut xs) refl h

  pub untaken : (s.refusal ≡ 0 → ⊥) → cut xs ≡ true
  untaken h = go (cut xs) refl
    where
      go : (b : Bool) → cut xs ≡ b → cut xs ≡ true
      go true c = c
      go false c = absurd (h (ap (λ (t : Stepped). t.refusal) (e ∙ step_whole xs c)))

-- nothing is left at or past the end
pub cut_past : (file : List ℕ) (at : ℕ) → length file ≤ at → cut (drop at file) ≡ true
cut_past file at h = cut_short (drop at file) (rw (length-drop at file) (omega arith))

pub body_cut : (file : List ℕ) (at : ℕ) → cut (drop at file) ≡ true → body_at file at ≡ []
unfolding body_at
body_cut file at e = rw e

pub body_whole : (file : List ℕ) (at : ℕ) → cut (drop at file) ≡ false → body_at file at ≡ (record_of (drop at file)).body
unfolding body_at
body_whole file at e = rw e
