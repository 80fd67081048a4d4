-- The frame of a file: what refusals 8 and 9 judge and the places that follow from it, with the cases that the code meets.
-- Assumes nothing.
use Rattle.std.proofs.Math.Path.{◌≡◌, sym, ap}
use Rattle.std.specs.Prelude.{refl, Bool, ◌||◌, List, ℕ, zero, suc, ◌+◌, ◌-◌, ◌≤◌, ◌<◌, eqb, length, get_or, take, drop, Result, Ok, Err}
use Rattle.std.proofs.Common.{◌∙◌, arith}
use Rattle.std.proofs.Math.Bool.{true, false, cond, not}
use Rattle.std.proofs.Math.Dec.{ltb}
use borrow.Author.Tests.{lt-ltb, le-ltb, eq-eqb, ne_eqb, ltb-false, eqb-true, not-false}
use Rattle.octets.specs.Number.{num}
use Rattle.refusals.specs.declared.Refusal.{Refusal}
use Rattle.refusals.specs.Number.{number}
use Rattle.refusals.specs.Refusal.{first, or_left, or_right, or_false, both_false}
use Rattle.record.specs.Walk.{Tallied, tally_of, part_from}
use Rattle.cdrfile.specs.declared.Header.{Header}
use Rattle.reader.specs.declared.Lengths.{Lengths}
use Rattle.reader.specs.declared.Part.{Part}
use Rattle.reader.specs.Places.{header_length_at, filter_length_at, extensions_of, plain_length, has_private, private_length_at, private_part, statement_at, extensions_at, header_at}
use Rattle.reader.specs.Reader.{wrong_length, wrong_header_length, wrong_value, wrong_records, header_of, body_of, verdict, refused_contents, contents_of, settled, read_of}

-- the frame: refusal 0 with the header's length, the filter's, what they state of a private extension and its part; or 8 or 9 with zeros
pub record Frame : Type 0 where
  pub refusal : ℕ
  pub header : ℕ
  pub filter : ℕ
  pub statement : ℕ
  pub private : Part

abbrev pub refused_frame : ℕ → Frame
refused_frame n = record { refusal = n; header = 0; filter = 0; statement = 0; private = record { start = 0; octets = 0 } }

-- the same of what the code finds, and of its answer
abbrev pub frame_found : Lengths → Frame
frame_found l = record { refusal = 0; header = l.header; filter = l.filter; statement = l.statement; private = l.private }

abbrev pub framed : Result Lengths Refusal → Frame
framed (Ok l) = frame_found l
framed (Err r) = refused_frame (number r)

abbrev pub frame_at : List ℕ → Frame
frame_at xs = record { refusal = 0; header = header_length_at xs; filter = filter_length_at xs; statement = statement_at xs; private = private_part xs }

unfoldable pub header_frame : List ℕ → Frame
header_frame xs = cond (wrong_header_length xs) (refused_frame 9) (frame_at xs)

unfoldable pub frame_of : List ℕ → Frame
frame_of xs = cond (wrong_length xs) (refused_frame 8) (header_frame xs)

-- the numbers that the code has read of a header
pub record Framed (xs : List ℕ) (header filter plain : ℕ) : Type 0 where
  pub long : 50 ≤ length xs
  pub is_header : header ≡ header_length_at xs
  pub is_filter : filter ≡ filter_length_at xs
  pub is_plain : plain ≡ plain_length xs
  pub least : 50 + filter ≤ plain

module _ (xs : List ℕ) where
  private_there : plain_length xs < header_length_at xs → has_private xs ≡ true
  private_there h = lt-ltb _ _ h

  none_there : header_length_at xs ≤ plain_length xs → has_private xs ≡ false
  none_there h = le-ltb _ _ h

  -- Refusal 9.
  pub over : length xs < header_length_at xs → header_frame xs ≡ refused_frame 9
  unfolding header_frame wrong_header_length
  over h =
      let w = or_left (not (eqb (header_length_at xs) (plain_length xs + cond (has_private xs) (2 + private_length_at xs) 0))) (or_right (ltb (header_length_at xs) 50) (lt-ltb _ _ h)) in
      rw w

  unlike : (b : Bool) → has_private xs ≡ b → (header_length_at xs ≡ plain_length xs + cond b (2 + private_length_at xs) 0 → ⊥) → header_frame xs ≡ refused_frame 9
  unfolding header_frame wrong_header_length
  unlike b e h =
      let n = ap (λ (t : Bool). not (eqb (header_length_at xs) (plain_length xs + cond t (2 + private_length_at xs) 0))) e ∙ ap not (ne_eqb _ _ h) in
      let w = or_right (ltb (header_length_at xs) 50 || ltb (length xs) (header_length_at xs)) n in
      rw w

  pub under : header_length_at xs < plain_length xs → header_frame xs ≡ refused_frame 9
  under h = unlike false (none_there (omega arith)) (λ e. omega arith)

  -- the frame by whether there is a private extension
  abbrev frame_by : Bool → Frame
  frame_by b =
      record {
        refusal = 0;
        header = header_length_at xs;
        filter = filter_length_at xs;
        statement = cond b (cond (eqb (private_length_at xs) 0) 1 2) 0;
        private = cond b (record { start = 52 + filter_length_at xs; octets = private_length_at xs }) (record { start = 50 + filter_length_at xs; octets = 0 });
      }

  -- none of its conditions
  summed : (b : Bool) → has_private xs ≡ b → header_length_at xs ≤ length xs → header_length_at xs ≡ plain_length xs + cond b (2 + private_length_at xs) 0
      → header_frame xs ≡ frame_by b
  unfolding header_frame wrong_header_length
  summed b e most sum =
      let n = ap (λ (t : Bool). not (eqb (header_length_at xs) (plain_length xs + cond t (2 + private_length_at xs) 0))) e ∙ ap not (eq-eqb _ _ sum) in
      let w = both_false (both_false (le-ltb (header_length_at xs) 50 (omega arith)) (le-ltb (length xs) (header_length_at xs) most)) n in
      (λ i. cond (w i) (refused_frame 9) (frame_at xs)) ∙ ap frame_by e

  pub plain_taken : header_length_at xs ≤ length xs → header_length_at xs ≡ plain_length xs
      → header_frame xs ≡ record { refusal = 0; header = header_length_at xs; filter = filter_length_at xs; statement = 0; private = record { start = 50 + filter_length_at xs; octets = 0 } }
  plain_taken most same = summed false (none_there (omega arith)) most (omega arith)

  module _ (more : plain_length xs < header_length_at xs) where
    pub unsummed : (header_length_at xs ≡ plain_length xs + 2 + private_length_at xs → ⊥) → header_frame xs ≡ refused_frame 9
    unsummed h = unlike true (private_there more) (λ e. h (e ∙ omega arith))

    pub private_taken : header_length_at xs ≤ length xs → header_length_at xs ≡ plain_length xs + 2 + private_length_at xs
        → header_frame xs
        ≡ record { refusal = 0; header = header_length_at xs; filter = filter_length_at xs; statement = cond (eqb (private_length_at xs) 0) 1 2; private = record { start = 52 + filter_length_at xs; octets = private_length_at xs } }
    private_taken most sum = summed true (private_there more) most (sum ∙ omega arith)

  -- Refusal 8.
  pub frame_short : length xs < 50 → frame_of xs ≡ refused_frame 8
  unfolding frame_of wrong_length
  frame_short h = let w = or_left (not (eqb (num 4 xs 0) (length xs))) (or_left (ltb 1048576 (length xs)) (lt-ltb _ _ h)) in rw w

  pub frame_long : 1048576 < length xs → frame_of xs ≡ refused_frame 8
  unfolding frame_of wrong_length
  frame_long h = let w = or_left (not (eqb (num 4 xs 0) (length xs))) (or_right (ltb (length xs) 50) (lt-ltb _ _ h)) in rw w

  pub frame_unlike : (num 4 xs 0 ≡ length xs → ⊥) → frame_of xs ≡ refused_frame 8
  unfolding frame_of wrong_length
  frame_unlike h = let w = or_right (ltb (length xs) 50 || ltb 1048576 (length xs)) (ap not (ne_eqb _ _ h)) in rw w

  pub frame_on : 50 ≤ length xs → length xs ≤ 1048576 → num 4 xs 0 ≡ length xs → frame_of xs ≡ header_frame xs
  unfolding frame_of wrong_length
  frame_on a b e = rw (both_false (both_false (le-ltb (length xs) 50 a) (le-ltb 1048576 (length xs) b)) (ap not (eq-eqb _ _ e)))

-- the frame of a file that neither 8 nor 9 refuses
pub record RightFrame (xs : List ℕ) (f : Frame) : Type 0 where
  pub length_right : wrong_length xs ≡ false
  pub header_right : wrong_header_length xs ≡ false
  pub is : f ≡ frame_at xs

-- what 8 and 9 leave open: the file is long enough, and the header is its parts and lies within the file
pub record Sized (xs : List ℕ) : Type 0 where
  pub long : 50 ≤ length xs
  pub short : length xs ≤ 1048576
  pub total : num 4 xs 0 ≡ length xs
  pub within : header_length_at xs ≤ length xs
  pub sum : header_length_at xs ≡ plain_length xs + cond (has_private xs) (2 + private_length_at xs) 0

module _ (xs : List ℕ) where
  pub sized : wrong_length xs ≡ false → wrong_header_length xs ≡ false → Sized xs
  unfolding wrong_length wrong_header_length
  sized l h =
      let a = or_false (ltb (length xs) 50 || ltb 1048576 (length xs)) (not (eqb (num 4 xs 0) (length xs))) l in
      let b = or_false (ltb (length xs) 50) (ltb 1048576 (length xs)) a.0 in
      let sum = plain_length xs + cond (has_private xs) (2 + private_length_at xs) 0 in
      let d = or_false (ltb (header_length_at xs) 50 || ltb (length xs) (header_length_at xs)) (not (eqb (header_length_at xs) sum)) h in
      let e = or_false (ltb (header_length_at xs) 50) (ltb (length xs) (header_length_at xs)) d.0 in
      record {
        long = ltb-false (length xs) 50 b.0;
        short = ltb-false 1048576 (length xs) b.1;
        total = eqb-true (num 4 xs 0) (length xs) (not-false (eqb (num 4 xs 0) (length xs)) a.1);
        within = ltb-false (length xs) (header_length_at xs) e.1;
        sum = eqb-true (header_length_at xs) sum (not-false (eqb (header_length_at xs) sum) d.1);
      }

  -- the release extensions end where the records begin
  extensions_end : (b : Bool) → has_private xs ≡ b → header_length_at xs ≡ plain_length xs + cond b (2 + private_length_at xs) 0
      → (cond {A = Part} b (record { start = 52 + filter_length_at xs; octets = private_length_at xs }) (record { start = 50 + filter_length_at xs; octets = 0 })).start
      + (cond {A = Part} b (record { start = 52 + filter_length_at xs; octets = private_length_at xs }) (record { start = 50 + filter_length_at xs; octets = 0 })).octets
      + (extensions_of (get_or xs 8 0) + extensions_of (get_or xs 9 0)) ≡ header_length_at xs
  extensions_end true e s = omega arith
  extensions_end false e s = omega arith

  pub records_begin : Sized xs → extensions_at xs + (extensions_of (get_or xs 8 0) + extensions_of (get_or xs 9 0)) ≡ header_length_at xs
  records_begin s = extensions_end (has_private xs) refl s.sum

  -- what the frame's number says of 8 and 9
  by_frame : (a b : Bool) → wrong_length xs ≡ a → wrong_header_length xs ≡ b → {f : Frame} → f ≡ frame_of xs → f.refusal ≡ 0 → RightFrame xs f
  unfolding frame_of header_frame
  by_frame true b p q e z =
      let n : ◌≡◌ {A = ℕ} 8 0 = sym (ap (λ (g : Frame). g.refusal) (e ∙ (λ i. cond (p i) (refused_frame 8) (header_frame xs)))) ∙ z in absurd (omega arith)
  by_frame false true p q e z =
      let n : ◌≡◌ {A = ℕ} 9 0 = sym (ap (λ (g : Frame). g.refusal) (e ∙ (λ i. cond (p i) (refused_frame 8) (cond (q i) (refused_frame 9) (frame_at xs))))) ∙ z in absurd (omega arith)
  by_frame false false p q e z = record { length_right = p; header_right = q; is = e ∙ (λ i. cond (p i) (refused_frame 8) (cond (q i) (refused_frame 9) (frame_at xs))) }

  pub right_frame : {f : Frame} → f ≡ frame_of xs → f.refusal ≡ 0 → RightFrame xs f
  right_frame e z = by_frame (wrong_length xs) (wrong_header_length xs) refl refl e z

  by_refused : (a b : Bool) → wrong_length xs ≡ a → wrong_header_length xs ≡ b → {f : Frame} → f ≡ frame_of xs → (f.refusal ≡ 0 → ⊥) → read_of xs ≡ refused_contents f.refusal
  unfolding frame_of header_frame read_of verdict
  by_refused true b p q e z = rw p (sym (ap (λ (g : Frame). refused_contents g.refusal) (e ∙ (λ i. cond (p i) (refused_frame 8) (header_frame xs)))))
  by_refused false true p q e z = rw (p, q) (sym (ap (λ (g : Frame). refused_contents g.refusal) (e ∙ (λ i. cond (p i) (refused_frame 8) (cond (q i) (refused_frame 9) (frame_at xs))))))
  by_refused false false p q e z = absurd (z (ap (λ (g : Frame). g.refusal) (e ∙ (λ i. cond (p i) (refused_frame 8) (cond (q i) (refused_frame 9) (frame_at xs))))))

  pub wrong_frame : {f : Frame} → f ≡ frame_of xs → (f.refusal ≡ 0 → ⊥) → read_of xs ≡ refused_contents f.refusal
  wrong_frame e z = by_refused (wrong_length xs) (wrong_header_length xs) refl refl e z

  -- a right frame leaves 10 to 13
  module _ (l : wrong_length xs ≡ false) (h : wrong_header_length xs ≡ false) where
    pub read_value : wrong_value (header_of xs) (filter_length_at xs) (private_part xs) ≡ true → read_of xs ≡ refused_contents 10
    unfolding read_of verdict
    read_value v = rw (l, h, v)

    pub read_on : wrong_value (header_of xs) (filter_length_at xs) (private_part xs) ≡ false
        → read_of xs ≡ settled (first (wrong_records (header_of xs) (num 4 xs 18) (tally_of (body_of xs)))) xs
    unfolding read_of verdict
    read_on v = rw (l, h, v)

-- What the code does with a right frame.
pub record Ready (xs : List ℕ) (f : Frame) : Type 0 where
  pub long : 50 ≤ length xs
  pub within : f.header ≤ length xs
  pub ends : f.private.start + f.private.octets + (extensions_of (get_or xs 8 0) + extensions_of (get_or xs 9 0)) ≡ f.header

module _ (xs : List ℕ) (f : Frame) (r : RightFrame xs f) where
  pub ready : Ready xs f
  ready =
      let s = sized xs r.length_right r.header_right in
      record {
        long = s.long;
        within = omega (arith, s.within, ap (λ (g : Frame). g.header) r.is);
        ends =
            (λ i. (r.is i).private.start + (r.is i).private.octets + (extensions_of (get_or xs 8 0) + extensions_of (get_or xs 9 0)))
            ∙ records_begin xs s
            ∙ sym (ap (λ (g : Frame). g.header) r.is);
      }

  module _ {h : Header} (eh : h ≡ header_at xs f.statement (f.private.start + f.private.octets)) where
    pub header_is : h ≡ header_of xs
    header_is = eh ∙ (λ i. header_at xs (r.is i).statement ((r.is i).private.start + (r.is i).private.octets))

    pub value_is : {v : Bool} → v ≡ wrong_value h f.filter f.private → v ≡ wrong_value (header_of xs) (filter_length_at xs) (private_part xs)
    value_is e = e ∙ (λ i. wrong_value (header_is i) (r.is i).filter (r.is i).private)

    module _ {v : Bool} (ev : v ≡ wrong_value h f.filter f.private) where
      pub reads_value : v ≡ true → read_of xs ≡ refused_contents 10
      reads_value e = read_value xs r.length_right r.header_right (sym (value_is ev) ∙ e)

      module _ (valued : v ≡ false) {t : Tallied} (et : t ≡ tally_of (take (length xs - f.header) (drop f.header xs))) where
        pub tally_is : t ≡ tally_of (body_of xs)
        tally_is = et ∙ ap tally_of (part_from xs f.header ∙ (λ i. drop (r.is i).header xs))

        pub reads_on : {count n : ℕ} → count ≡ num 4 xs 18 → n ≡ first (wrong_records h count t) → read_of xs ≡ settled n xs
        reads_on ec en =
            read_on xs r.length_right r.header_right (sym (value_is ev) ∙ valued)
            ∙ sym (ap (λ (k : ℕ). settled k xs) (en ∙ (λ i. first (wrong_records (header_is i) (ec i) (tally_is i)))))

        pub contents_is : record { refusal = 0; header = h; filter = record { start = 50; octets = f.filter }; private = f.private; records = record { start = f.header; octets = length xs - f.header }; count = t.count } ≡ contents_of xs
        contents_is =
            λ i. record {
              refusal = 0;
              header = header_is i;
              filter = record { start = 50; octets = (r.is i).filter };
              private = (r.is i).private;
              records = record { start = (r.is i).header; octets = length xs - (r.is i).header };
              count = (tally_is i).count;
            }

pub settled_refused : (n : ℕ) (xs : List ℕ) → (n ≡ 0 → ⊥) → settled n xs ≡ refused_contents n
settled_refused zero xs h = absurd (h refl)
settled_refused (suc n) xs h = refl
