-- What the reader accepts is a right file, and its octets are that file's layout (document 01, Reader). Assumes nothing.
use Rattle.std.specs.Prelude.{◌≡◌, refl, Bool, true, false, cond, ◌||◌, ℕ, ◌+◌, ◌-◌, ◌*◌, ◌/◌, ◌%◌, ◌≤◌, ◌<◌, ltb, take}
use Rattle.std.proofs.Math.Path.{sym, ap}
use Rattle.std.proofs.Common.{◌∙◌, add-zero, add-one, take-append-drop, drop-cons, drop-drop, length-take-le}
use Rattle.std.proofs.Math.Bool.{not}
use mathlib.Core.List.{List, [], ◌∷◌, ◌++◌}
use native.Mathlib.Omega.{arith}
use Rattle.std.proofs.Math.Dec.{eqb}
use Rattle.std.proofs.Math.ListN.{length, get_or, drop, length-drop}
use borrow.Author.Tests.{eqb-true, eqb-false, not-false}
use Rattle.octets.specs.Number.{be, num, octets_at, Octets, num_lt, be_num, octets_at_lem, octets_take, octets_drop, octets_at_length, octets_at_octets}
use Rattle.refusals.specs.Refusal.{or_false}
use Rattle.timestamp.specs.Timestamp.{fields_of, right, Right, right_bounds, narrow_fields, word_fields}
use Rattle.record.specs.Release.{NarrowRelease, extension_octets}
use Rattle.record.specs.Record.{Record, AllRight, records_octets}
use Rattle.record.specs.Format.{walked}
use Rattle.cdrfile.specs.Statement.{agrees}
use Rattle.cdrfile.specs.File.{File, private_octets, header_length, fixed_octets, file_octets, layout}
use Rattle.roundtrip.specs.Described.{RightFile}
use Rattle.roundtrip.proofs.Ordered.{ordered}
use Rattle.cdrfile.specs.Laws.{private_some, private_some_length}
use Rattle.reader.specs.declared.Part.{Part}
use Rattle.reader.specs.Places.{header_length_at, filter_length_at, extensions_of, has_private, private_length_at, private_part, statement_at, extensions_at, release_at, header_at}
use Rattle.reader.specs.Reader.{header_of, body_of}
use Rattle.reader.specs.Frame.{Sized, sized, records_begin}
use Rattle.roundtrip.proofs.Accepted.{Accepted}

-- the private part, by whether there is one
abbrev part_by : Bool → List ℕ → Part
part_by b xs = cond b (record { start = 52 + filter_length_at xs; octets = private_length_at xs }) (record { start = 50 + filter_length_at xs; octets = 0 })

abbrev private_by : Bool → List ℕ → List ℕ
private_by b xs = take (part_by b xs).octets (drop (part_by b xs).start xs)

abbrev statement_by : Bool → List ℕ → ℕ
statement_by b xs = cond b (cond (eqb (private_length_at xs) 0) 1 2) 0

-- an extension that is there is stated, and as its octets are
there_by : (b : Bool) → ◌≡◌ {A = ℕ} (cond b 1 2) 0 → ⊥
there_by true e = omega arith
there_by false e = omega arith

agrees_by : (b : Bool) → cond b (ltb (cond b 1 2) 2) (eqb (cond b 1 2) 2) ≡ true
agrees_by true = refl
agrees_by false = refl

-- the file that some octets say
abbrev pub file_at : List ℕ → List Record → File
file_at xs rs = record { header = header_of xs; filter = take (filter_length_at xs) (drop 50 xs); private = private_by (has_private xs) xs; records = rs }

-- a piece before what is already known
onto : (a : List ℕ) {rest d e : List ℕ} → rest ≡ d → a ++ d ≡ e → a ++ rest ≡ e
onto a p q = ap (λ (l : List ℕ). a ++ l) p ∙ q

module _ {xs : List ℕ} (o : Octets xs) where
  one : (k : ℕ) → k < length xs → get_or xs k 0 ∷ drop (k + 1) xs ≡ drop k xs
  one k h = ap (λ (n : ℕ). get_or xs k 0 ∷ drop n xs) (add-one k) ∙ sym (drop-cons xs k 0 h)

  -- the extension octet of a release, where there is one
  extension_by : (b : Bool) (e : ℕ) → e + cond b 1 0 ≤ length xs → cond b (cond b (get_or xs e 0) 0 ∷ []) [] ++ drop (e + cond b 1 0) xs ≡ drop e xs
  extension_by true e h = one e (omega arith)
  extension_by false e h = ap (λ (n : ℕ). drop n xs) (add-zero e)

  extension_there : (k e : ℕ) → e + extensions_of (get_or xs k 0) ≤ length xs → extension_octets (release_at xs k e) ++ drop (e + extensions_of (get_or xs k 0)) xs ≡ drop e xs
  extension_there k e h = extension_by (eqb (get_or xs k 0 / 32) 7) e h

  -- the private extension, where there is one
  private_by_lem : (b : Bool) → (part_by b xs).start + (part_by b xs).octets ≤ length xs
      → (length (private_by b xs) ≡ (part_by b xs).octets)
      × (private_octets (statement_by b xs) (private_by b xs) ++ drop ((part_by b xs).start + (part_by b xs).octets) xs ≡ drop (50 + filter_length_at xs) xs)
  private_by_lem false h = (refl, ap (λ (n : ℕ). drop n xs) (add-zero (50 + filter_length_at xs)))
  private_by_lem true h =
      let f = filter_length_at xs in
      let p = private_length_at xs in
      let mine = take p (drop (52 + f) xs) in
      let n : length mine ≡ p = length-take-le p (drop (52 + f) xs) (omega (arith, length-drop (52 + f) xs)) in
      let two : 52 + f ≡ 50 + f + 2 = omega arith in (
        n,
        ap (λ (l : List ℕ). l ++ drop (52 + f + p) xs) (private_some (statement_by true xs) mine (there_by (eqb p 0)))
            ∙ (λ i. be 2 (n i) ++ (mine ++ sym (drop-drop p (52 + f) xs) i))
            ∙ ap (λ (l : List ℕ). be 2 p ++ l) (take-append-drop p (drop (52 + f) xs) ∙ ap (λ (k : ℕ). drop k xs) two)
            ∙ be_num o 2 (50 + f) (omega arith),
      )

  -- octets 1 to 50, read field by field and put before the rest again
  fixed_there : 50 ≤ length xs
      → be 4 (num 4 xs 0) ++ (be 4 (num 4 xs 4) ++ (get_or xs 8 0 ∷ (get_or xs 9 0 ∷ (be 4 (num 4 xs 10) ++ (be 4 (num 4 xs 14) ++ (be 4 (num 4 xs 18) ++ (be 4 (num 4 xs 22)
      ++ (get_or xs 26 0 ∷ (octets_at 20 xs 27 ++ (get_or xs 47 0 ∷ (be 2 (num 2 xs 48) ++ drop 50 xs))))))))))) ≡ xs
  fixed_there h =
      let p48 = be_num o 2 48 (omega arith) in
      let p47 = onto (get_or xs 47 0 ∷ []) p48 (one 47 (omega arith)) in
      let p27 = onto (octets_at 20 xs 27) p47 (octets_at_lem 20 xs 27 (omega arith)) in
      let p26 = onto (get_or xs 26 0 ∷ []) p27 (one 26 (omega arith)) in
      let p22 = onto (be 4 (num 4 xs 22)) p26 (be_num o 4 22 (omega arith)) in
      let p18 = onto (be 4 (num 4 xs 18)) p22 (be_num o 4 18 (omega arith)) in
      let p14 = onto (be 4 (num 4 xs 14)) p18 (be_num o 4 14 (omega arith)) in
      let p10 = onto (be 4 (num 4 xs 10)) p14 (be_num o 4 10 (omega arith)) in
      let p9 = onto (get_or xs 9 0 ∷ []) p10 (one 9 (omega arith)) in
      let p8 = onto (get_or xs 8 0 ∷ []) p9 (one 8 (omega arith)) in
      let p4 = onto (be 4 (num 4 xs 4)) p8 (be_num o 4 4 (omega arith)) in
      onto (be 4 (num 4 xs 0)) p4 (be_num o 4 0 (omega arith))

  -- the fields that were read make these octets again
  fixed_again : (rest : List ℕ) → fixed_octets (num 4 xs 0) (num 4 xs 4) (num 4 xs 18) (num 2 xs 48) (header_of xs) ++ rest
      ≡ be 4 (num 4 xs 0) ++ (be 4 (num 4 xs 4) ++ (get_or xs 8 0 ∷ (get_or xs 9 0 ∷ (be 4 (num 4 xs 10) ++ (be 4 (num 4 xs 14) ++ (be 4 (num 4 xs 18) ++ (be 4 (num 4 xs 22)
      ++ (get_or xs 26 0 ∷ (octets_at 20 xs 27 ++ (get_or xs 47 0 ∷ (be 2 (num 2 xs 48) ++ rest)))))))))))
  unfolding fixed_octets header_at
  fixed_again rest =
      let high : get_or xs 8 0 / 32 * 32 + get_or xs 8 0 % 32 ≡ get_or xs 8 0 = omega arith in
      let low : get_or xs 9 0 / 32 * 32 + get_or xs 9 0 % 32 ≡ get_or xs 9 0 = omega arith in
      let opened = word_fields (num 4 xs 10) (num_lt o 4 10) in
      let appended = word_fields (num 4 xs 14) (num_lt o 4 14) in
      λ i. be 4 (num 4 xs 0) ++ (be 4 (num 4 xs 4) ++ (high i ∷ (low i ∷ (be 4 (opened i) ++ (be 4 (appended i) ++ (be 4 (num 4 xs 18) ++ (be 4 (num 4 xs 22)
      ++ (get_or xs 26 0 ∷ (octets_at 20 xs 27 ++ (get_or xs 47 0 ∷ (be 2 (num 2 xs 48) ++ rest)))))))))))

  extension_length : (b : Bool) (x : ℕ) → length (cond b (x ∷ []) []) ≡ cond b 1 0
  extension_length true x = refl
  extension_length false x = refl

  private_length : (b : Bool) (p : List ℕ) → length p ≡ (part_by b xs).octets → length (private_octets (statement_by b xs) p) ≡ cond b (2 + private_length_at xs) 0
  private_length true p e = private_some_length (statement_by true xs) p (there_by (eqb (private_length_at xs) 0)) ∙ ap (λ (n : ℕ). 2 + n) e
  private_length false p e = refl

  stated_by : (b : Bool) → length (private_by b xs) ≡ (part_by b xs).octets → agrees (statement_by b xs) (private_by b xs) ≡ true
  stated_by true e = (λ i. cond (eqb (e i) 0) (ltb (statement_by true xs) 2) (eqb (statement_by true xs) 2)) ∙ agrees_by (eqb (private_length_at xs) 0)
  stated_by false e = refl

  module _ (rs : List Record) (a : Accepted xs rs) where
    size : Sized xs
    size = sized xs a.length_right a.header_right

    pub body : AllRight rs × (records_octets rs ≡ body_of xs)
    body = walked (body_of xs) rs (octets_drop (header_length_at xs) o) a.walk

    filter_length : length (take (filter_length_at xs) (drop 50 xs)) ≡ filter_length_at xs
    filter_length =
        length-take-le (filter_length_at xs) (drop 50 xs)
        (omega (arith, length-drop 50 xs, size.within, size.sum))

    begin : extensions_at xs + (extensions_of (get_or xs 8 0) + extensions_of (get_or xs 9 0)) ≡ header_length_at xs
    begin = records_begin xs size

    private_again : (length (private_by (has_private xs) xs) ≡ (private_part xs).octets)
        × (private_octets (statement_at xs) (private_by (has_private xs) xs) ++ drop (extensions_at xs) xs ≡ drop (50 + filter_length_at xs) xs)
    private_again = private_by_lem (has_private xs) (omega (arith, begin, size.within))

    -- the header's length as the layout adds it
    header_sum : header_length (header_of xs) (file_at xs rs).filter (file_at xs rs).private ≡ header_length_at xs
    unfolding header_at
    header_sum =
        let p = private_length (has_private xs) (private_by (has_private xs) xs) private_again.0 in
        let h = extension_length (eqb (get_or xs 8 0 / 32) 7) (header_of xs).high.extension in
        let l = extension_length (eqb (get_or xs 9 0 / 32) 7) (header_of xs).low.extension in
        omega (arith, filter_length, size.sum)

    -- what stands behind octet 50
    tail_again : take (filter_length_at xs) (drop 50 xs) ++ (private_octets (header_of xs).statement (private_by (has_private xs) xs)
        ++ (extension_octets (header_of xs).high ++ (extension_octets (header_of xs).low ++ records_octets rs))) ≡ drop 50 xs
    unfolding header_at
    tail_again =
        let e = extensions_at xs in
        let h = extensions_of (get_or xs 8 0) in
        let l = extensions_of (get_or xs 9 0) in
        let place : e + h + l ≡ header_length_at xs = omega (arith, begin) in
        let low = onto (extension_octets (header_of xs).low) (body.1 ∙ ap (λ (n : ℕ). drop n xs) (sym place)) (extension_there 9 (e + h) (omega (arith, size.within))) in
        let high = onto (extension_octets (header_of xs).high) low (extension_there 8 e (omega (arith, size.within))) in
        let private = onto (private_octets (statement_at xs) (private_by (has_private xs) xs)) high private_again.1 in
        onto (take (filter_length_at xs) (drop 50 xs)) (private ∙ sym (drop-drop (filter_length_at xs) 50 xs)) (take-append-drop (filter_length_at xs) (drop 50 xs))

    pub layout_again : layout (file_at xs rs) ≡ xs
    unfolding file_octets
    layout_again =
        let f = file_at xs rs in
        let far : length (records_octets rs) ≡ length xs - header_length_at xs = ap length body.1 ∙ length-drop (header_length_at xs) xs in
        let total : header_length (header_of xs) f.filter f.private + length (records_octets rs) ≡ num 4 xs 0 = omega (arith, header_sum, size.within, size.total) in
        let tail = f.filter ++ (private_octets (header_of xs).statement f.private ++ (extension_octets (header_of xs).high ++ (extension_octets (header_of xs).low ++ records_octets rs))) in
        (λ i. fixed_octets (total i) (header_sum i) (sym a.count i) (filter_length i) (header_of xs) ++ tail)
        ∙ ap (λ (l : List ℕ). fixed_octets (num 4 xs 0) (num 4 xs 4) (num 4 xs 18) (num 2 xs 48) (header_of xs) ++ l) tail_again
        ∙ fixed_again (drop 50 xs)
        ∙ fixed_there size.long

    -- the fields are right: a release that was read is narrow
    narrow_by : (b : Bool) (e : ℕ) → cond b (get_or xs e 0) 0 < 256
    narrow_by true e = o.at e
    narrow_by false e = omega arith

    absent_by : (b : Bool) (x y : ℕ) → eqb x 7 ≡ b → (x ≡ 7 → ⊥) → cond b y 0 ≡ 0
    absent_by true x y e h = absurd (h (eqb-true x 7 e))
    absent_by false x y e h = refl

    release_right : (k e : ℕ) → NarrowRelease (release_at xs k e)
    release_right k e =
        record {
          release = omega (arith, o.at k);
          extension = narrow_by (eqb (get_or xs k 0 / 32) 7) e;
          version = omega arith;
          absent = absent_by (eqb (get_or xs k 0 / 32) 7) (get_or xs k 0 / 32) (get_or xs e 0) refl;
        }

    time_right : (k : ℕ) → right (fields_of (num 4 xs k)) ≡ true → Right (fields_of (num 4 xs k))
    time_right k e = right_bounds (fields_of (num 4 xs k)) e (narrow_fields (num 4 xs k) (num_lt o 4 k)).sign

    -- what 10 leaves open
    values : (right (fields_of (num 4 xs 10)) ≡ true) × (right (fields_of (num 4 xs 14)) ≡ true) × (filter_length_at xs ≡ 65535 → ⊥) × ((private_part xs).octets ≡ 65535 → ⊥)
    unfolding header_at
    values =
        let opened = not (right (fields_of (num 4 xs 10))) in
        let appended = not (right (fields_of (num 4 xs 14))) in
        let p = or_false (opened || appended || eqb (filter_length_at xs) 65535) (eqb (private_part xs).octets 65535) a.value_right in
        let f = or_false (opened || appended) (eqb (filter_length_at xs) 65535) p.0 in
        let t = or_false opened appended f.0 in
        (not-false (right (fields_of (num 4 xs 10))) t.0, not-false (right (fields_of (num 4 xs 14))) t.1, eqb-false (filter_length_at xs) 65535 f.1, eqb-false (private_part xs).octets 65535 p.1)

    private_most : (b : Bool) → (part_by b xs).octets < 65536
    private_most true = num_lt o 2 (50 + filter_length_at xs)
    private_most false = omega arith

    pub right_again : RightFile (file_at xs rs)
    unfolding header_at
    right_again =
        let v = values in
        record {
          high = release_right 8 (extensions_at xs);
          low = release_right 9 (extensions_at xs + extensions_of (get_or xs 8 0));
          opened = time_right 10 v.0;
          appended = time_right 14 v.1;
          sequence = num_lt o 4 22;
          reason = o.at 26;
          address = (octets_at_length 20 xs 27, octets_at_octets 20 27 o);
          lost = o.at 47;
          statement = stated_by (has_private xs) private_again.0;
          filter = (let u = v.2 in omega (arith, filter_length, num_lt o 2 48), octets_take (filter_length_at xs) (octets_drop 50 o));
          private =
              (let u = v.3 in omega (arith, private_again.0, private_most (has_private xs)), octets_take (private_part xs).octets (octets_drop (private_part xs).start o));
          records = body.0;
          ordered = ordered (header_of xs).high (header_of xs).low rs a.order;
          size = omega (arith, ap length layout_again, size.short);
        }
