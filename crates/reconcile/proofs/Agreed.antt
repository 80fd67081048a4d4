-- What the code counts is what the definition says (Reconciled): of a file that the reader accepts, the records from their start on are those that the
-- reader hands back; and the count of both and the lengths make the three numbers.
use Rattle.std.specs.Prelude.{◌≡◌, refl, Bool, true, false, List, map, ℕ, zero, suc, ◌-◌, ◌≤◌}
use Rattle.std.proofs.Math.Path.{sym}
use Rattle.std.proofs.Common.{ap, ◌∙◌, arith}
use Rattle.std.proofs.Math.ListN.{length}
use Rattle.std.proofs.lemmas.List.{length-map}
use Rattle.octets.specs.Number.{Octets}
use Rattle.record.specs.Record.{Record, record_octets}
use Rattle.cdrfile.specs.File.{File}
use Rattle.reader.specs.declared.Contents.{Contents}
use Rattle.reader.specs.Places.{header_length_at}
use Rattle.reader.specs.Reader.{read_of}
use Rattle.reader.specs.Frame.{Sized, sized}
use Rattle.roundtrip.specs.Handed.{handed_back}
use Rattle.roundtrip.proofs.Accepted.{Accepted, accepts, accepted}
use Rattle.roundtrip.proofs.Back.{read_number, back}
use Rattle.roundtrip.proofs.Demand2Holds.{demand_2}
use Rattle.multisets.specs.InBoth.{Equality, in_both}
use Rattle.multisets.specs.Surplus.{only_in, both_and_only, both_turned}
use Rattle.recordorder.specs.At.{record_at}
use Rattle.offsets.specs.Offsets.{offsets_of, records_from}
use Rattle.sharing.specs.Counting.{same_octets, same_octets_lem}
use Rattle.reconcile.specs.declared.Shares.{Shares}
use Rattle.reconcile.specs.declared.Reconciled.{Reconciled}
use Rattle.reconcile.specs.Reconciled.{equal_octets, records_filed, refused_side, by_second, by_first, reconciled_of}
use Rattle.reconcile.proofs.Equal.{equal_octets_lem}
use Rattle.reconcile.specs.Shares.{shares_of}
use Rattle.reconcile.proofs.Records.{records_are}

-- An accepted file.
module _ (x : List ℕ) (e : (read_of x).refusal ≡ 0) where
  accepted_records : (rs : List Record) × Accepted x rs
  accepted_records = accepted x (sym (read_number x) ∙ e)

  frame : Sized x
  frame = sized x accepted_records.1.length_right accepted_records.1.header_right

  start_is : (read_of x).records.start ≡ header_length_at x
  start_is = ap (λ (c : Contents). c.records.start) (accepts x accepted_records.0 accepted_records.1)

  pub start_within : (read_of x).records.start ≤ length x
  start_within = omega (arith, start_is, frame.within)

  pub file_short : length x ≤ 1048576
  file_short = frame.short

  handed : (handed_back x (read_of x)).records ≡ accepted_records.0
  handed = ap (λ (c : Contents). (handed_back x c).records) (accepts x accepted_records.0 accepted_records.1) ∙ ap (λ (f : File). f.records) (back accepted_records.0 accepted_records.1)

  pub records_in_lem : Octets x → records_from x (read_of x).records.start ≡ records_filed x
  records_in_lem o =
      ap (records_from x) start_is ∙ records_are x o (header_length_at x) accepted_records.0 accepted_records.1.walk ∙ ap (map record_octets) (sym handed)

  -- as many as the count says
  pub as_counted : Octets x → length (records_filed x) ≡ (read_of x).count
  as_counted o = length-map (handed_back x (read_of x)).records record_octets ∙ (demand_2.counted o e).2

  pub offsets_counted : Octets x → length (offsets_of x (read_of x).records.start) ≡ (read_of x).count
  offsets_counted o =
      sym (length-map (offsets_of x (read_of x).records.start) (record_at x)) ∙ ap length (records_in_lem o) ∙ as_counted o

-- Two tests of equality agree.
tests_agree : {A : Type 0} {p q : A → A → Bool} → Equality p → Equality q → (x y : A) → p x y ≡ q x y
tests_agree {A} {p} {q} e f x y = go (p x y) (q x y) refl refl
  where
    go : (b c : Bool) → p x y ≡ b → q x y ≡ c → b ≡ c
    go true true k l = refl
    go true false k l = sym (f.self x) ∙ ap (q x) (e.is x y k) ∙ l
    go false true k l = sym k ∙ ap (p x) (sym (f.is x y l)) ∙ e.self x
    go false false k l = refl

same_test : same_octets ≡ equal_octets
same_test = λ i x y. tests_agree same_octets_lem equal_octets_lem x y i

-- The three numbers.
module _ (xs ys : List (List ℕ)) where
  pub only_first : length xs - in_both equal_octets xs ys ≡ only_in equal_octets xs ys
  only_first = omega (arith, both_and_only equal_octets equal_octets_lem xs ys)

  pub only_second : length ys - in_both equal_octets xs ys ≡ only_in equal_octets ys xs
  only_second = omega (arith, both_turned equal_octets equal_octets_lem xs ys, both_and_only equal_octets equal_octets_lem ys xs)

-- Two accepted files.
module _ (f g : List ℕ) (o : Octets f) (p : Octets g) (d : (read_of f).refusal ≡ 0) (e : (read_of g).refusal ≡ 0) where
  abbrev pub as_held : Shares → Reconciled
  as_held s = record { refusal = 0; side = 0; number = 0; both = s.both; first = s.first; second = s.second }

  pub shares_held : as_held (shares_of f (read_of f).records.start g (read_of g).records.start) ≡ reconciled_of f g
  unfolding shares_of reconciled_of
  shares_held =
      (λ i. as_held
      (record {
        both = in_both (same_test i) (records_in_lem f d o i) (records_in_lem g e p i);
        first = length (records_in_lem f d o i) - in_both (same_test i) (records_in_lem f d o i) (records_in_lem g e p i);
        second = length (records_in_lem g e p i) - in_both (same_test i) (records_in_lem f d o i) (records_in_lem g e p i);
      }))
      ∙ (λ i. record {
        refusal = 0;
        side = 0;
        number = 0;
        both = in_both equal_octets (records_filed f) (records_filed g);
        first = only_first (records_filed f) (records_filed g) i;
        second = only_second (records_filed f) (records_filed g) i;
      })
      ∙ sym (ap (λ (n : ℕ). by_second n f g) e)
      ∙ sym (ap (λ (n : ℕ). by_first n f g) d)

-- A refused file.
module _ (f g : List ℕ) where
  first_by : (n : ℕ) → (n ≡ 0 → ⊥) → refused_side 1 n ≡ by_first n f g
  first_by zero h = absurd (h refl)
  first_by (suc n) h = refl

  second_by : (n : ℕ) → (n ≡ 0 → ⊥) → refused_side 2 n ≡ by_second n f g
  second_by zero h = absurd (h refl)
  second_by (suc n) h = refl

  pub refused_first : ((read_of f).refusal ≡ 0 → ⊥) → refused_side 1 (read_of f).refusal ≡ reconciled_of f g
  unfolding reconciled_of
  refused_first h = first_by (read_of f).refusal h

  pub refused_second : (read_of f).refusal ≡ 0 → ((read_of g).refusal ≡ 0 → ⊥) → refused_side 2 (read_of g).refusal ≡ reconciled_of f g
  unfolding reconciled_of
  refused_second d h = second_by (read_of g).refusal h ∙ sym (ap (λ (n : ℕ). by_first n f g) d)
