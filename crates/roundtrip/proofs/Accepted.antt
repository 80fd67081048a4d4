-- What acceptance says of a file's octets, condition by condition, and that these conditions are acceptance. Assumes nothing.
use Rattle.std.specs.Prelude.{◌≡◌, false, not, List, [], ◌∷◌, ℕ, length}
use Rattle.std.proofs.Math.Path.{refl, ap}
use Rattle.std.proofs.Common.{◌∙◌, arith}
use Rattle.std.proofs.Math.Bool.{true}
use Rattle.std.proofs.Math.Dec.{eqb}
use borrow.Author.Tests.{eqb-true, eq-eqb, not-false}
use Rattle.octets.specs.Number.{num}
use Rattle.refusals.specs.Refusal.{◌when◌, first, passed}
use Rattle.record.specs.Record.{Record}
use Rattle.record.specs.Walk.{Tallied, Walked, records, broken, walk_of, tallied, tally_of}
use Rattle.cdrfile.specs.Order.{wrong_order}
use Rattle.reader.specs.Places.{filter_length_at, private_part}
use Rattle.reader.specs.Reader.{wrong_length, wrong_header_length, wrong_value, wrong_records, header_of, body_of, verdict, read_of, contents_of}

-- none of 8 to 13 applies; rs are the records
pub record Accepted (xs : List ℕ) (rs : List Record) : Type 0 where
  pub length_right : wrong_length xs ≡ false
  pub header_right : wrong_header_length xs ≡ false
  pub value_right : wrong_value (header_of xs) (filter_length_at xs) (private_part xs) ≡ false
  pub walk : walk_of (body_of xs) ≡ records rs
  pub count : num 4 xs 18 ≡ length rs
  pub order : wrong_order (header_of xs).high (header_of xs).low (tallied (records rs)) ≡ false

module _ (xs : List ℕ) where
  -- the conditions give acceptance
  pub accepts : (rs : List Record) → Accepted xs rs → read_of xs ≡ contents_of xs
  unfolding read_of verdict tally_of
  accepts rs a =
      let t : tallied (walk_of (body_of xs)) ≡ tallied (records rs) = ap tallied a.walk in
      let c : eqb (num 4 xs 18) (length rs) ≡ true = eq-eqb _ _ a.count in
      let rules : first (wrong_records (header_of xs) (num 4 xs 18) (tallied (walk_of (body_of xs)))) ≡ 0 =
      ap (λ (s : Tallied). first (wrong_records (header_of xs) (num 4 xs 18) s)) t ∙ rw (c, a.order) in
      rw (a.length_right, a.header_right, a.value_right, rules)

  -- and acceptance the conditions, for some records
  by_walk : (w : Walked) → walk_of (body_of xs) ≡ w → first (wrong_records (header_of xs) (num 4 xs 18) (tallied w)) ≡ 0
      → wrong_length xs ≡ false → wrong_header_length xs ≡ false → wrong_value (header_of xs) (filter_length_at xs) (private_part xs) ≡ false
      → (rs : List Record) × Accepted xs rs
  by_walk broken e f l h v = let z : ⊥ = omega arith in absurd z
  by_walk (records rs) e f l h v =
      let c = passed 11 (not (eqb (num 4 xs 18) (length rs))) ((13 when wrong_order (header_of xs).high (header_of xs).low (tallied (records rs))) ∷ []) f in
      let o = passed 12 (wrong_order (header_of xs).high (header_of xs).low (tallied (records rs))) [] c.1 in (
        rs,
        record {
          length_right = l;
          header_right = h;
          value_right = v;
          walk = e;
          count = eqb-true (num 4 xs 18) (length rs) (not-false (eqb (num 4 xs 18) (length rs)) c.0);
          order = o.0;
        },
      )

  pub accepted : verdict xs ≡ 0 → (rs : List Record) × Accepted xs rs
  unfolding verdict tally_of
  accepted e =
      let behind = wrong_records (header_of xs) (num 4 xs 18) (tally_of (body_of xs)) in
      let v = wrong_value (header_of xs) (filter_length_at xs) (private_part xs) in
      let l = passed 7 (wrong_length xs) ((9 when wrong_header_length xs) ∷ ((10 when v) ∷ behind)) e in
      let h = passed 8 (wrong_header_length xs) ((10 when v) ∷ behind) l.1 in
      let w = passed 9 v behind h.1 in
      by_walk (walk_of (body_of xs)) refl w.1 l.0 h.0 w.0
