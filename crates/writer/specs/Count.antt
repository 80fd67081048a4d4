-- How many records some octets can hold: a record takes four octets at least (document 01, Record header), so a file that is
-- short enough has a number of CDRs that fits its four octets. Holds of any octets, of cut records too. Assumes nothing.
use Rattle.std.specs.Prelude.{◌≡◌, refl, Bool, true, false, cond, List, [], ℕ, zero, suc, ◌+◌, ◌*◌, ◌≤◌, eqb, length, drop}
use Rattle.std.proofs.Common.{arith, length-drop}
use Rattle.record.specs.Record.{Record}
use Rattle.record.specs.Step.{cut, record_of, record_length_at, inside}
use Rattle.record.specs.Walk.{Walked, records, broken, prepend, walk_in, walk_of, tallied, tally_of}

-- one record more is four octets more
one_more : (r : Record) (w : Walked) → (tallied (prepend r w)).count * 4 ≤ 4 + (tallied w).count * 4
one_more r (records rs) = omega arith
one_more r broken = omega arith

-- by whether octets are left and a whole record begins with them; `ih` is the same of the octets behind it
module _ (n : ℕ) (xs : List ℕ) (ih : (tallied (walk_in n (drop (record_length_at xs) xs))).count * 4 ≤ length (drop (record_length_at xs) xs)) where
  four_whole : (b : Bool) → cut xs ≡ b → (tallied (cond b broken (prepend (record_of xs) (walk_in n (drop (record_length_at xs) xs))))).count * 4 ≤ length xs
  four_whole true e = omega arith
  four_whole false e =
      let i = inside xs e in
      omega (arith, one_more (record_of xs) (walk_in n (drop (record_length_at xs) xs)), length-drop (record_length_at xs) xs)

  four_left : (b : Bool) → (tallied (cond b (records []) (cond (cut xs) broken (prepend (record_of xs) (walk_in n (drop (record_length_at xs) xs)))))).count * 4 ≤ length xs
  four_left true = omega arith
  four_left false = four_whole (cut xs) refl

four_in : (n : ℕ) (xs : List ℕ) → (tallied (walk_in n xs)).count * 4 ≤ length xs
four_in zero xs = omega arith
four_in (suc n) xs = four_left n xs (four_in n (drop (record_length_at xs) xs)) (eqb (length xs) 0)

-- four times the number of records is at most their octets
pub four_each : (xs : List ℕ) → (tally_of xs).count * 4 ≤ length xs
unfolding tally_of walk_of
four_each xs = four_in (length xs) xs
