-- Two files held together (document 02, ask 9): how many records are in both, only in the first and only in the second. A record is its octets, header and
-- body; what the files' headers say does not count. For each distinct record the number in both is the smaller of its two multiplicities (`in_both`), and
-- the number only in one file is that by which its multiplicity there exceeds the other (`only_in`); the order of the records plays no part. Refusal 23: a
-- file that the reader refuses, with its side (1 or 2) and the reader's number; the first file is tested before the second, and all else is 0.
use Rattle.std.specs.Prelude.{Bool, true, false, ◌&&◌, List, [], ◌∷◌, map, ℕ, zero, suc, eqb, Result, Ok, Err}
use Rattle.record.specs.Record.{record_octets}
use Rattle.reader.specs.Reader.{read_of}
use Rattle.roundtrip.specs.Handed.{handed_back}
use Rattle.multisets.specs.InBoth.{in_both}
use Rattle.multisets.specs.Surplus.{only_in}
use Rattle.reconcile.specs.declared.Reconciled.{Reconciled}
use Rattle.reconcile.specs.declared.Shares.{Shares}
use Rattle.reconcile.specs.declared.Refused.{Refused}
use Rattle.reconcile.specs.declared.Side.{Side}
use Rattle.reconcile.specs.declared.Side.TheVariants.{First, Second}

-- whether two records have the same octets
abbrev pub equal_octets : List ℕ → List ℕ → Bool
equal_octets [] [] = true
equal_octets [] (y ∷ ys) = false
equal_octets (x ∷ xs) [] = false
equal_octets (x ∷ xs) (y ∷ ys) = eqb x y && equal_octets xs ys

-- the records that the reader hands back, each as its octets
abbrev pub records_filed : List ℕ → List (List ℕ)
records_filed file = map record_octets (handed_back file (read_of file)).records

-- two files that the reader accepts
abbrev pub held_together : List ℕ → List ℕ → Reconciled
held_together first second =
    record {
      refusal = 0;
      side = 0;
      number = 0;
      both = in_both equal_octets (records_filed first) (records_filed second);
      first = only_in equal_octets (records_filed first) (records_filed second);
      second = only_in equal_octets (records_filed second) (records_filed first);
    }

-- refusal 23, with the side and the reader's number
abbrev pub refused_side : ℕ → ℕ → Reconciled
refused_side side number = record { refusal = 23; side = side; number = number; both = 0; first = 0; second = 0 }

-- by the reader's number for the second file, and before it by that for the first
abbrev pub by_second : ℕ → List ℕ → List ℕ → Reconciled
by_second zero first second = held_together first second
by_second (suc n) first second = refused_side 2 (suc n)

abbrev pub by_first : ℕ → List ℕ → List ℕ → Reconciled
by_first zero first second = by_second (read_of second).refusal first second
by_first (suc n) first second = refused_side 1 (suc n)

-- THE DEFINITION: any two files
unfoldable pub reconciled_of : List ℕ → List ℕ → Reconciled
reconciled_of first second = by_first (read_of first).refusal first second

-- The code's answer: what two accepted files share, or the side that is refused and the reader's number.
abbrev pub side_number : Side → ℕ
side_number First = 1
side_number Second = 2

abbrev pub reconciled : Result Shares Refused → Reconciled
reconciled (Ok s) = record { refusal = 0; side = 0; number = 0; both = s.both; first = s.first; second = s.second }
reconciled (Err r) = refused_side (side_number r.side) r.number
