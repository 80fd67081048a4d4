-- TWO FILES HELD TOGETHER (document 02, ask 9), stated alone: read this file without its proof (proofs/ReconciliationHolds.antt).
--
-- In plain words. A record is its octets, header and body. Of any two files each clause of `Reconciliation` says:
--
-- `refused_first`: where the reader refuses the first file the answer is 23, side 1 and the reader's number, with zeros elsewhere, whatever the second file is.
-- `refused_second`: where it accepts the first and refuses the second the answer is 23, side 2 and the reader's number, with zeros elsewhere.
--
-- and of any two files that the reader accepts:
--
-- `accepted`: refusal, side and number are 0.
-- `by_multiplicity`: list each distinct record of the first file once, in any order, with or without others; the number in both is the sum over this list
--   of the smaller of the two numbers of times that a record stands in the files.
-- `first_sum`, `second_sum`: the records in both and those only in one file are together as many as that file's count says.
-- `swapped`: the files the other way round keep the number in both and exchange the other two.
-- `itself`: a file held against itself has nothing only on one side.
-- `same`: nothing is only on one side exactly when every record stands equally often in both files, whatever their order.
--
-- `reconciled_of` is the definition that the contract of reconcile::reconcile cites, over every input; `read_of` is the reader's, and `Octets` says that elements
-- are below 256, which Rattle's types give.
use Rattle.std.specs.Prelude.{◌≡◌, ◌↔◌, List, ℕ, ◌+◌, ◌≤◌}
use Rattle.octets.specs.Number.{Octets}
use Rattle.reader.specs.Reader.{read_of}
use Rattle.multisets.specs.InBoth.{multiplicity, sum_lesser}
use Rattle.reconcile.specs.Reconciled.{equal_octets, records_filed, refused_side, reconciled_of}

-- how often a record stands in a file
abbrev pub often_in : List ℕ → List ℕ → ℕ
often_in file r = multiplicity equal_octets r (records_filed file)

-- a list of records, none twice, in which each record of a file stands
pub record ListsOnce (file : List ℕ) (ds : List (List ℕ)) : Type 0 where
  pub none_twice : (r : List ℕ) → multiplicity equal_octets r ds ≤ 1
  pub each : (r : List ℕ) → (often_in file r ≡ 0 → ⊥) → multiplicity equal_octets r ds ≡ 1

-- two files that the reader accepts
pub record BothAccepted (f g : List ℕ) : Type 0 where
  pub octets_first : Octets f
  pub octets_second : Octets g
  pub first : (read_of f).refusal ≡ 0
  pub second : (read_of g).refusal ≡ 0

pub record Reconciliation : Type 0 where
  -- a refused first file is the answer
  pub refused_first : (f g : List ℕ) → ((read_of f).refusal ≡ 0 → ⊥) → reconciled_of f g ≡ refused_side 1 (read_of f).refusal
  -- and a refused second file where the first is accepted
  pub refused_second : (f g : List ℕ) → (read_of f).refusal ≡ 0 → ((read_of g).refusal ≡ 0 → ⊥) → reconciled_of f g ≡ refused_side 2 (read_of g).refusal
  -- two accepted files get no refusal
  pub accepted : {f g : List ℕ} → BothAccepted f g
      → ((reconciled_of f g).refusal ≡ 0) × ((reconciled_of f g).side ≡ 0) × ((reconciled_of f g).number ≡ 0)
  -- the number in both goes by the multiplicities of the distinct records, however these are listed
  pub by_multiplicity : {f g : List ℕ} → BothAccepted f g → (ds : List (List ℕ)) → ListsOnce f ds
      → (reconciled_of f g).both ≡ sum_lesser equal_octets ds (records_filed f) (records_filed g)
  -- both and only in one file are that file's count
  pub first_sum : {f g : List ℕ} → BothAccepted f g → (reconciled_of f g).both + (reconciled_of f g).first ≡ (read_of f).count
  pub second_sum : {f g : List ℕ} → BothAccepted f g → (reconciled_of f g).both + (reconciled_of f g).second ≡ (read_of g).count
  -- the other way round the last two numbers are exchanged
  pub swapped : {f g : List ℕ} → BothAccepted f g
      → reconciled_of g f
      ≡ record { refusal = 0; side = 0; number = 0; both = (reconciled_of f g).both; first = (reconciled_of f g).second; second = (reconciled_of f g).first }
  -- a file against itself
  pub itself : {f : List ℕ} → BothAccepted f f → ((reconciled_of f f).first ≡ 0) × ((reconciled_of f f).second ≡ 0)
  -- the same multiset of records exactly when nothing is only on one side
  pub same : {f g : List ℕ} → BothAccepted f g
      → ((r : List ℕ) → often_in f r ≡ often_in g r) ↔ (((reconciled_of f g).first ≡ 0) × ((reconciled_of f g).second ≡ 0))
