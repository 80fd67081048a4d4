-- Files about the limit of 1,048,576 octets (document 01, Reader and Refusals, 8), which are too long to evaluate: any number n of records of
-- four octets, one after another, handed to the writer, and any octets handed to the reader. 8 comes after 13 and before 17. The edge table
-- has the numbers of records on either side of the limit (edge_table, Orders.antt).
use Rattle.std.specs.Prelude.{◌≡◌, refl, Bool, true, false, ◌&&◌, List, [], ◌∷◌, ℕ, zero, suc, ◌+◌, ◌*◌, ◌≤◌, ◌<◌, ltb, length, get_or, take, replicate}
use Rattle.std.proofs.Common.{sym, ap, ◌∙◌, arith, lit≤, lit<, lt-ltb, ltb-true}
use Rattle.octets.specs.Number.{Octets}
use Rattle.refusals.specs.Refusal.{or_left, or_right}
use Rattle.refusals.specs.Tests.{both}
use Rattle.record.specs.declared.Release.{Release}
use Rattle.record.specs.Release.{rank}
use Rattle.record.specs.Record.{Record, AllRight, record_octets, records_octets, highest, lowest}
use Rattle.record.specs.Walk.{Tallied, records, tallied, tally_of}
use Rattle.record.specs.Format.{walks}
use Rattle.cdrfile.specs.declared.Header.{Header}
use Rattle.cdrfile.specs.File.{header_length}
use Rattle.cdrfile.specs.Order.{wrong_order}
use Rattle.reader.specs.Reader.{wrong_length, verdict, refused_contents, read_of}
use Rattle.writer.specs.declared.Written.{Written}
use Rattle.writer.specs.Writer.{After, after, wrong_fields, wrong_value, needed_octets, write_of}
use Rattle.writer.specs.Cases.{answered, Passed, write_disordered, write_long, write_needing, write_done}
use Rattle.roundtrip.specs.Described.{Ordered}
use Rattle.roundtrip.proofs.Ordered.{ordered, not_wrong}
use Rattle.roundtrip.specs.Held.{Held}
use Rattle.roundtrip.specs.Demand2.{Call, Plain, left_by}
use Rattle.roundtrip.proofs.Demand2Holds.{demand_2}

-- The reader: any octets that are too many, and any that are too few, whatever they are.
reads_8 : (x : List ℕ) → wrong_length x ≡ true → read_of x ≡ refused_contents 8
unfolding read_of verdict
reads_8 x e = rw e

pub reads_over : (x : List ℕ) → 1048576 < length x → read_of x ≡ refused_contents 8
unfolding wrong_length
reads_over x h = reads_8 x (or_left _ (or_right (ltb (length x) 50) (lt-ltb 1048576 (length x) h)))

pub reads_under : (x : List ℕ) → length x < 50 → read_of x ≡ refused_contents 8
unfolding wrong_length
reads_under x h = reads_8 x (or_left _ (or_left _ (lt-ltb (length x) 50 h)))

-- A record of four octets, 00 00 83 2F: release 4, version 3, format 1, TS 15, no body. And n of them.
abbrev pub smallest : Record
smallest = record { header = record { release = record { release = 4; extension = 0; version = 3 }; format = 1; ts = 15 }; body = [] }

unfoldable pub many : ℕ → List ℕ
many zero = []
many (suc n) = 0x00 ∷ 0x00 ∷ 0x83 ∷ 0x2F ∷ many n

pub many_length : (n : ℕ) → length (many n) ≡ 4 * n
unfolding many
many_length zero = refl
many_length (suc n) = omega (arith, many_length n)

many_octets : (n : ℕ) → records_octets (replicate n smallest) ≡ many n
unfolding many records_octets record_octets
many_octets zero = refl
many_octets (suc n) = ap (λ (l : List ℕ). 0x00 ∷ (0x00 ∷ (0x83 ∷ (0x2F ∷ l)))) (many_octets n)

-- elements that are octets, by a test, and those of n records
abbrev pub all_octets : List ℕ → Bool
all_octets [] = true
all_octets (x ∷ xs) = ltb x 256 && all_octets xs

octet_at : (xs : List ℕ) → all_octets xs ≡ true → (i : ℕ) → get_or xs i 0 < 256
octet_at [] e i = lit< tt
octet_at (x ∷ xs) e zero = ltb-true x 256 (both (ltb x 256) (all_octets xs) e).0
octet_at (x ∷ xs) e (suc i) = octet_at xs (both (ltb x 256) (all_octets xs) e).1 i

pub tested_octets : (xs : List ℕ) → all_octets xs ≡ true → Octets xs
tested_octets xs e = record { at = octet_at xs e }

many_all : (n : ℕ) → all_octets (many n) ≡ true
unfolding many
many_all zero = refl
many_all (suc n) = many_all n

many_right : (n : ℕ) → AllRight (replicate n smallest)
many_right zero = tt
many_right (suc n) = (
  record {
    release = record { release = lit< tt; extension = lit< tt; version = lit< tt; absent = λ h. refl };
    format = lit< tt;
    ts = lit< tt;
    short = lit≤ tt;
    octets = record { at = λ i. lit< tt };
  },
  many_right n,
)

-- the place of release 4, version 3 in the order of releases, which is that of the greatest and of the least
abbrev pub smallest_rank : ℕ
smallest_rank = rank smallest.header.release

highest_within : (n : ℕ) → highest (replicate n smallest) ≤ smallest_rank
unfolding highest
highest_within zero = lit≤ tt
highest_within (suc n) = omega (arith, highest_within n)

lowest_within : (n : ℕ) → smallest_rank ≤ lowest (replicate n smallest)
unfolding lowest
lowest_within zero = lit≤ tt
lowest_within (suc n) = omega (arith, lowest_within n)

many_tally : (n : ℕ) → tally_of (many n) ≡ tallied (records (replicate n smallest))
unfolding tally_of
many_tally n = ap tallied (walks (many n) (replicate n smallest) (many_right n) (many_octets n))

many_highest : (n : ℕ) → highest (replicate (suc n) smallest) ≡ smallest_rank
unfolding highest
many_highest n = omega (arith, highest_within n)

many_lowest : (n : ℕ) → lowest (replicate (suc n) smallest) ≡ smallest_rank
unfolding lowest
many_lowest n = omega (arith, lowest_within n)

pub many_whole : (n : ℕ) → (tally_of (many n)).refusal ≡ 0
many_whole n = ap (λ (t : Tallied). t.refusal) (many_tally n)

-- the test of high and low, on n such records: right where both are their release, and wrong where high is not
module _ (high low : Release) where
  many_ordered : rank high ≡ smallest_rank → rank low ≡ smallest_rank → (n : ℕ) → wrong_order high low (tally_of (many n)) ≡ false
  many_ordered eh el n = ap (wrong_order high low) (many_tally n) ∙ not_wrong high low (replicate n smallest) (by_count n)
    where
      by_count : (k : ℕ) → Ordered high low (replicate k smallest)
      by_count zero = omega arith
      by_count (suc k) = (eh ∙ sym (many_highest k), el ∙ sym (many_lowest k))

  many_disordered : (rank high ≡ smallest_rank → ⊥) → (n : ℕ) → wrong_order high low (tally_of (many (suc n))) ≡ true
  many_disordered wrong n = ap (wrong_order high low) (many_tally (suc n)) ∙ by_test (wrong_order high low (tallied (records (replicate (suc n) smallest)))) refl
    where
      by_test : (b : Bool) → wrong_order high low (tallied (records (replicate (suc n) smallest))) ≡ b → b ≡ true
      by_test true e = refl
      by_test false e = absurd (wrong ((ordered high low (replicate (suc n) smallest) e).0 ∙ many_highest n))

-- The writer, with header fields, a filter and private octets that neither 2 nor 10 refuses, and n such records.
module _ (h : Header) (filter private : List ℕ) (fields : wrong_fields h private ≡ false) (value : wrong_value h filter private ≡ false) where
  -- how long the file is
  abbrev size : ℕ → ℕ
  size n = header_length h filter private + 4 * n

  needed : (n : ℕ) → needed_octets h filter private (many n) ≡ size n
  needed n = ap (λ (k : ℕ). header_length h filter private + k) (many_length n)

  -- 13 where high is not the records' release, however long the file is
  pub writes_13 : (rank h.high ≡ smallest_rank → ⊥) → (n : ℕ) (output : List ℕ) → write_of h filter private (many (suc n)) output ≡ after (answered 13 0) output
  writes_13 wrong n output =
      sym (write_disordered h filter private (many (suc n)) output fields value (many_whole (suc n)) (many_disordered h.high h.low wrong n))

  module _ (high : rank h.high ≡ smallest_rank) (low : rank h.low ≡ smallest_rank) (n : ℕ) (output : List ℕ) where
    passed : Passed h filter private (many n)
    passed = record { fields = fields; right = value; whole = many_whole n; ordered = many_ordered h.high h.low high low n }

    -- else 8 where the file is over the limit, however short the output is
    pub writes_8 : 1048576 < size n → write_of h filter private (many n) output ≡ after (answered 8 0) output
    writes_8 over = sym (write_long h filter private (many n) output passed (omega (arith, needed n)))

    -- else 17 with the file's length where the output is shorter
    pub writes_17 : size n ≤ 1048576 → length output < size n → write_of h filter private (many n) output ≡ after (answered 17 (size n)) output
    writes_17 within short =
        sym (write_needing h filter private (many n) output passed (omega (arith, needed n)) (omega (arith, needed n)))
        ∙ ap (λ (k : ℕ). after (answered 17 k) output) (needed n)

    -- and else it is written
    pub writes_all : size n ≤ 1048576 → size n ≤ length output → (write_of h filter private (many n) output).answer ≡ answered 0 (size n)
    writes_all within room =
        ap (λ (a : After). a.answer) (sym (write_done h filter private (many n) output passed (omega (arith, needed n)) (omega (arith, needed n))))
        ∙ ap (answered 0) (needed n)

    -- and the reader accepts it
    pub reads_all : Held h → Octets filter → Octets private → size n ≤ 1048576 → size n ≤ length output
        → (read_of (take (size n) (write_of h filter private (many n) output).output)).refusal ≡ 0
    reads_all held of op within room =
        let c : Call = record { header = h; filter = filter; private = private; records = many n; output = output } in
        let p : Plain c = record { header = held; filter = of; private = op; records = tested_octets (many n) (many_all n) } in
        let w = writes_all within room in
        ap (λ (k : ℕ). (read_of (take k (left_by c).output)).refusal) (sym (ap (λ (a : Written). a.octets) w))
        ∙ (demand_2.written_read c p (ap (λ (a : Written). a.refusal) w)).0
