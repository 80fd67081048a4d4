-- The order of the reader's refusals, 8 to 13, and of the writer's, 2, 10, 11, 13, 8, 17 (document 01, Reader and Refusals), on document 01's file:
-- for each two neighbours an input to which exactly these two apply, and the first is the answer; beside it one to which only the second
-- applies. All by evaluation but the writer's 8: a file of over 1,048,576 octets is too long to evaluate, so those rows, at the numbers of
-- records on either side of the limit, are instances of laws for any number of records (roundtrip, Limits.antt); they say the answer, and not
-- which other numbers apply.
use Rattle.std.specs.Prelude.{◌≡◌, refl, cond, List, [], ◌∷◌, ◌++◌, ℕ, ◌≤◌, ◌<◌, length, set, replicate, take, drop}
use Rattle.std.proofs.Common.{arith, lit≤, lit<}
use Rattle.octets.specs.Number.{be}
use Rattle.octets.specs.Splice.{splice}
use Rattle.refusals.specs.Refusal.{Rule}
use Rattle.timestamp.specs.Timestamp.{word_of, fields_of}
use Rattle.timestamp.specs.LocalTime.{timestamp_of}
use Rattle.calendar.specs.Calendar.{date_from, month_days}
use Rattle.record.specs.declared.Release.{Release}
use Rattle.record.specs.Record.{highest, lowest}
use Rattle.record.specs.Step.{cut}
use Rattle.record.specs.Walk.{walk_of, tally_of}
use Rattle.cdrfile.specs.declared.Header.{Header}
use Rattle.cdrfile.specs.File.{fixed_octets, file_octets}
use Rattle.reader.specs.Places.{header_at}
use Rattle.reader.specs.Reader.{wrong_length, wrong_header_length, verdict, refused_contents, read_of}
use Rattle.writer.specs.Writer.{after, write_of}
use Rattle.writer.specs.Writer.{verdict as writer_verdict}
use Rattle.roundtrip.specs.Held.{Held}
use Rattle.roundtrip.specs.Demand2.{reader_rules, Call, left_by, writer_rules}
use Rattle.roundtrip.proofs.Limits.{reads_over, reads_under, many, tested_octets, writes_13, writes_8, writes_17, writes_all, reads_all}
use Rattle.edge_table.specs.EdgeTable.{timed_stating, stating, record_part, octets, midnight}

-- the numbers of all rules that apply
abbrev applying : List Rule → List ℕ
applying [] = []
applying (r ∷ rs) = cond r.applies (r.number ∷ applying rs) (applying rs)

-- The reader: n and the other numbers apply to these octets, and no others do; n is the answer.
abbrev Reads : List ℕ → ℕ → List ℕ → Type 0
Reads x n others = (applying (reader_rules x) ≡ n ∷ others) × (read_of x ≡ refused_contents n)

-- the file with one octet after octet 50, a header of 51 octets that no part explains, and this length field; the file has 57 octets
abbrev one_more : ℕ → List ℕ
one_more total = be 4 total ++ (be 4 51 ++ (take 42 (drop 8 octets) ++ (0 ∷ record_part)))

-- opened in month 13; a count; a body of three octets, of which two are there; high version 4; low version 4, above high
abbrev month_thirteen : List ℕ → List ℕ
month_thirteen x = set x 10 0xD0

abbrev counting : ℕ → List ℕ → List ℕ
counting n x = set x 21 n

abbrev cut_record : List ℕ → List ℕ
cut_record x = set x 51 3

abbrev other_high : List ℕ → List ℕ
other_high x = set x 8 0x84

abbrev low_above : List ℕ → List ℕ
low_above x = set x 9 0x84

abbrev pub ReaderOrder : Type 0
ReaderOrder =
    -- 8 alone, by the length field
    Reads (set octets 3 57) 8 []
    -- 8 and 9; 9 alone
    × Reads (one_more 56) 8 (9 ∷ [])
    × Reads (one_more 57) 9 []
    -- 9 and 10; 10 alone
    × Reads (month_thirteen (one_more 57)) 9 (10 ∷ [])
    × Reads (month_thirteen octets) 10 []
    -- 10 and 11; 11 alone: no record is counted where one is cut, so the count is 0
    × Reads (month_thirteen (cut_record (counting 0 octets))) 10 (11 ∷ [])
    × Reads (cut_record (counting 0 octets)) 11 []
    -- 11 and 12; 12 alone
    × Reads (cut_record octets) 11 (12 ∷ [])
    × Reads (counting 2 octets) 12 []
    -- 12 and 13; 13 alone
    × Reads (other_high (counting 2 octets)) 12 (13 ∷ [])
    × Reads (other_high octets) 13 []
    -- all six
    × Reads (low_above (cut_record (month_thirteen (set (set octets 7 49) 3 57)))) 8 (9 ∷ 10 ∷ 11 ∷ 12 ∷ 13 ∷ [])

pub reader_order : ReaderOrder
unfolding read_of verdict wrong_length wrong_header_length header_at fields_of tally_of walk_of cut highest lowest
reader_order = (
  (refl, refl),
  (refl, refl),
  (refl, refl),
  (refl, refl),
  (refl, refl),
  (refl, refl),
  (refl, refl),
  (refl, refl),
  (refl, refl),
  (refl, refl),
  (refl, refl),
  (refl, refl),
)

-- The writer: n and the other numbers apply to this call, and no others do; n is the answer, and the output stays.
abbrev Writes : Call → ℕ → List ℕ → Type 0
Writes c n others = (applying (writer_rules c) ≡ n ∷ others) × (left_by c ≡ after (record { refusal = n; octets = 0 }) c.output)

abbrev room : List ℕ
room = replicate 60 0xEE

-- the call without filter and private octets
abbrev call : Header → List ℕ → List ℕ → Call
call h records output = record { header = h; filter = []; private = []; records = records; output = output }

-- opened on 30 February, with a statement of the private extension: 0 is right here, and 2 speaks of octets that are not there
abbrev february30 : ℕ → Header
february30 statement = timed_stating statement (midnight 2 30) (midnight 1 1)

-- a header with another low, and with another high
abbrev release44 : Release
release44 = record { release = 4; extension = 0; version = 4 }

abbrev with_releases : Release → Release → Header → Header
with_releases high low h =
    record {
      high = high;
      low = low;
      opened = h.opened;
      appended = h.appended;
      sequence = h.sequence;
      reason = h.reason;
      address = h.address;
      lost = h.lost;
      statement = h.statement;
    }

abbrev low44 : Header → Header
low44 h = with_releases h.high release44 h

abbrev high44 : Header → Header
high44 h = with_releases release44 h.low h

abbrev cut_off : List ℕ
cut_off = 0 ∷ []

abbrev pub WriterOrder : Type 0
WriterOrder =
    -- 2 alone
    Writes (call (stating 2) record_part room) 2 []
    -- 2 and 10; 10 alone
    × Writes (call (february30 2) record_part room) 2 (10 ∷ [])
    × Writes (call (february30 0) record_part room) 10 []
    -- 10 and 11; 11 alone
    × Writes (call (february30 0) cut_off room) 10 (11 ∷ [])
    × Writes (call (stating 0) cut_off room) 11 []
    -- 11 and 13, low above high; 13 alone, by low, by high, and by low above high where there are no records
    × Writes (call (low44 (stating 0)) cut_off room) 11 (13 ∷ [])
    × Writes (call (low44 (stating 0)) record_part room) 13 []
    × Writes (call (high44 (stating 0)) record_part room) 13 []
    × Writes (call (low44 (stating 0)) [] room) 13 []
    -- 13 and 17, with no output
    × Writes (call (high44 (stating 0)) record_part []) 13 (17 ∷ [])
    -- all but 8
    × Writes (call (low44 (february30 2)) cut_off []) 2 (10 ∷ 11 ∷ 13 ∷ 17 ∷ [])

pub writer_order : WriterOrder
unfolding write_of writer_verdict timestamp_of word_of date_from month_days tally_of walk_of cut highest lowest splice file_octets fixed_octets
writer_order = (
  (refl, refl),
  (refl, refl),
  (refl, refl),
  (refl, refl),
  (refl, refl),
  (refl, refl),
  (refl, refl),
  (refl, refl),
  (refl, refl),
  (refl, refl),
  (refl, refl),
)

-- The writer's 8, on document 01's header and n records of four octets, 00 00 83 2F: the file has 50 + 4 n octets and the filter's.
abbrev pub WriterLimit : Type 0
WriterLimit =
    -- 262,131 records fit: 1,048,574 octets
    ((output : List ℕ) → 1048574 ≤ length output → (write_of (stating 0) [] [] (many 262131) output).answer ≡ record { refusal = 0; octets = 1048574 })
    -- in an output that is shorter: 17 alone
    × ((output : List ℕ) → length output < 1048574 → write_of (stating 0) [] [] (many 262131) output ≡ after (record { refusal = 17; octets = 1048574 }) output)
    -- with a filter of two octets the file has 1,048,576, the most that is allowed; with one of three it has one too many, and gets 8
    × ((output : List ℕ) → 1048576 ≤ length output → (write_of (stating 0) (1 ∷ 2 ∷ []) [] (many 262131) output).answer ≡ record { refusal = 0; octets = 1048576 })
    × ((output : List ℕ) → write_of (stating 0) (1 ∷ 2 ∷ 3 ∷ []) [] (many 262131) output ≡ after (record { refusal = 8; octets = 0 }) output)
    -- 262,132 records are one record too many: 8 in any output, alone where it has 1,048,578 octets, and before 17 where it has fewer
    × ((output : List ℕ) → write_of (stating 0) [] [] (many 262132) output ≡ after (record { refusal = 8; octets = 0 }) output)
    -- so 8 and 17 with no output
    × (write_of (stating 0) [] [] (many 262132) [] ≡ after (record { refusal = 8; octets = 0 }) [])
    -- 13 and 8: high version 4, in any output
    × ((output : List ℕ) → write_of (high44 (stating 0)) [] [] (many 262132) output ≡ after (record { refusal = 13; octets = 0 }) output)

pub writer_limit : WriterLimit
unfolding timestamp_of date_from month_days
writer_limit = (
  λ output enough. writes_all (stating 0) [] [] refl refl refl refl 262131 output (lit≤ tt) enough,
  λ output short. writes_17 (stating 0) [] [] refl refl refl refl 262131 output (lit≤ tt) short,
  λ output enough. writes_all (stating 0) (1 ∷ 2 ∷ []) [] refl refl refl refl 262131 output (lit≤ tt) enough,
  λ output. writes_8 (stating 0) (1 ∷ 2 ∷ 3 ∷ []) [] refl refl refl refl 262131 output (lit< tt),
  λ output. writes_8 (stating 0) [] [] refl refl refl refl 262132 output (lit< tt),
  writes_8 (stating 0) [] [] refl refl refl refl 262132 [] (lit< tt),
  λ output. writes_13 (high44 (stating 0)) [] [] refl refl (λ e. omega arith) 262131 output,
)

-- The reader's 8 by the file's length: over 1,048,576 octets and under 50, whatever the octets are; what the writer wrote of 1,048,576 octets
-- is accepted.
abbrev pub ReaderLimit : Type 0
ReaderLimit =
    ((x : List ℕ) → 1048576 < length x → read_of x ≡ refused_contents 8)
    × ((x : List ℕ) → length x < 50 → read_of x ≡ refused_contents 8)
    × ((output : List ℕ) → 1048576 ≤ length output → (read_of (take 1048576 (write_of (stating 0) (1 ∷ 2 ∷ []) [] (many 262131) output).output)).refusal ≡ 0)

held : Held (stating 0)
unfolding timestamp_of date_from month_days
held =
    record {
      high = lit< tt;
      low = lit< tt;
      sequence = lit< tt;
      reason = lit< tt;
      address = (refl, tested_octets (stating 0).address refl);
      lost = lit< tt;
    }

pub reader_limit : ReaderLimit
unfolding timestamp_of date_from month_days
reader_limit = (
  reads_over,
  reads_under,
  λ output enough.
      reads_all (stating 0) (1 ∷ 2 ∷ []) [] refl refl refl refl 262131 output held (tested_octets (1 ∷ 2 ∷ []) refl) (tested_octets [] refl) (lit≤ tt) enough,
)
