-- DEMAND 2 of document 01, stated alone: read this file without its proof (proofs/Demand2Holds.antt).
--
-- In plain words, a line for each clause of the record `Demand2`, in its order. The reader:
-- `described`: it accepts octets x exactly when document 01 describes them: right fields and right records, laid out.
-- `handed_back_lem`: what it hands back of accepted octets is right, and has these octets as its layout.
-- `only_these`: no other right fields and records have the same octets.
-- `counted`: the count and the header's length that it hands back are those that the file says, and the records are as many.
-- `recovered`: stepping from the records' start, as often as the count says, gives the records handed back and ends at the file's end.
-- `first_refusal`: any octets get the first number of 8 to 13, in order, whose condition holds, and 0 if none does.
-- `each_refusal`: so each of these numbers is the answer exactly when its condition holds and none before it does.
-- `refused_file`: refused octets get their number, and zeros in every other field.
-- The writer:
-- `taken`: it accepts exactly right fields and records whose file fits the output.
-- `written`: then it writes their layout over the start of the output, and answers its length.
-- `written_read`: what it wrote the reader accepts, and hands back the fields and records that the writer was given.
-- `rest_stays`: the octets after the file stay as they were.
-- `read_written`: what the reader accepts, the writer writes again with the same octets.
-- `apart`: two different sets of fields and records that the writer accepts never have the same file.
-- `writer_first_refusal`: any call gets the first number of 2, 10, 11, 13, 8, 17, in this order, whose condition holds, and 0 if none does.
-- `writer_each_refusal`: so each of these numbers is the answer exactly when its condition holds and none before it does.
-- `refused_call`: a refused call leaves the output as it was, and answers no octets; but with 17 it answers those that the file needs.
-- `needed_octets_lem`: the file needs as many octets as the layout of what the call was given has.
-- `short_output`: so 17 comes exactly for right fields and records whose file is longer than the output.
--
-- Right fields have, among the rest, timestamps of days that exist (document 02, ask 2) and a statement of the private extension,
-- none, empty or with octets, that its octets bear out (ask 5).
-- `read_of` and `write_of` are the definitions that the contracts of reader::read and writer::write cite, over every input;
-- `layout` (cdrfile, File) and `RightFile` (Described) are what a file is; `handed_back` is what a caller takes from the reader's
-- answer, `stepped` what record::step_at and record::body_at give; `Exactly` (Exactly) reads a list of refusals number by number;
-- `Octets` says that elements are below 256 and `Held` that fields are as the machine holds them, which Rattle's types give.
use Rattle.std.specs.Prelude.{◌≡◌, not, ◌↔◌, List, [], ◌∷◌, ◌++◌, ℕ, ◌≤◌, ◌<◌, eqb, ltb, length, take, drop}
use Rattle.octets.specs.Number.{Octets, num}
use Rattle.octets.specs.Splice.{splice}
use Rattle.refusals.specs.Refusal.{Rule, ◌when◌, first}
use Rattle.record.specs.Record.{records_octets}
use Rattle.record.specs.Walk.{tally_of}
use Rattle.cdrfile.specs.declared.Header.{Header}
use Rattle.cdrfile.specs.File.{File, layout}
use Rattle.cdrfile.specs.Order.{wrong_order}
use Rattle.roundtrip.specs.Described.{RightFile, Described}
use Rattle.reader.specs.Places.{filter_length_at, private_part}
use Rattle.reader.specs.Reader.{wrong_length, wrong_header_length, wrong_value, header_of, body_of, part_of, refused_contents, read_of}
use Rattle.writer.specs.Writer.{After, wrong_fields, needed_octets, write_of}
use Rattle.writer.specs.Writer.{wrong_value as wrong_given}
use Rattle.roundtrip.specs.Handed.{handed_back}
use Rattle.roundtrip.specs.Held.{Held}
use Rattle.roundtrip.specs.Stepping.{stepped, stepped_to, NoneRefused}
use Rattle.roundtrip.specs.Exactly.{Exactly}

-- the reader's refusals in their order, each with its condition
abbrev pub reader_rules : List ℕ → List Rule
reader_rules x =
    (8 when wrong_length x)
    ∷ (9 when wrong_header_length x)
    ∷ (10 when wrong_value (header_of x) (filter_length_at x) (private_part x))
    ∷ (11 when not (eqb (tally_of (body_of x)).refusal 0))
    ∷ (12 when not (eqb (num 4 x 18) (tally_of (body_of x)).count))
    ∷ (13 when wrong_order (header_of x).high (header_of x).low (tally_of (body_of x)))
    ∷ []

-- what a call of the writer is given: the fields, the filter, the private octets, the records' octets, and the output that it is lent
pub record Call : Type 0 where
  pub header : Header
  pub filter : List ℕ
  pub private : List ℕ
  pub records : List ℕ
  pub output : List ℕ

-- a call with values that the machine holds
pub record Plain (c : Call) : Type 0 where
  pub header : Held c.header
  pub filter : Octets c.filter
  pub private : Octets c.private
  pub records : Octets c.records

-- what it leaves: its answer and the output
abbrev pub left_by : Call → After
left_by c = write_of c.header c.filter c.private c.records c.output

-- whether it was accepted, and the file that it wrote
abbrev pub Accepts : Call → Type 0
Accepts c = (left_by c).answer.refusal ≡ 0

abbrev pub file_of : Call → List ℕ
file_of c = take (left_by c).answer.octets (left_by c).output

-- how long its file would be
abbrev pub file_size : Call → ℕ
file_size c = needed_octets c.header c.filter c.private c.records

-- the writer's refusals in their order, each with its condition; `wrong_given` is the writer's own `wrong_value`
abbrev pub writer_rules : Call → List Rule
writer_rules c =
    (2 when wrong_fields c.header c.private)
    ∷ (10 when wrong_given c.header c.filter c.private)
    ∷ (11 when not (eqb (tally_of c.records).refusal 0))
    ∷ (13 when wrong_order c.header.high c.header.low (tally_of c.records))
    ∷ (8 when ltb 1048576 (file_size c))
    ∷ (17 when ltb (length c.output) (file_size c))
    ∷ []

-- the fields, filter, private octets and records that it was given are those of f
pub record Gives (c : Call) (f : File) : Type 0 where
  pub header : f.header ≡ c.header
  pub filter : f.filter ≡ c.filter
  pub private : f.private ≡ c.private
  pub records : records_octets f.records ≡ c.records

pub record Demand2 : Type 0 where
  -- the reader accepts x exactly when x is described
  pub described : {x : List ℕ} → Octets x → ((read_of x).refusal ≡ 0) ↔ Described x
  -- the fields and records that it hands back are right and have these octets
  pub handed_back_lem : {x : List ℕ} → Octets x → (read_of x).refusal ≡ 0 → RightFile (handed_back x (read_of x)) × (layout (handed_back x (read_of x)) ≡ x)
  -- and are the only ones that have
  pub only_these : (f : File) → RightFile f → handed_back (layout f) (read_of (layout f)) ≡ f
  -- the count and the header's length that it hands back are the file's, and the records are as many
  pub counted : {x : List ℕ} → Octets x → (read_of x).refusal ≡ 0
      → ((read_of x).count ≡ num 4 x 18) × ((read_of x).records.start ≡ num 4 x 4) × (length (handed_back x (read_of x)).records ≡ (read_of x).count)
  -- stepping from the records' start gives those records, none refused, and ends at the file's end
  pub recovered : {x : List ℕ} → Octets x → (read_of x).refusal ≡ 0
      → NoneRefused x (read_of x).records.start (read_of x).count
      × (stepped x (read_of x).records.start (read_of x).count ≡ (handed_back x (read_of x)).records)
      × (stepped_to x (read_of x).records.start (read_of x).count ≡ length x)
  -- every x gets the first number in order whose condition holds, 0 if none does
  pub first_refusal : (x : List ℕ) → (read_of x).refusal ≡ first (reader_rules x)
  -- so each number exactly when its condition holds and none before it does
  pub each_refusal : (x : List ℕ) → Exactly (reader_rules x) (read_of x).refusal
  -- and a refused x gets its number and zeros elsewhere
  pub refused_file : (x : List ℕ) → ((read_of x).refusal ≡ 0 → ⊥) → read_of x ≡ refused_contents (first (reader_rules x))
  -- the writer accepts exactly right fields and records whose file fits the output
  pub taken : (c : Call) → Plain c → Accepts c ↔ ((f : File) × Gives c f × RightFile f × (length (layout f) ≤ length c.output))
  -- and writes their layout
  pub written : (c : Call) → Plain c → (f : File) → Gives c f → RightFile f → length (layout f) ≤ length c.output
      → left_by c ≡ record { answer = record { refusal = 0; octets = length (layout f) }; output = splice c.output 0 (layout f) }
  -- what the writer wrote the reader accepts and hands back
  pub written_read : (c : Call) → Plain c → Accepts c
      → ((read_of (file_of c)).refusal ≡ 0)
      × ((handed_back (file_of c) (read_of (file_of c))).header ≡ c.header)
      × ((handed_back (file_of c) (read_of (file_of c))).filter ≡ c.filter)
      × ((handed_back (file_of c) (read_of (file_of c))).private ≡ c.private)
      × (records_octets (handed_back (file_of c) (read_of (file_of c))).records ≡ c.records)
  -- the octets after the file stay
  pub rest_stays : (c : Call) → Plain c → Accepts c → (left_by c).output ≡ file_of c ++ drop (length (file_of c)) c.output
  -- what the reader accepts, the writer writes again with the same octets
  pub read_written : {x : List ℕ} → Octets x → (read_of x).refusal ≡ 0 → (output : List ℕ) → length x ≤ length output
      → write_of (read_of x).header (part_of x (read_of x).filter) (part_of x (read_of x).private) (part_of x (read_of x).records) output
      ≡ record { answer = record { refusal = 0; octets = length x }; output = splice output 0 x }
  -- two sets of fields and records with the same file are the same set
  pub apart : (c d : Call) → Plain c → Plain d → Accepts c → Accepts d → file_of c ≡ file_of d
      → (c.header ≡ d.header) × (c.filter ≡ d.filter) × (c.private ≡ d.private) × (c.records ≡ d.records)
  -- every call gets the first number in order whose condition holds, 0 if none does
  pub writer_first_refusal : (c : Call) → (left_by c).answer.refusal ≡ first (writer_rules c)
  -- so each number exactly when its condition holds and none before it does
  pub writer_each_refusal : (c : Call) → Exactly (writer_rules c) (left_by c).answer.refusal
  -- a refused call leaves the output as it was and answers 0 octets, but with 17 those that its file needs
  pub refused_call : (c : Call) → (Accepts c → ⊥)
      → ((left_by c).output ≡ c.output)
      × ((left_by c).answer.refusal ≡ 17 → (left_by c).answer.octets ≡ file_size c)
      × (((left_by c).answer.refusal ≡ 17 → ⊥) → (left_by c).answer.octets ≡ 0)
  -- which is the length of the layout of what it was given
  pub needed_octets_lem : (c : Call) (f : File) → Gives c f → file_size c ≡ length (layout f)
  -- 17 comes exactly for right fields and records whose file is longer than the output
  pub short_output : (c : Call) → Plain c → ((left_by c).answer.refusal ≡ 17) ↔ ((f : File) × Gives c f × RightFile f × (length c.output < length (layout f)))
