-- Private extensions of three kinds by evaluation (document 02, ask 5), on document 01's file: none, an empty one, one with octets. The reader
-- tells them apart by the header's length, and the writer writes each and refuses with 2 what contradicts its octets. Assumes nothing.
use Rattle.std.specs.Prelude.{◌≡◌, refl, List, [], ◌∷◌, ◌++◌, ℕ, ◌+◌, length, replicate, take, drop}
use Rattle.octets.specs.Number.{be}
use Rattle.octets.specs.Splice.{splice}
use Rattle.timestamp.specs.Timestamp.{word_of, fields_of}
use Rattle.timestamp.specs.LocalTime.{timestamp_of}
use Rattle.calendar.specs.Calendar.{date_from, month_days}
use Rattle.record.specs.Record.{highest, lowest}
use Rattle.record.specs.Step.{cut}
use Rattle.record.specs.Walk.{walk_of, tally_of}
use Rattle.cdrfile.specs.File.{fixed_octets, file_octets}
use Rattle.reader.specs.Places.{header_at}
use Rattle.reader.specs.Reader.{wrong_length, wrong_header_length, verdict, refused_contents, read_of}
use Rattle.writer.specs.Writer.{After, after, write_of}
use Rattle.writer.specs.Writer.{verdict as writer_verdict}
use Rattle.edge_table.specs.EdgeTable.{timed_stating, stating, record_part, octets, midnight}

-- octets 9 to 50 of document 01's file
abbrev middle : List ℕ
middle = take 42 (drop 8 octets)

-- the file with a header of so many octets, and these behind octet 50
abbrev filed : ℕ → List ℕ → List ℕ
filed header behind = be 4 (50 + length behind + 6) ++ (be 4 header ++ (middle ++ (behind ++ record_part)))

-- what the reader hands back: a statement, private octets from a place on, records from another
abbrev Reads : ℕ → List ℕ → ℕ → ℕ → ℕ → Type 0
Reads header behind statement start private =
    read_of (filed header behind)
    ≡ record {
      refusal = 0;
      header = stating statement;
      filter = record { start = 50; octets = 0 };
      private = record { start = start; octets = private };
      records = record { start = header; octets = 6 };
      count = 1;
    }

abbrev pub Read : Type 0
Read =
    -- none, an empty one, one with octets
    Reads 50 [] 0 50 0
    × Reads 52 (0 ∷ 0 ∷ []) 1 52 0
    × Reads 53 (0 ∷ 1 ∷ 0xAA ∷ []) 2 52 1
    -- a header that is one or two octets off
    × (read_of (filed 49 []) ≡ refused_contents 9)
    × (read_of (filed 51 []) ≡ refused_contents 9)
    × (read_of (filed 51 (0 ∷ [])) ≡ refused_contents 9)
    × (read_of (filed 51 (0 ∷ 0 ∷ [])) ≡ refused_contents 9)
    × (read_of (filed 53 (0 ∷ 0 ∷ [])) ≡ refused_contents 9)
    × (read_of (filed 54 (0 ∷ 0 ∷ [])) ≡ refused_contents 9)
    × (read_of (filed 52 (0 ∷ 1 ∷ 0xAA ∷ [])) ≡ refused_contents 9)
    × (read_of (filed 54 (0 ∷ 1 ∷ 0xAA ∷ [])) ≡ refused_contents 9)

pub read : Read
unfolding read_of verdict wrong_length wrong_header_length header_at fields_of timestamp_of word_of date_from month_days tally_of walk_of cut highest lowest
read = (refl, refl, refl, refl, refl, refl, refl, refl, refl, refl, refl)

-- The writer, with an output of 60 octets.
abbrev room : List ℕ
room = replicate 60 0xEE

abbrev Writes : ℕ → List ℕ → ℕ → List ℕ → Type 0
Writes statement private header behind =
    write_of (stating statement) [] private record_part room
    ≡ after (record { refusal = 0; octets = 56 + length behind }) (filed header behind ++ drop (56 + length behind) room)

abbrev refused2 : List ℕ → After
refused2 output = after (record { refusal = 2; octets = 0 }) output

abbrev Refuses : ℕ → List ℕ → Type 0
Refuses statement private = write_of (stating statement) [] private record_part room ≡ refused2 room

abbrev pub Written : Type 0
Written =
    Writes 0 [] 50 []
    × Writes 1 [] 52 (0 ∷ 0 ∷ [])
    × Writes 2 (0xAA ∷ []) 53 (0 ∷ 1 ∷ 0xAA ∷ [])
    -- octets with none and with an empty one, no octets with some, and statements that are none of the three
    × Refuses 0 (0xAA ∷ [])
    × Refuses 1 (0xAA ∷ [])
    × Refuses 2 []
    × Refuses 3 []
    × Refuses 3 (0xAA ∷ [])
    × Refuses 255 []
    -- before 10 (30 February), 11 (a cut record), 13 (a record of version 4), and 17 (no output)
    × (write_of (timed_stating 2 (midnight 2 30) (midnight 1 1)) [] [] record_part room ≡ refused2 room)
    × (write_of (stating 2) [] [] (0 ∷ []) room ≡ refused2 room)
    × (write_of (stating 2) [] [] (0x00 ∷ 0x02 ∷ 0x84 ∷ 0x2F ∷ 0xA1 ∷ 0xB2 ∷ []) room ≡ refused2 room)
    × (write_of (stating 2) [] [] record_part [] ≡ refused2 [])

pub written : Written
unfolding write_of writer_verdict timestamp_of word_of date_from month_days tally_of walk_of cut highest lowest splice file_octets fixed_octets
written = (refl, refl, refl, refl, refl, refl, refl, refl, refl, refl, refl, refl, refl)
