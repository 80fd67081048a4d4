-- The reader's verdict over any octets (document 01, Reader and Refusals): the first of 8 to 13 in order whose condition
-- holds, or what the file holds. Which octets document 01 describes is said apart from this (roundtrip, Described.antt, by the layout in
-- cdrfile, File.antt); that the reader accepts just these is demand 2.
use Rattle.std.specs.Prelude.{Bool, cond, not, ◌&&◌, ◌||◌, List, [], ◌∷◌, ℕ, zero, suc, ◌+◌, ◌-◌, eqb, ltb, leb, length, take, drop, replicate, Result, Ok, Err}
use Rattle.octets.specs.Number.{num}
use Rattle.refusals.specs.declared.Refusal.{Refusal}
use Rattle.refusals.specs.Number.{number}
use Rattle.refusals.specs.Refusal.{Rule, ◌when◌, first}
use Rattle.timestamp.specs.declared.Timestamp.{Timestamp}
use Rattle.timestamp.specs.Timestamp.{right}
use Rattle.record.specs.declared.Release.{Release}
use Rattle.record.specs.Walk.{Tallied, tally_of}
use Rattle.cdrfile.specs.declared.Header.{Header}
use Rattle.cdrfile.specs.Order.{wrong_order}
use Rattle.reader.specs.declared.Contents.{Contents}
use Rattle.reader.specs.declared.Part.{Part}
use Rattle.reader.specs.Places.{header_length_at, filter_length_at, plain_length, has_private, private_length_at, private_part, statement_at, extensions_at, header_at}

-- 8: under 50 or over 1,048,576 octets, or unlike its length field
unfoldable pub wrong_length : List ℕ → Bool
wrong_length xs = ltb (length xs) 50 || ltb 1048576 (length xs) || not (eqb (num 4 xs 0) (length xs))

-- 9: header length under 50, over the file, or not the sum of its parts; p may be 0 (document 02, ask 5)
unfoldable pub wrong_header_length : List ℕ → Bool
wrong_header_length xs =
    ltb (header_length_at xs) 50
    || ltb (length xs) (header_length_at xs)
    || not (eqb (header_length_at xs) (plain_length xs + cond (has_private xs) (2 + private_length_at xs) 0))

-- 10: wrong timestamp, or f or p 65,535
abbrev pub wrong_value : Header → ℕ → Part → Bool
wrong_value h filter private =
    not (right h.opened) || not (right h.appended) || eqb filter 65535 || eqb private.octets 65535

-- 11: a record cut or of length 65,535; 12: wrong count; 13: wrong high or low
abbrev pub wrong_records : Header → ℕ → Tallied → List Rule
wrong_records h count t =
    (11 when not (eqb t.refusal 0))
    ∷ (12 when not (eqb count t.count))
    ∷ (13 when wrong_order h.high h.low t)
    ∷ []

abbrev pub header_of : List ℕ → Header
header_of xs = header_at xs (statement_at xs) (extensions_at xs)

-- the records' octets
abbrev pub body_of : List ℕ → List ℕ
body_of xs = drop (header_length_at xs) xs

unfoldable pub verdict : List ℕ → ℕ
verdict xs =
    first
    ((8 when wrong_length xs)
    ∷ (9 when wrong_header_length xs)
    ∷ (10 when wrong_value (header_of xs) (filter_length_at xs) (private_part xs))
    ∷ wrong_records (header_of xs) (num 4 xs 18) (tally_of (body_of xs)))

-- a refusal carries its number, and zeros elsewhere
abbrev pub no_time : Timestamp
no_time = record { month = 0; day = 0; hour = 0; minute = 0; sign = 0; dev_hour = 0; dev_minute = 0 }

abbrev pub no_release : Release
no_release = record { release = 0; extension = 0; version = 0 }

abbrev pub no_header : Header
no_header =
    record {
      high = no_release;
      low = no_release;
      opened = no_time;
      appended = no_time;
      sequence = 0;
      reason = 0;
      address = replicate 20 0;
      lost = 0;
      statement = 0;
    }

abbrev pub nowhere : Part
nowhere = record { start = 0; octets = 0 }

abbrev pub refused_contents : ℕ → Contents
refused_contents n =
    record { refusal = n; header = no_header; filter = nowhere; private = nowhere; records = nowhere; count = 0 }

-- the call's answer from what its code finds, or why it refuses
abbrev pub answer_of : Result Contents Refusal → Contents
answer_of (Ok c) = c
answer_of (Err r) = refused_contents (number r)

-- what an accepted file holds: the header's fields, and where its filter, private octets and records stand
abbrev pub contents_of : List ℕ → Contents
contents_of xs =
    record {
      refusal = 0;
      header = header_of xs;
      filter = record { start = 50; octets = filter_length_at xs };
      private = private_part xs;
      records = record { start = header_length_at xs; octets = length xs - header_length_at xs };
      count = (tally_of (body_of xs)).count;
    }

abbrev pub settled : ℕ → List ℕ → Contents
settled zero xs = contents_of xs
settled (suc n) xs = refused_contents (suc n)

unfoldable pub read_of : List ℕ → Contents
read_of xs = settled (verdict xs) xs

-- a part of a file; a part that does not lie within the file is the empty one, so that forged places are no harm
unfoldable pub part_of : List ℕ → Part → List ℕ
part_of xs p = cond (leb p.start (length xs) && leb p.octets (length xs - p.start)) (take p.octets (drop p.start xs)) []
