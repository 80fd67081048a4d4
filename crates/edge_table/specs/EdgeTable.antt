-- The starred rows of document 01's edge table, together, by evaluation against the definitions, those that document 02's ask 3
-- changes as it has them; then further cases of the same definitions, some from the text of document 000. Every row is an equation between a definition at given arguments and
-- octets or numbers that the papers give, so that a definition that is wrong there is refused. Rows that are not starred are
-- executed by this crate's program. Assumes nothing.
use Rattle.std.specs.Prelude.{◌≡◌, refl, true, false, List, [], ◌∷◌, ◌++◌, ℕ, ◌+◌, ◌-◌, ◌*◌, ◌/◌, ◌%◌, get_or, set, replicate, take}
use Rattle.octets.specs.Splice.{splice}
use Rattle.calendar.specs.Calendar.{date_from, month_days}
use Rattle.timestamp.specs.declared.Timestamp.{Timestamp}
use Rattle.timestamp.specs.Timestamp.{word_of, fields_of}
use Rattle.timestamp.specs.LocalTime.{timestamp_of}
use Rattle.timestamp.specs.Stamp.{stamp_of, refused}
use Rattle.record.specs.declared.Release.{Release}
use Rattle.record.specs.Record.{Record, record_octets, records_octets, highest, lowest}
use Rattle.record.specs.Step.{cut, step_of, step_at, refused_step}
use Rattle.record.specs.Walk.{walk_of, tally_of}
use Rattle.cdrfile.specs.declared.Header.{Header}
use Rattle.cdrfile.specs.File.{File, fixed_octets, file_octets, layout}
use Rattle.counts.specs.Counts.{count_octets}
use Rattle.reader.specs.declared.Part.{Part}
use Rattle.reader.specs.Places.{header_at}
use Rattle.reader.specs.Reader.{wrong_length, wrong_header_length, verdict, refused_contents, read_of}
use Rattle.writer.specs.Writer.{After, after, write_of}
use Rattle.writer.specs.Writer.{verdict as writer_verdict}
use Rattle.state.specs.Loss.{indicator}
use Rattle.state.specs.Routing.{fits, route_of}
use Rattle.state.specs.Compared.{compared_for}
use Rattle.state.specs.SetTimes.{sets_right}
use Rattle.state.specs.Bounds.{same_filter, settings_right, file_right, state_right}
use Rattle.settings.specs.Settings.{routes_in, wrong_shape, beyond_range, equal_filters, wrong_sets, set_times_from, fresh_of}
use Rattle.settings.specs.Settings.{verdict as settings_verdict}
use Rattle.filing.specs.Closing.{closed_file}
use Rattle.events.specs.declared.Arrival.{Arrival}
use Rattle.events.specs.declared.Answer.{Answer}
use Rattle.events.specs.Events.{answered, open_of, close_of}
use Rattle.events.specs.Receive.{receive_of}
use Rattle.events.specs.Lent.{open_on, close_on, receive_on}
use Rattle.words.specs.Words.{route_in, manager_in, words_of}
use Rattle.ledger.specs.Event.{Event, open_event, close_event, receive_event}
use Rattle.ledger.specs.Ledger.{answer_of, entry_of}
use Rattle.edge_table.specs.Manager.{release4, release7, receive, answers, outputs, booked, filed}

-- an offset in minutes ahead of UTC or behind it, as the calls take it: with 1,439 added
abbrev ahead : ℕ → ℕ
ahead n = 1439 + n

abbrev behind : ℕ → ℕ
behind n = 1439 - n

-- the timestamp of a minute at an offset is accepted and has these octets
abbrev Stamps : ℕ → ℕ → List ℕ → Type 0
Stamps minutes offset octets = stamp_of minutes offset ≡ record { refusal = 0; octets = octets }

-- the table's file: minute 0, offset 0, f 0, sequence 7, address ::ffff:192.0.2.1, one record, closed with 4
abbrev release43 : Release
release43 = record { release = 4; extension = 0; version = 3 }

abbrev address : List ℕ
address =
    0xFF ∷ 0xFF ∷ 0xFF ∷ 0xFF
    ∷ 0 ∷ 0 ∷ 0 ∷ 0 ∷ 0 ∷ 0 ∷ 0 ∷ 0 ∷ 0 ∷ 0 ∷ 0xFF ∷ 0xFF ∷ 192 ∷ 0 ∷ 2 ∷ 1 ∷ []

-- its header, with this opening, this last append, and this statement of a private extension
abbrev pub timed_stating : ℕ → Timestamp → Timestamp → Header
timed_stating statement opened appended =
    record {
      high = release43;
      low = release43;
      opened = opened;
      appended = appended;
      sequence = 7;
      reason = 4;
      address = address;
      lost = 0;
      statement = statement;
    }

-- document 01's states none
abbrev timed : Timestamp → Timestamp → Header
timed opened appended = timed_stating 0 opened appended

abbrev pub stating : ℕ → Header
stating statement = timed_stating statement (timestamp_of 0 (ahead 0)) (timestamp_of 0 (ahead 0))

abbrev header : Header
header = stating 0

-- release 4, version 3, format 1, TS 15, body A1 B2
abbrev only_record : Record
only_record = record { header = record { release = release43; format = 1; ts = 15 }; body = 0xA1 ∷ 0xB2 ∷ [] }

abbrev file : File
file = record { header = header; filter = []; private = []; records = only_record ∷ [] }

-- with the loss counts of a time without losses, as the manager closes it
abbrev counted_file : File
counted_file = record { header = stating 2; filter = []; private = count_octets 0 0; records = only_record ∷ [] }

abbrev pub record_part : List ℕ
record_part = 0x00 ∷ 0x02 ∷ 0x83 ∷ 0x2F ∷ 0xA1 ∷ 0xB2 ∷ []

-- its octets, as document 01 has them
abbrev pub octets : List ℕ
octets =
    0x00 ∷ 0x00 ∷ 0x00 ∷ 0x38
    ∷ 0x00 ∷ 0x00 ∷ 0x00 ∷ 0x32
    ∷ 0x83 ∷ 0x83
    ∷ 0x10 ∷ 0x80 ∷ 0x08 ∷ 0x00
    ∷ 0x10 ∷ 0x80 ∷ 0x08 ∷ 0x00
    ∷ 0x00 ∷ 0x00 ∷ 0x00 ∷ 0x01
    ∷ 0x00 ∷ 0x00 ∷ 0x00 ∷ 0x07
    ∷ 0x04
    ∷ 0xFF ∷ 0xFF ∷ 0xFF ∷ 0xFF
    ∷ 0x00 ∷ 0x00 ∷ 0x00 ∷ 0x00 ∷ 0x00 ∷ 0x00 ∷ 0x00 ∷ 0x00
    ∷ 0x00 ∷ 0x00 ∷ 0xFF ∷ 0xFF ∷ 0xC0 ∷ 0x00 ∷ 0x02 ∷ 0x01
    ∷ 0x00
    ∷ 0x00 ∷ 0x00
    ∷ 0x00 ∷ 0x02 ∷ 0x83 ∷ 0x2F
    ∷ 0xA1 ∷ 0xB2 ∷ []

-- and with the loss counts: 11 octets more, in the file's length, the header's, and before the record
abbrev counted_octets : List ℕ
counted_octets =
    0x00 ∷ 0x00 ∷ 0x00 ∷ 0x43
    ∷ 0x00 ∷ 0x00 ∷ 0x00 ∷ 0x3D
    ∷ 0x83 ∷ 0x83
    ∷ 0x10 ∷ 0x80 ∷ 0x08 ∷ 0x00
    ∷ 0x10 ∷ 0x80 ∷ 0x08 ∷ 0x00
    ∷ 0x00 ∷ 0x00 ∷ 0x00 ∷ 0x01
    ∷ 0x00 ∷ 0x00 ∷ 0x00 ∷ 0x07
    ∷ 0x04
    ∷ 0xFF ∷ 0xFF ∷ 0xFF ∷ 0xFF
    ∷ 0x00 ∷ 0x00 ∷ 0x00 ∷ 0x00 ∷ 0x00 ∷ 0x00 ∷ 0x00 ∷ 0x00
    ∷ 0x00 ∷ 0x00 ∷ 0xFF ∷ 0xFF ∷ 0xC0 ∷ 0x00 ∷ 0x02 ∷ 0x01
    ∷ 0x00
    ∷ 0x00 ∷ 0x00
    ∷ 0x00 ∷ 0x09 ∷ 0x01 ∷ 0x00 ∷ 0x00 ∷ 0x00 ∷ 0x00 ∷ 0x00 ∷ 0x00 ∷ 0x00 ∷ 0x00
    ∷ 0x00 ∷ 0x02 ∷ 0x83 ∷ 0x2F
    ∷ 0xA1 ∷ 0xB2 ∷ []

-- a record on the table's route, by the manager's definitions and by the ledger's
abbrev placed : Answer
placed = answered 2 0 0 0 0

abbrev Placed : Arrival → ℕ → Type 0
Placed a body = (answers (receive a body ∷ []) ≡ placed ∷ []) × (booked (receive a body ∷ []) ≡ placed ∷ [])

abbrev LostThere : Arrival → ℕ → Type 0
LostThere a body =
    (answers (receive a body ∷ []) ≡ answered 3 0 0 0 0 ∷ []) × (booked (receive a body ∷ []) ≡ answered 3 0 0 0 0 ∷ [])

-- a release-7 record behind a release-4 body of 20
abbrev behind20 : ℕ → List Event
behind20 body = receive release4 20 ∷ receive release7 body ∷ []

-- the table's file through the events: opened, one record, closed with 4
abbrev file_events : List Event
file_events = open_event 0 0 ∷ receive_event 0 release4 [] (0xA1 ∷ 0xB2 ∷ []) ∷ close_event 0 0 4 ∷ []

-- The starred rows.
abbrev pub EdgeTable : Type 0
EdgeTable =
    -- offset 0, minute 0: 10 80 08 00
    Stamps 0 (ahead 0) (0x10 ∷ 0x80 ∷ 0x08 ∷ 0x00 ∷ [])
    -- offset -60, minute 0: CF DC 00 40
    × Stamps 0 (behind 60) (0xCF ∷ 0xDC ∷ 0x00 ∷ 0x40 ∷ [])
    -- offset 0, minute 84,960: 2E 80 08 00
    × Stamps 84960 (ahead 0) (0x2E ∷ 0x80 ∷ 0x08 ∷ 0x00 ∷ [])
    -- offset 120, minute 8,547,030: 40 B1 E8 80
    × Stamps 8547030 (ahead 120) (0x40 ∷ 0xB1 ∷ 0xE8 ∷ 0x80 ∷ [])
    -- without u: 0, 127, 40,000 give 0, 255, 255
    × (indicator 0 false ≡ 0) × (indicator 127 false ≡ 255) × (indicator 40000 false ≡ 255)
    -- with u: 0, 3, 127 give 128, 3, 127
    × (indicator 0 true ≡ 128) × (indicator 3 true ≡ 3) × (indicator 127 true ≡ 127)
    -- limit 128, f 0, release 4: body 63 placed, 64 lost; release 7: 60 placed, 61 lost
    × Placed release4 63 × LostThere release4 64
    × Placed release7 60 × LostThere release7 61
    -- that file holding a release-4 body of 20, flag 0: release-7 body 37 of the same format joins it, 38 closes it with 1
    × (answers (behind20 37) ≡ placed ∷ placed ∷ [])
    × (answers (behind20 38) ≡ placed ∷ answered 2 0 1 85 0 ∷ [])
    × (booked (behind20 37) ≡ placed ∷ placed ∷ [])
    × (booked (behind20 38) ≡ placed ∷ answered 2 0 1 85 0 ∷ [])
    × (get_or (get_or (outputs 85 (behind20 38)) 1 []) 26 0 ≡ 1)
    -- the file, as a layout and through the events
    × (layout counted_file ≡ counted_octets)
    × (outputs 69 file_events ≡ replicate 69 0xEE ∷ replicate 69 0xEE ∷ (counted_octets ++ (0xEE ∷ 0xEE ∷ [])) ∷ [])
    × (filed file_events ≡ [] ∷ [] ∷ counted_octets ∷ [])

pub edge_table : EdgeTable
unfolding words_of manager_in route_in open_on close_on receive_on stamp_of timestamp_of word_of date_from month_days file_octets fixed_octets records_octets record_octets highest lowest fresh_of settings_verdict routes_in wrong_shape beyond_range equal_filters wrong_sets set_times_from settings_right same_filter state_right sets_right file_right fits route_of compared_for open_of close_of receive_of closed_file splice answer_of entry_of
edge_table = (
  refl,
  refl,
  refl,
  refl,
  refl,
  refl,
  refl,
  refl,
  refl,
  refl,
  (refl, refl),
  (refl, refl),
  (refl, refl),
  (refl, refl),
  refl,
  refl,
  refl,
  refl,
  refl,
  refl,
  refl,
  refl,
)

-- Further cases. Timestamps: both ends of local time, both refusals, and the two times of 000, 6.2, examples 1 and 2.
abbrev pub MoreTimestamps : Type 0
MoreTimestamps =
    -- the first minute at offset -1,439: 1999-12-31 00:01
    Stamps 0 (behind 1439) (0xCF ∷ 0x80 ∷ 0x15 ∷ 0xFB ∷ [])
    -- the last minute at offset +1,439: 2100-01-01 23:58
    × Stamps 52595999 (ahead 1439) (0x10 ∷ 0xDF ∷ 0xAD ∷ 0xFB ∷ [])
    -- one minute more, and one minute of offset more
    × (stamp_of 52596000 (ahead 0) ≡ refused 4)
    × (stamp_of 0 (ahead 1440) ≡ refused 2)
    -- 000, 6.2, example 1: April 1, 2005 at 23:15 local time, +2 hours: 21:15 UTC
    × Stamps 2761755 (ahead 120) (0x40 ∷ 0xDC ∷ 0xF8 ∷ 0x80 ∷ [])
    -- 000, 6.2, example 2: December 24, 2005 at 17:00 local time, -11:30: December 25, 4:30 UTC
    × Stamps 3146670 (behind 690) (0xCC ∷ 0x44 ∷ 0x02 ∷ 0xDE ∷ [])

pub more_timestamps : MoreTimestamps
unfolding stamp_of timestamp_of word_of date_from month_days
more_timestamps = (refl, refl, refl, refl, refl, refl)

-- Records: headers of four and of five octets, as the tables of 000 have their values.
abbrev record_of_000 : Release → ℕ → ℕ → Record
record_of_000 release format ts = record { header = record { release = release; format = format; ts = ts }; body = [] }

abbrev pub RecordsOf000 : Type 0
RecordsOf000 =
    -- 000, 6.1.2: Rel-9 is 6, version 2, BER is 1, TS 32.251 is 7
    (record_octets (record_of_000 (record { release = 6; extension = 0; version = 2 }) 1 7) ≡ 0x00 ∷ 0x00 ∷ 0xC2 ∷ 0x27 ∷ [])
    -- 000, 6.1.2: Rel-13 is 7 with extension 3, version 1, XER is 4, TS 32.278 is 18
    × (record_octets (record_of_000 (record { release = 7; extension = 3; version = 1 }) 4 18) ≡ 0x00 ∷ 0x00 ∷ 0xE1 ∷ 0x92 ∷ 0x03 ∷ [])

pub records_of_000 : RecordsOf000
unfolding record_octets
records_of_000 = (refl, refl)

-- The file of document 01, without an extension, laid out, read, stepped over and written.
abbrev no_octets : ℕ → Part
no_octets start = record { start = start; octets = 0 }

abbrev pub TableFile : Type 0
TableFile =
    (layout file ≡ octets)
    -- the reader accepts it and hands the same fields back
    × (read_of octets
    ≡ record {
      refusal = 0;
      header = header;
      filter = no_octets 50;
      private = no_octets 50;
      records = record { start = 50; octets = 6 };
      count = 1;
    })
    -- a record begins at 50, with 4 octets of header and 2 of body, and none at 56
    × (step_at octets 50 ≡ record { refusal = 0; fields = only_record.header; header = 4; body = 2 })
    × (step_at octets 56 ≡ refused_step)
    -- the writer writes it over the start of the output; one octet too few is 17 with the 56 that it needs
    × (write_of header [] [] record_part (replicate 58 0xEE) ≡ after (record { refusal = 0; octets = 56 }) (octets ++ (0xEE ∷ 0xEE ∷ [])))
    × (write_of header [] [] record_part (replicate 55 0xEE) ≡ after (record { refusal = 17; octets = 56 }) (replicate 55 0xEE))

pub table_file : TableFile
unfolding read_of verdict wrong_length wrong_header_length header_at fields_of timestamp_of word_of date_from month_days tally_of walk_of cut step_of highest lowest write_of writer_verdict splice file_octets fixed_octets records_octets record_octets
table_file = (refl, refl, refl, refl, refl, refl)

-- One change to the table's file for each refusal of the reader.
abbrev pub Damaged : Type 0
Damaged =
    -- the last octet is missing
    (read_of (take 55 octets) ≡ refused_contents 8)
    -- header length 49
    × (read_of (set octets 7 49) ≡ refused_contents 9)
    -- opened in month 13
    × (read_of (set octets 10 0xD0) ≡ refused_contents 10)
    -- a body of 3 octets, of which 2 are there
    × (read_of (set octets 51 3) ≡ refused_contents 11)
    -- two records
    × (read_of (set octets 21 2) ≡ refused_contents 12)
    -- high version 4
    × (read_of (set octets 8 0x84) ≡ refused_contents 13)

pub damaged : Damaged
unfolding read_of verdict wrong_length wrong_header_length header_at fields_of tally_of walk_of cut highest lowest
damaged = (refl, refl, refl, refl, refl, refl)

-- Days at the ends of months (document 02, ask 2), in either timestamp of the table's file: what the reader makes of the file,
-- and the writer of the fields. No year is written, so 29 February always exists.
abbrev pub midnight : ℕ → ℕ → Timestamp
midnight month day = record { month = month; day = day; hour = 0; minute = 0; sign = 1; dev_hour = 0; dev_minute = 0 }

-- the file with that day in the timestamp at an offset
abbrev dated : ℕ → ℕ → ℕ → List ℕ
dated at month day = set (set octets at (month * 16 + day / 2)) (at + 1) (day % 2 * 128)

abbrev room : List ℕ
room = replicate 56 0xEE

abbrev written_on : Timestamp → Timestamp → After
written_on opened appended = write_of (timed opened appended) [] [] record_part room

-- the reader takes the day and the writer writes it, as opening and as last append
abbrev Exists : ℕ → ℕ → Type 0
Exists month day =
    ((read_of (dated 10 month day)).refusal ≡ 0)
    × ((read_of (dated 14 month day)).refusal ≡ 0)
    × (written_on (midnight month day) (midnight 1 1) ≡ after (record { refusal = 0; octets = 56 }) (dated 10 month day))
    × (written_on (midnight 1 1) (midnight month day) ≡ after (record { refusal = 0; octets = 56 }) (dated 14 month day))

-- both refuse it with 10, as opening and as last append
abbrev Missing : ℕ → ℕ → Type 0
Missing month day =
    (read_of (dated 10 month day) ≡ refused_contents 10)
    × (read_of (dated 14 month day) ≡ refused_contents 10)
    × (written_on (midnight month day) (midnight 1 1) ≡ after (record { refusal = 10; octets = 0 }) room)
    × (written_on (midnight 1 1) (midnight month day) ≡ after (record { refusal = 10; octets = 0 }) room)

abbrev pub Dates : Type 0
Dates =
    -- the last day of each month
    Exists 1 31 × Exists 2 29 × Exists 3 31 × Exists 4 30 × Exists 5 31 × Exists 6 30
    × Exists 7 31 × Exists 8 31 × Exists 9 30 × Exists 10 31 × Exists 11 30 × Exists 12 31
    -- and each day that a month lacks, though its five bits can say it
    × Missing 2 30 × Missing 2 31 × Missing 4 31 × Missing 6 31 × Missing 9 31 × Missing 11 31
    -- which is a wrong value; beyond its width is another refusal of the writer's
    × (written_on (midnight 4 32) (midnight 1 1) ≡ after (record { refusal = 2; octets = 0 }) room)

pub dates : Dates
unfolding read_of verdict wrong_length wrong_header_length header_at fields_of word_of tally_of walk_of cut highest lowest write_of writer_verdict splice file_octets fixed_octets
dates = (
  (refl, refl, refl, refl),
  (refl, refl, refl, refl),
  (refl, refl, refl, refl),
  (refl, refl, refl, refl),
  (refl, refl, refl, refl),
  (refl, refl, refl, refl),
  (refl, refl, refl, refl),
  (refl, refl, refl, refl),
  (refl, refl, refl, refl),
  (refl, refl, refl, refl),
  (refl, refl, refl, refl),
  (refl, refl, refl, refl),
  (refl, refl, refl, refl),
  (refl, refl, refl, refl),
  (refl, refl, refl, refl),
  (refl, refl, refl, refl),
  (refl, refl, refl, refl),
  (refl, refl, refl, refl),
  refl,
)

-- A file with every part that may be absent: a filter, private octets, and release 7 as high and low, with extensions 9 and 2.
-- Its header has 61 octets, not 50 and the filter's 3. The program `cdrcopy` has the same file as its case.
abbrev release795 : Release
release795 = record { release = 7; extension = 9; version = 5 }

abbrev release724 : Release
release724 = record { release = 7; extension = 2; version = 4 }

abbrev full_file : File
full_file =
    record {
      header =
          record {
            high = release795;
            low = release724;
            opened = timestamp_of 0 (ahead 0);
            appended = timestamp_of 0 (ahead 0);
            sequence = 4294967295;
            reason = 131;
            address = address;
            lost = 255;
            statement = 2;
          };
      filter = 0x61 ∷ 0x62 ∷ 0x63 ∷ [];
      private = 1 ∷ 2 ∷ 3 ∷ 4 ∷ [];
      records =
          record { header = record { release = release795; format = 1; ts = 15 }; body = 0x78 ∷ 0x79 ∷ 0x7A ∷ [] }
          ∷ record { header = record { release = release724; format = 1; ts = 1 }; body = 0x71 ∷ [] }
          ∷ [];
    }

abbrev full_octets : List ℕ
full_octets =
    0x00 ∷ 0x00 ∷ 0x00 ∷ 0x4B
    ∷ 0x00 ∷ 0x00 ∷ 0x00 ∷ 0x3D
    ∷ 0xE5 ∷ 0xE4
    ∷ 0x10 ∷ 0x80 ∷ 0x08 ∷ 0x00
    ∷ 0x10 ∷ 0x80 ∷ 0x08 ∷ 0x00
    ∷ 0x00 ∷ 0x00 ∷ 0x00 ∷ 0x02
    ∷ 0xFF ∷ 0xFF ∷ 0xFF ∷ 0xFF
    ∷ 0x83
    ∷ 0xFF ∷ 0xFF ∷ 0xFF ∷ 0xFF
    ∷ 0x00 ∷ 0x00 ∷ 0x00 ∷ 0x00 ∷ 0x00 ∷ 0x00 ∷ 0x00 ∷ 0x00
    ∷ 0x00 ∷ 0x00 ∷ 0xFF ∷ 0xFF ∷ 0xC0 ∷ 0x00 ∷ 0x02 ∷ 0x01
    ∷ 0xFF
    ∷ 0x00 ∷ 0x03 ∷ 0x61 ∷ 0x62 ∷ 0x63
    ∷ 0x00 ∷ 0x04 ∷ 0x01 ∷ 0x02 ∷ 0x03 ∷ 0x04
    ∷ 0x09
    ∷ 0x02
    ∷ 0x00 ∷ 0x03 ∷ 0xE5 ∷ 0x2F ∷ 0x09 ∷ 0x78 ∷ 0x79 ∷ 0x7A
    ∷ 0x00 ∷ 0x01 ∷ 0xE4 ∷ 0x21 ∷ 0x02 ∷ 0x71 ∷ []

abbrev pub FullFile : Type 0
FullFile =
    (layout full_file ≡ full_octets)
    × (read_of full_octets
    ≡ record {
      refusal = 0;
      header = full_file.header;
      filter = record { start = 50; octets = 3 };
      private = record { start = 55; octets = 4 };
      records = record { start = 61; octets = 14 };
      count = 2;
    })

pub full_file_lem : FullFile
unfolding read_of verdict wrong_length wrong_header_length header_at fields_of timestamp_of word_of date_from month_days tally_of walk_of cut highest lowest file_octets fixed_octets records_octets record_octets
full_file_lem = (refl, refl)
