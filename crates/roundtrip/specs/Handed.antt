-- What a caller gets back from the reader (document 01, Reader): the header's fields, and the filter, the private octets and
-- the records that stand in the parts that the reader names. Assumes nothing.
use Rattle.std.specs.Prelude.{List, [], ℕ}
use Rattle.record.specs.Record.{Record}
use Rattle.record.specs.Walk.{Walked, records, broken, walk_of}
use Rattle.cdrfile.specs.File.{File}
use Rattle.reader.specs.declared.Contents.{Contents}
use Rattle.reader.specs.Reader.{part_of}

abbrev pub listed : Walked → List Record
listed (records rs) = rs
listed broken = []

-- of the octets x and the reader's answer
abbrev pub handed_back : List ℕ → Contents → File
handed_back x c =
    record {
      header = c.header;
      filter = part_of x c.filter;
      private = part_of x c.private;
      records = listed (walk_of (part_of x c.records));
    }
