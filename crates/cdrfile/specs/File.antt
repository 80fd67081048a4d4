-- A CDR file (document 01, File header, Record header; 000, 6.1): its fields and records, and the octets that they have. Which
-- fields and records are right, roundtrip's specs say (Described.antt); how the reader judges octets, reader's. Assumes nothing.
use Rattle.std.specs.Prelude.{cond, List, [], ◌∷◌, ◌++◌, ℕ, ◌+◌, eqb, length}
use Rattle.octets.specs.Number.{be, octets_at}
use Rattle.timestamp.specs.Timestamp.{word_of}
use Rattle.record.specs.Release.{release_octet, extension_octets}
use Rattle.record.specs.Record.{Record, records_octets}
use Rattle.cdrfile.specs.declared.Header.{Header}

-- a file: the header's fields, among them what it states of a private extension; the routeing filter, the private octets and the records
pub record File : Type 0 where
  pub header : Header
  pub filter : List ℕ
  pub private : List ℕ
  pub records : List Record

-- the private extension: its length in two octets and its octets, which may be none; nothing where the statement is 0
abbrev pub private_octets : ℕ → List ℕ → List ℕ
private_octets statement p = cond (eqb statement 0) [] (be 2 (length p) ++ p)

-- the header's octets: 50, the filter, the private extension, and one more for each of high and low that is release 7
abbrev pub header_length : Header → List ℕ → List ℕ → ℕ
header_length h filter private =
    50 + length filter + length (private_octets h.statement private) + length (extension_octets h.high) + length (extension_octets h.low)

-- octets 1 to 50, from the file's length, the header's, the number of CDRs and the filter's length
unfoldable pub fixed_octets : ℕ → ℕ → ℕ → ℕ → Header → List ℕ
fixed_octets total header count filter h =
    be 4 total
    ++ (be 4 header
    ++ (release_octet h.high
    ∷ (release_octet h.low
    ∷ (be 4 (word_of h.opened)
    ++ (be 4 (word_of h.appended)
    ++ (be 4 count
    ++ (be 4 h.sequence
    ++ (h.reason
    ∷ (octets_at 20 h.address 0
    ++ (h.lost
    ∷ be 2 filter))))))))))

-- the file's octets, from the octets of its records and their number
unfoldable pub file_octets : Header → List ℕ → List ℕ → List ℕ → ℕ → List ℕ
file_octets h filter private body count =
    fixed_octets (header_length h filter private + length body) (header_length h filter private) count (length filter) h
    ++ (filter ++ (private_octets h.statement private ++ (extension_octets h.high ++ (extension_octets h.low ++ body))))

abbrev pub layout : File → List ℕ
layout f = file_octets f.header f.filter f.private (records_octets f.records) (length f.records)
