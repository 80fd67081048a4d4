-- A record: its header and its body (document 01, Record header; 000, 6.1.2). What a right record is and which octets it
-- has; records one behind another. 000 names values of format and TS number; as document 01, this takes any. Assumes nothing.
use Rattle.std.specs.Prelude.{List, [], ◌∷◌, ◌++◌, ℕ, ◌+◌, ◌*◌, ◌≤◌, ◌<◌, max, min, length}
use Rattle.octets.specs.Number.{be, Octets}
use Rattle.record.specs.declared.RecordHeader.{RecordHeader}
use Rattle.record.specs.Release.{NarrowRelease, release_octet, extension_octets, rank}

pub record Record : Type 0 where
  pub header : RecordHeader
  pub body : List ℕ

-- octets 1-2 body length; 3 release and version; 4 data record format and TS number; 5 the extension, only with release 7
unfoldable pub record_octets : Record → List ℕ
record_octets r =
    be 2 (length r.body)
    ++ (release_octet r.header.release ∷ (r.header.format * 32 + r.header.ts) ∷ (extension_octets r.header.release ++ r.body))

-- a record as document 01 describes it
pub record RightRecord (r : Record) : Type 0 where
  pub release : NarrowRelease r.header.release
  pub format : r.header.format < 8
  pub ts : r.header.ts < 32
  pub short : length r.body ≤ 65534
  pub octets : Octets r.body

abbrev pub AllRight : List Record → Type 0
AllRight [] = Unit {0}
AllRight (r ∷ rs) = RightRecord r × AllRight rs

-- records one behind another
unfoldable pub records_octets : List Record → List ℕ
records_octets [] = []
records_octets (r ∷ rs) = record_octets r ++ records_octets rs

-- the greatest and the least place in the order of releases among some records
unfoldable pub highest : List Record → ℕ
highest [] = 0
highest (r ∷ rs) = max (rank r.header.release) (highest rs)

unfoldable pub lowest : List Record → ℕ
lowest [] = 65535
lowest (r ∷ rs) = min (rank r.header.release) (lowest rs)
