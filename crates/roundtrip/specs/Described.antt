-- Which fields and records make a file that document 01 describes (File header, Record header, Reader; document 02, ask 2), and so
-- which octets are described. This says what a file IS; how the reader judges octets is a definition of its own (reader).
-- As document 01, any closure reason, lost indicator, address, format, TS number and either sign are right, and so is a last
-- append before the opening. A timestamp's day exists in its month. A private extension may be empty, and the header states which of three
-- it has (document 02, ask 5). 000, 6.1.1.6 has a last append of 0 in an empty file;
-- document 01 has none such: month 0 is wrong. 000 keeps the length of all ones free; here no file is longer than 1,048,576
-- octets. Assumes nothing.
use Rattle.std.specs.Prelude.{◌≡◌, true, List, [], ◌∷◌, ℕ, ◌≤◌, ◌<◌, ◌^◌, length}
use Rattle.octets.specs.Number.{Octets}
use Rattle.timestamp.specs.Timestamp.{Right}
use Rattle.record.specs.declared.Release.{Release}
use Rattle.record.specs.Release.{NarrowRelease, rank}
use Rattle.record.specs.Record.{Record, AllRight, highest, lowest}
use Rattle.cdrfile.specs.Statement.{agrees}
use Rattle.cdrfile.specs.File.{File, layout}

-- high and low are the greatest and least among the records; of an empty file only low ≤ high is asked
abbrev pub Ordered : Release → Release → List Record → Type 0
Ordered high low [] = rank low ≤ rank high
Ordered high low (r ∷ rs) = (rank high ≡ highest (r ∷ rs)) × (rank low ≡ lowest (r ∷ rs))

-- a file that document 01 describes
pub record RightFile (f : File) : Type 0 where
  pub high : NarrowRelease f.header.high
  pub low : NarrowRelease f.header.low
  pub opened : Right f.header.opened
  pub appended : Right f.header.appended
  pub sequence : f.header.sequence < 2 ^ 32
  pub reason : f.header.reason < 256
  pub address : (length f.header.address ≡ 20) × Octets f.header.address
  pub lost : f.header.lost < 256
  pub statement : agrees f.header.statement f.private ≡ true
  pub filter : (length f.filter ≤ 65534) × Octets f.filter
  pub private : (length f.private ≤ 65534) × Octets f.private
  pub records : AllRight f.records
  pub ordered : Ordered f.header.high f.header.low f.records
  pub size : length (layout f) ≤ 1048576

-- octets that document 01 describes
abbrev pub Described : List ℕ → Type 0
Described x = (f : File) × RightFile f × (layout f ≡ x)
