-- What the layout's code needs of its arguments; its callers show it. Assumes nothing.
use Rattle.std.specs.Prelude.{◌≡◌, true, ℕ, ◌≤◌, ◌<◌, ◌^◌, List, length}
use Rattle.timestamp.specs.Timestamp.{Narrow}
use Rattle.cdrfile.specs.declared.Header.{Header}
use Rattle.cdrfile.specs.Statement.{agrees}
use Rattle.cdrfile.specs.File.{file_octets}

-- each field of the header fits its bits
pub record Writable (h : Header) : Type 0 where
  pub high : h.high.release < 8
  pub high_version : h.high.version < 32
  pub low : h.low.release < 8
  pub low_version : h.low.version < 32
  pub opened : Narrow h.opened
  pub appended : Narrow h.appended

-- the private octets are as the header states, the file is short enough, and fits the output
pub record Layable (h : Header) (filter private body : List ℕ) (count : ℕ) (output : List ℕ) : Type 0 where
  pub fields : Writable h
  pub stated : agrees h.statement private ≡ true
  pub few : count < 2 ^ 32
  pub size : length (file_octets h filter private body count) ≤ 1048576
  pub room : length (file_octets h filter private body count) ≤ length output
