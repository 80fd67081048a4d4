-- What appending and closing need of their arguments (document 01, The events); the manager's events show it. Assumes nothing.
use Rattle.std.specs.Prelude.{◌≡◌, List, ℕ, ◌+◌, ◌≤◌, ◌<◌, ◌^◌, length}
use Rattle.record.specs.declared.RecordHeader.{RecordHeader}
use Rattle.record.specs.Release.{header_length}
use Rattle.record.specs.HeaderOctets.{NarrowHeader}
use Rattle.state.specs.declared.Route.{Route}
use Rattle.state.specs.declared.Node.{Node}
use Rattle.filing.specs.Closing.{lost_octet, closed_size}

-- a record can be written, and fits the part behind what is used of it
pub record Fitting (part : List ℕ) (used : ℕ) (h : RecordHeader) (body : List ℕ) : Type 0 where
  pub narrow : NarrowHeader h
  pub room : used + header_length h.release + length body ≤ length part

-- the region lies in the store, and the record fits it behind the file's records
pub record Appendable (store : List ℕ) (base limit used : ℕ) (h : RecordHeader) (body : List ℕ) : Type 0 where
  pub narrow : NarrowHeader h
  pub short : length body ≤ 65534
  pub region : base + limit ≤ length store
  pub room : used + header_length h.release + length body ≤ limit

-- the times and the offset are in range, and the octet is the route's lost indicator
pub record Headed (n : Node) (r : Route) (octet : ℕ) : Type 0 where
  pub opened : r.file.opened ≤ 52595999
  pub appended : r.file.appended ≤ 52595999
  pub bias : n.bias ≤ 2878
  pub lost : octet ≡ lost_octet r

-- the header's fields are in range, the file's records lie in the store, and the file fits the output from a place on
pub record Closable (n : Node) (r : Route) (octet : ℕ) (store : List ℕ) (base : ℕ) (output : List ℕ) (at : ℕ) : Type 0 where
  pub headed : Headed n r octet
  pub high : r.file.high.release < 8
  pub high_version : r.file.high.version < 32
  pub low : r.file.low.release < 8
  pub low_version : r.file.low.version < 32
  pub filter : r.settings.octets ≤ 20
  pub count : r.file.count < 2 ^ 32
  pub records : base + r.file.octets ≤ length store
  pub size : closed_size r ≤ 1048576
  pub room : at + closed_size r ≤ length output
