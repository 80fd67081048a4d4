-- A closing (document 01, File header, The events; document 02, ask 3): the whole file of a route, from the state and from the
-- records that stand from its region's start. The manager writes FF FF FF FF before the 16 octets of the address, and the loss
-- counts as private extension. Assumes nothing.
use Rattle.std.specs.Prelude.{◌≡◌, List, [], ◌∷◌, ℕ, ◌+◌, ltb, length, take, drop}
use Rattle.std.proofs.Common.{ap, arith}
use Rattle.timestamp.specs.LocalTime.{timestamp_of}
use Rattle.cdrfile.specs.declared.Header.{Header}
use Rattle.cdrfile.specs.File.{header_length, private_octets, file_octets}
use Rattle.counts.specs.Counts.{count_octets}
use Rattle.state.specs.declared.Route.{Route}
use Rattle.state.specs.declared.Node.{Node}
use Rattle.state.specs.Manager.{Manager}
use Rattle.state.specs.Manager.{route_at, filter_of, base, node_of}
use Rattle.state.specs.Size.{header_size}
use Rattle.state.specs.Loss.{indicator}

-- the octets before every address
abbrev pub filler : List ℕ
filler = 0xFF ∷ 0xFF ∷ 0xFF ∷ 0xFF ∷ []

-- what the file says of losses: the indicator, whose u is that an unrouted record came, and the full counts
abbrev pub lost_octet : Route → ℕ
lost_octet r = indicator r.losses (ltb 0 r.unrouted)

abbrev pub counts_of : Route → List ℕ
counts_of r = count_octets r.losses r.unrouted

-- the header's fields at a closing with a reason; it states a private extension with octets, the loss counts
abbrev pub header_for : Node → Route → ℕ → Header
header_for n r reason =
    record {
      high = r.file.high;
      low = r.file.low;
      opened = timestamp_of r.file.opened n.bias;
      appended = timestamp_of r.file.appended n.bias;
      sequence = r.file.sequence;
      reason = reason;
      address = 0xFF ∷ 0xFF ∷ 0xFF ∷ 0xFF ∷ n.address;
      lost = lost_octet r;
      statement = 2;
    }

-- the file's records, as they stand in the store
abbrev pub records_at : Manager → List ℕ → ℕ → List ℕ
records_at m store i = take (route_at m i).file.octets (drop (base m i) store)

-- the file that a closing writes
unfoldable pub closed_file : Manager → List ℕ → ℕ → ℕ → List ℕ
closed_file m store i reason =
    file_octets (header_for (node_of m) (route_at m i) reason) (filter_of (route_at m i).settings) (counts_of (route_at m i)) (records_at m store i) (route_at m i).file.count

-- how long it is, from the state alone
abbrev pub closed_size : Route → ℕ
closed_size r = header_size r.settings.octets r.file.high r.file.low + r.file.octets

-- which the size rule of state says of every header that the manager writes: it is the layout's, with the loss counts
pub header_size_lem : (h : Header) (filter : List ℕ) (losses unrouted : ℕ) → h.statement ≡ 2
    → header_length h filter (count_octets losses unrouted) ≡ header_size (length filter) h.high h.low
header_size_lem h filter losses unrouted e = let n = ap (λ (m : ℕ). length (private_octets m (count_octets losses unrouted))) e in omega arith
