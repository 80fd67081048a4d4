-- Where the parts of a file stand, as its header's octets say (document 01, File header): the filter, the private extension,
-- the release extensions and the records. A private extension is there exactly when the header is longer than 50 octets, the
-- filter and the release extensions. Octets that are not there count as 0, so that each definition is total. Assumes nothing.
use Rattle.std.specs.Prelude.{Bool, cond, List, ℕ, ◌+◌, ◌/◌, ◌%◌, eqb, ltb, get_or}
use Rattle.octets.specs.Number.{num, octets_at}
use Rattle.timestamp.specs.Timestamp.{fields_of}
use Rattle.record.specs.declared.Release.{Release}
use Rattle.cdrfile.specs.declared.Header.{Header}
use Rattle.reader.specs.declared.Part.{Part}

-- octets 5-8, and 49-50
abbrev pub header_length_at : List ℕ → ℕ
header_length_at xs = num 4 xs 4

abbrev pub filter_length_at : List ℕ → ℕ
filter_length_at xs = num 2 xs 48

-- one extension octet for a release of 7, by the octet of release and version
abbrev pub extensions_of : ℕ → ℕ
extensions_of octet = cond (eqb (octet / 32) 7) 1 0

-- how long the header is without a private extension
abbrev pub plain_length : List ℕ → ℕ
plain_length xs = 50 + filter_length_at xs + (extensions_of (get_or xs 8 0) + extensions_of (get_or xs 9 0))

abbrev pub has_private : List ℕ → Bool
has_private xs = ltb (plain_length xs) (header_length_at xs)

-- p, where there is a private extension
abbrev pub private_length_at : List ℕ → ℕ
private_length_at xs = num 2 xs (50 + filter_length_at xs)

-- the private octets: behind their length, which may be 0, or none
abbrev pub private_part : List ℕ → Part
private_part xs =
    cond (has_private xs)
    (record { start = 52 + filter_length_at xs; octets = private_length_at xs })
    (record { start = 50 + filter_length_at xs; octets = 0 })

-- what the header states of its private extension (document 02, ask 5): 0 there is none, 1 an empty one, 2 one with octets
abbrev pub statement_at : List ℕ → ℕ
statement_at xs = cond (has_private xs) (cond (eqb (private_length_at xs) 0) 1 2) 0

-- where the release extensions begin
abbrev pub extensions_at : List ℕ → ℕ
extensions_at xs = (private_part xs).start + (private_part xs).octets

-- a release and version octet at k, with the extension at e if the release is 7
abbrev pub release_at : List ℕ → ℕ → ℕ → Release
release_at xs k e =
    record { release = get_or xs k 0 / 32; extension = cond (eqb (get_or xs k 0 / 32) 7) (get_or xs e 0) 0; version = get_or xs k 0 % 32 }

-- the header's fields, with what it states of its private extension, and the release extensions from e on
unfoldable pub header_at : List ℕ → ℕ → ℕ → Header
header_at xs statement e =
    record {
      high = release_at xs 8 e;
      low = release_at xs 9 (e + extensions_of (get_or xs 8 0));
      opened = fields_of (num 4 xs 10);
      appended = fields_of (num 4 xs 14);
      sequence = num 4 xs 22;
      reason = get_or xs 26 0;
      address = octets_at 20 xs 27;
      lost = get_or xs 47 0;
      statement = statement;
    }
