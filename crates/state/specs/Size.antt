-- The size rule (document 01, File header; Routing and loss; document 02, ask 3): how many octets a file has, from its filter's
-- length, its high and low release and its records' octets. Every file of the manager's has the private extension of the loss
-- counts. Assumes nothing.
use Rattle.std.specs.Prelude.{Bool, true, false, cond, [], ◌∷◌, ℕ, ◌+◌, ◌≤◌, eqb, length}
use Rattle.std.proofs.Common.{arith}
use Rattle.record.specs.declared.Release.{Release}
use Rattle.record.specs.Release.{extension_octets}

-- the private extension of the loss counts: its length in 2 octets, and its 9
abbrev pub counts_size : ℕ
counts_size = 2 + 9

-- the header of a file of the manager's, by the filter's length, high and low
abbrev pub header_size : ℕ → Release → Release → ℕ
header_size filter high low = 50 + filter + counts_size + length (extension_octets high) + length (extension_octets low)

-- a release's extension is one octet at most
extension_most : (r : Release) → length (extension_octets r) ≤ 1
extension_most r = most (eqb r.release 7)
  where
    most : (b : Bool) → length (cond b (r.extension ∷ []) []) ≤ 1
    most true = omega arith
    most false = omega arith

pub size_most : (filter : ℕ) (high low : Release) → header_size filter high low ≤ 50 + filter + counts_size + 2
size_most filter high low = omega (arith, extension_most high, extension_most low)

-- a file that holds a record alone: both high and low are the record's
abbrev pub alone_size : ℕ → Release → ℕ → ℕ
alone_size filter r octets = header_size filter r r + octets
