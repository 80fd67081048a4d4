-- What Rattle's types say of a header's fields, as a fact about numbers. Assumes nothing.
use Rattle.std.specs.Prelude.{◌≡◌, ◌<◌, ◌^◌, length}
use Rattle.octets.specs.Number.{Octets}
use Rattle.cdrfile.specs.declared.Header.{Header}

-- the fields as the machine holds them: an octet is below 256, a sequence number has 32 bits, an address 20 octets
pub record Held (h : Header) : Type 0 where
  pub high : h.high.extension < 256
  pub low : h.low.extension < 256
  pub sequence : h.sequence < 2 ^ 32
  pub reason : h.reason < 256
  pub address : (length h.address ≡ 20) × Octets h.address
  pub lost : h.lost < 256
