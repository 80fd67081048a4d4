-- The header of a record as it is written (document 01, Record header; 000, 6.1.2): five octets, of which the first four, or
-- with release 7 all five, go before the body. Each field of a header to be written is within its width; the body may be of
-- any length here, and its two octets give it modulo 65,536. Assumes nothing.
use Rattle.std.specs.Prelude.{◌≡◌, refl, Bool, true, false, cond, List, [], ◌∷◌, ◌++◌, ℕ, ◌+◌, ◌*◌, ◌≤◌, ◌<◌, eqb, length, take}
use Rattle.std.proofs.Common.{ap, ◌∙◌, sym, arith, length-append, length-take-le}
use Rattle.octets.specs.Number.{be}
use Rattle.record.specs.declared.Release.{Release}
use Rattle.record.specs.declared.RecordHeader.{RecordHeader}
use Rattle.record.specs.Release.{release_octet, header_length}
use Rattle.record.specs.Record.{Record, record_octets}

-- the fields that share an octet with another are within their widths
pub record NarrowHeader (h : RecordHeader) : Type 0 where
  pub release : h.release.release < 8
  pub version : h.release.version < 32
  pub format : h.format < 8
  pub ts : h.ts < 32

-- the octets of a header for a body of n octets, with the extension behind them whether it is present or not
abbrev pub five_octets : RecordHeader → ℕ → List ℕ
five_octets h n = be 2 n ++ (release_octet h.release ∷ (h.format * 32 + h.ts) ∷ (h.release.extension ∷ []))

pub header_most : (r : Release) → header_length r ≤ 5
header_most r = by_release (eqb r.release 7)
  where
    by_release : (b : Bool) → cond b 5 4 ≤ 5
    by_release true = omega arith
    by_release false = omega arith

-- the part of the five octets that is the header
pub header_part : (h : RecordHeader) (n : ℕ) → length (take (header_length h.release) (five_octets h n)) ≡ header_length h.release
header_part h n = length-take-le (header_length h.release) (five_octets h n) (header_most h.release)

-- the header's octets and the body behind them are the record
pub header_body : (h : RecordHeader) (body : List ℕ)
    → take (header_length h.release) (five_octets h (length body)) ++ body ≡ record_octets (record { header = h; body = body })
unfolding record_octets
header_body h body = by_release (eqb h.release.release 7)
  where
    by_release : (b : Bool)
        → take (cond b 5 4) (five_octets h (length body)) ++ body
        ≡ be 2 (length body) ++ (release_octet h.release ∷ (h.format * 32 + h.ts) ∷ (cond b (h.release.extension ∷ []) [] ++ body))
    by_release true = refl
    by_release false = refl

-- how many octets a record has
pub record_length : (r : Record) → length (record_octets r) ≡ header_length r.header.release + length r.body
record_length r =
    sym (ap length (header_body r.header r.body))
    ∙ length-append (take (header_length r.header.release) (five_octets r.header (length r.body))) r.body
    ∙ ap (λ (n : ℕ). n + length r.body) (header_part r.header (length r.body))
