-- Releases and versions (document 01, Record header; 000, 6.1.2.2, 6.1.2.3, 6.1.2.6): their widths, their octets and their
-- order. An absent extension counts as 0. 000, 6.1.1.3 orders by Release * 100 + Version, and from Rel-10 on, which is release 7, by
-- (Release + Extension + 1) * 100 + Version; document 01's order, by release, then extension, then version, is the one meant here. Versions
-- are below 32, so the two orders agree.
use Rattle.std.specs.Prelude.{◌≡◌, refl, Bool, true, false, cond, ◌&&◌, ◌||◌, List, [], ◌∷◌, ℕ, ◌+◌, ◌*◌, ◌/◌, ◌%◌, ◌<◌, leb, eqb, length, get_or}
use Rattle.record.specs.declared.Release.{Release}

-- each field within its width, and no extension below release 7
abbrev pub narrow_release : Release → Bool
narrow_release r = leb r.release 7 && leb r.version 31 && (eqb r.release 7 || eqb r.extension 0)

-- the same as a fact
pub record NarrowRelease (r : Release) : Type 0 where
  pub release : r.release < 8
  pub extension : r.extension < 256
  pub version : r.version < 32
  pub absent : (r.release ≡ 7 → ⊥) → r.extension ≡ 0

-- the octet of release and version
abbrev pub release_octet : Release → ℕ
release_octet r = r.release * 32 + r.version

-- the extension octet is present exactly when the release is 7
abbrev pub extension_octets : Release → List ℕ
extension_octets r = cond (eqb r.release 7) (r.extension ∷ []) []

-- how many octets that is, by the release alone
abbrev pub extension_length : ℕ → ℕ
extension_length release = cond (eqb release 7) 1 0

pub extension_count : (r : Release) → length (extension_octets r) ≡ extension_length r.release
extension_count r = by_test (eqb r.release 7)
  where
    by_test : (b : Bool) → length (cond b (r.extension ∷ []) []) ≡ cond b 1 0
    by_test true = refl
    by_test false = refl

-- the octets of a record header
abbrev pub header_length : Release → ℕ
header_length r = cond (eqb r.release 7) 5 4

pub header_by : (release : ℕ) → 4 + extension_length release ≡ cond (eqb release 7) 5 4
header_by release = by_test (eqb release 7)
  where
    by_test : (b : Bool) → 4 + cond b 1 0 ≡ cond b 5 4
    by_test true = refl
    by_test false = refl

-- the order by release, then extension, then version, as one number: 16 bits
abbrev pub rank : Release → ℕ
rank r = (r.release * 256 + r.extension) * 32 + r.version

-- a release and version octet at k, with the extension at e if the release is 7
abbrev pub release_at : List ℕ → ℕ → ℕ → Release
release_at xs k e =
    record { release = get_or xs k 0 / 32; extension = cond (eqb (get_or xs k 0 / 32) 7) (get_or xs e 0) 0; version = get_or xs k 0 % 32 }
