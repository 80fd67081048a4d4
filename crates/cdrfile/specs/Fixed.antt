-- Octets 1 to 50 of a file from numbers that are worked out first. Assumes nothing.
use Rattle.std.specs.Prelude.{◌≡◌, List, ◌∷◌, ◌++◌, ℕ}
use Rattle.octets.specs.Number.{be, octets_at}
use Rattle.timestamp.specs.Timestamp.{word_of}
use Rattle.record.specs.Release.{release_octet}
use Rattle.cdrfile.specs.declared.Header.{Header}
use Rattle.cdrfile.specs.File.{fixed_octets}

-- what stands there, as numbers
pub record Fixed : Type 0 where
  pub length : ℕ
  pub header : ℕ
  pub high : ℕ
  pub low : ℕ
  pub opened : ℕ
  pub appended : ℕ
  pub count : ℕ
  pub filter : ℕ

-- their octets
abbrev pub fixed_from : Fixed → Header → List ℕ
fixed_from n h =
    be 4 n.length
    ++ (be 4 n.header
    ++ (n.high
    ∷ (n.low
    ∷ (be 4 n.opened
    ++ (be 4 n.appended
    ++ (be 4 n.count
    ++ (be 4 h.sequence
    ++ (h.reason
    ∷ (octets_at 20 h.address 0
    ++ (h.lost
    ∷ be 2 n.filter))))))))))

-- they are the definition's, where the numbers are those of the fields
pub fixed_from_lem : (total header count filter : ℕ) (h : Header) (high low opened appended : ℕ) → high ≡ release_octet h.high → low ≡ release_octet h.low
    → opened ≡ word_of h.opened → appended ≡ word_of h.appended
    → fixed_from (record { length = total; header = header; high = high; low = low; opened = opened; appended = appended; count = count; filter = filter }) h ≡ fixed_octets total header count filter h
unfolding fixed_octets
fixed_from_lem total header count filter h high low opened appended a b c d =
    λ i. fixed_from (record { length = total; header = header; high = a i; low = b i; opened = c i; appended = d i; count = count; filter = filter }) h
