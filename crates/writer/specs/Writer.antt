-- The writer over any header fields, filter, private octets, records one behind another and output (document 01, Reader, second
-- paragraph; Refusals): the first of 2, 10, 11, 13, 8, 17 in this order, with the output unchanged, or the file over the
-- start of the output. Lengths and count it works out. What the header states of a private extension must be as its octets are
-- (document 02, ask 5). Assumes nothing.
use Rattle.std.specs.Prelude.{Bool, cond, not, ◌&&◌, ◌||◌, List, [], ◌∷◌, ℕ, zero, suc, ◌+◌, eqb, ltb, length}
use Rattle.octets.specs.Splice.{splice}
use Rattle.refusals.specs.Refusal.{◌when◌, first}
use Rattle.timestamp.specs.Timestamp.{narrow, right}
use Rattle.record.specs.Release.{narrow_release}
use Rattle.record.specs.Walk.{tally_of}
use Rattle.cdrfile.specs.declared.Header.{Header}
use Rattle.cdrfile.specs.Statement.{agrees}
use Rattle.cdrfile.specs.File.{header_length, file_octets}
use Rattle.cdrfile.specs.Order.{wrong_order}
use Rattle.writer.specs.declared.Written.{Written}

-- 2: a field beyond its width, an extension that is not 0 below release 7, or a statement that the private octets contradict
abbrev pub wrong_fields : Header → List ℕ → Bool
wrong_fields h private =
    not (narrow_release h.high && narrow_release h.low && narrow h.opened && narrow h.appended && agrees h.statement private)

-- 10: a wrong timestamp, or filter or private octets above 65,534
abbrev pub wrong_value : Header → List ℕ → List ℕ → Bool
wrong_value h filter private =
    not (right h.opened) || not (right h.appended) || ltb 65534 (length filter) || ltb 65534 (length private)

-- how long the file is
abbrev pub needed_octets : Header → List ℕ → List ℕ → List ℕ → ℕ
needed_octets h filter private records = header_length h filter private + length records

unfoldable pub verdict : Header → List ℕ → List ℕ → List ℕ → List ℕ → ℕ
verdict h filter private records output =
    first
    ((2 when wrong_fields h private)
    ∷ (10 when wrong_value h filter private)
    ∷ (11 when not (eqb (tally_of records).refusal 0))
    ∷ (13 when wrong_order h.high h.low (tally_of records))
    ∷ (8 when ltb 1048576 (needed_octets h filter private records))
    ∷ (17 when ltb (length output) (needed_octets h filter private records))
    ∷ [])

-- what a call leaves: its answer and the output
pub record After : Type 0 where
  pub answer : Written
  pub output : List ℕ

abbrev pub after : Written → List ℕ → After
after answer output = record { answer = answer; output = output }

-- a refusal carries its number and zeros elsewhere, but 17 the needed octets; it leaves the output unchanged
abbrev pub refused : ℕ → ℕ → List ℕ → After
refused number needed output = record { answer = record { refusal = number; octets = cond (eqb number 17) needed 0 }; output = output }

-- the file stands over the start of the output, and the octets behind it stay
abbrev pub written : Header → List ℕ → List ℕ → List ℕ → List ℕ → After
written h filter private records output =
    record {
      answer = record { refusal = 0; octets = needed_octets h filter private records };
      output = splice output 0 (file_octets h filter private records (tally_of records).count);
    }

abbrev pub settled : ℕ → ℕ → List ℕ → After → After
settled zero needed output done = done
settled (suc n) needed output done = refused (suc n) needed output

unfoldable pub write_of : Header → List ℕ → List ℕ → List ℕ → List ℕ → After
write_of h filter private records output =
    settled (verdict h filter private records output) (needed_octets h filter private records) output (written h filter private records output)
