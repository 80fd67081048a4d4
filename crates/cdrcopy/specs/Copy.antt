-- What cdrcopy makes of a file: a file that the reader accepts is written again octet for octet, and one that it refuses gets the reader's number
-- (document 01, Reader). The first is demand 2's clause `read_written` (roundtrip, Demand2.antt), for an output at least as long as the file,
-- as the program's is.
use Rattle.std.specs.Prelude.{◌≡◌, List, ℕ, ◌≤◌, length, take}
use Rattle.std.proofs.Common.{sym, ap, ◌∙◌, arith}
use Rattle.octets.specs.Number.{Octets}
use Rattle.octets.specs.Splice.{splice, splice_there}
use Rattle.reader.specs.Reader.{read_of}
use Rattle.writer.specs.Writer.{After, after}
use Rattle.roundtrip.proofs.Demand2Holds.{demand_2}
use Rattle.cdrcopy.specs.Rewrite.{rewrite_of, rewrite_refused, rewrite_accepted}

-- the octets that `copy` writes out where nothing was refused: the first of the output, as many as the answer says
abbrev pub copied : After → List ℕ
copied a = take a.answer.octets a.output

module _ {file : List ℕ} (o : Octets file) (accepted : (read_of file).refusal ≡ 0) (output : List ℕ) (room : length file ≤ length output) where
  -- an accepted file stands over the start of the output
  pub copy_same : rewrite_of file output ≡ after (record { refusal = 0; octets = length file }) (splice output 0 file)
  copy_same = sym (rewrite_accepted file output accepted) ∙ demand_2.read_written o accepted output room

  -- so what is written out is that file
  pub copy_file : copied (rewrite_of file output) ≡ file
  copy_file = ap copied copy_same ∙ splice_there output 0 file (omega arith)

-- a refused file gets the reader's number, and the output stays
pub copy_refused : (file output : List ℕ) → ((read_of file).refusal ≡ 0 → ⊥)
    → rewrite_of file output ≡ after (record { refusal = (read_of file).refusal; octets = 0 }) output
copy_refused file output refused = sym (rewrite_refused file output refused)

-- `rewrite` leaves what `rewrite_of` says, and so the octets that `copy` writes out of an accepted file are that file
pub record Rewrites (file output : List ℕ) (left : After) : Type 0 where
  pub defined : left ≡ rewrite_of file output
  pub same : (read_of file).refusal ≡ 0 → length file ≤ length output → copied left ≡ file

pub rewrites : {file : List ℕ} → Octets file → (output : List ℕ) {left : After} → left ≡ rewrite_of file output → Rewrites file output left
rewrites o output e = record { defined = e; same = λ accepted room. ap copied e ∙ copy_file o accepted output room }
