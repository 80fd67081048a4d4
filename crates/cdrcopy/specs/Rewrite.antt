-- A file read and written again: what the reader hands back goes to the writer, and a refusal of the reader leaves the output
-- unchanged. Both are public calls of document 01 (Reader); this only joins them. Assumes nothing.
use Rattle.std.specs.Prelude.{◌≡◌, List, ℕ, zero, suc, ◌≤◌, length}
use Rattle.std.proofs.Math.Path.{refl, sym}
use Rattle.std.proofs.Common.{ap, arith}
use Rattle.cdrfile.specs.declared.Header.{Header}
use Rattle.reader.specs.declared.Contents.{Contents}
use Rattle.reader.specs.Reader.{read_of, part_of}
use Rattle.writer.specs.Writer.{After, after, needed_octets, verdict, written, settled, write_of}
use Rattle.writer.specs.Cases.{accepted}

-- the writer, over what the reader hands back of a file
abbrev pub handed_on : Contents → List ℕ → List ℕ → After
handed_on c file output = write_of c.header (part_of file c.filter) (part_of file c.private) (part_of file c.records) output

abbrev rewritten : ℕ → Contents → List ℕ → List ℕ → After
rewritten zero c file output = handed_on c file output
rewritten (suc n) c file output = after (record { refusal = suc n; octets = 0 }) output

unfoldable pub rewrite_of : List ℕ → List ℕ → After
rewrite_of file output = rewritten (read_of file).refusal (read_of file) file output

-- a file that was written fits the output
module _ (h : Header) (filter private records output : List ℕ) where
  by_verdict : (n : ℕ) → verdict h filter private records output ≡ n
      → (settled n (needed_octets h filter private records) output (written h filter private records output)).answer.refusal ≡ 0
      → (settled n (needed_octets h filter private records) output (written h filter private records output)).answer.octets ≤ length output
  by_verdict zero v e = (accepted h filter private records output v).room
  by_verdict (suc n) v e = let z : ⊥ = omega arith in absurd z

  write_fits : (write_of h filter private records output).answer.refusal ≡ 0 → (write_of h filter private records output).answer.octets ≤ length output
  unfolding write_of
  write_fits e = by_verdict (verdict h filter private records output) refl e

module _ (file output : List ℕ) where
  by_refusal : (n : ℕ) → (rewritten n (read_of file) file output).answer.refusal ≡ 0 → (rewritten n (read_of file) file output).answer.octets ≤ length output
  by_refusal zero e =
      let c = read_of file in
      write_fits c.header (part_of file c.filter) (part_of file c.private) (part_of file c.records) output e
  by_refusal (suc n) e = let z : ⊥ = omega arith in absurd z

  pub rewrite_fits : (rewrite_of file output).answer.refusal ≡ 0 → (rewrite_of file output).answer.octets ≤ length output
  unfolding rewrite_of
  rewrite_fits e = by_refusal (read_of file).refusal e

  -- the two ways through
  refused_by : (n : ℕ) → (n ≡ 0 → ⊥) → after (record { refusal = n; octets = 0 }) output ≡ rewritten n (read_of file) file output
  refused_by zero h = absurd (h refl)
  refused_by (suc n) h = refl

  pub rewrite_refused : ((read_of file).refusal ≡ 0 → ⊥) → after (record { refusal = (read_of file).refusal; octets = 0 }) output ≡ rewrite_of file output
  unfolding rewrite_of
  rewrite_refused h = refused_by (read_of file).refusal h

  pub rewrite_accepted : (read_of file).refusal ≡ 0 → handed_on (read_of file) file output ≡ rewrite_of file output
  unfolding rewrite_of
  rewrite_accepted h = sym (ap (λ (n : ℕ). rewritten n (read_of file) file output) h)
