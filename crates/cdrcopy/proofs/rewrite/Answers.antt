-- `cdrcopy::rewrite` meets its contract: the reader's refusal is the answer, or the writer is called on just what the reader
-- handed back; then the octets are the file's by demand 2.
use mathlib.Core.Path.{◌≡◌, sym, ap, ◌∙◌}
use Prim.Native.Nat.{ℕ}
use native.Mathlib.Omega.{arith}
use Rattle.octets.specs.Number.{Octets}
use Rattle.reader.specs.declared.Contents.{Contents}
use Rattle.reader.specs.Reader.{read_of}
use Rattle.writer.specs.Writer.{after, write_of}
use Rattle.cdrcopy.specs.Rewrite.{handed_on, rewrite_refused, rewrite_accepted}
use Rattle.cdrcopy.specs.Copy.{rewrites}
use Rattle.cdrcopy.proofs.rewrite.Goals as goal
use Rattle.cdrcopy.proofs.rewrite.Goals.{After-shared_slice_known-1}

-- the file's elements are octets
octets : (s : goal.After-shared_slice_known-1) → Octets s.args.file.now
octets s = record { at = λ i. omega (arith, s.type_inv.file i) }

pub returns-then-c-ne0 : goal.returns-then-c-ne0
returns-then-c-ne0 c =
    let a = c.args in
    let e : c.read-c.result.refusal ≡ (read_of a.file.now).refusal = ap (λ (r : Contents). r.refusal) c.read-c.ensures in
    rewrites (octets (goal.at.returns-then-c-ne0 c).After-shared_slice_known-1) a.output.now
    (ap (λ (n : ℕ). after (record { refusal = n; octets = 0 }) a.output.now) e
    ∙ rewrite_refused a.file.now a.output.now (λ z. c.if-c-ne0.true (e ∙ z)))

pub returns : goal.returns
returns c =
    let a = c.args in
    let r = c.read-c.result in
    let e : (read_of a.file.now).refusal ≡ r.refusal = ap (λ (s : Contents). s.refusal) (sym c.read-c.ensures) in
    rewrites (octets (goal.at.returns c).After-shared_slice_known-1) a.output.now
    (c.write.ensures
    ∙ (λ i. write_of r.header (c.part_of-filter.ensures i) (c.part_of-private.ensures i) (c.part_of-records.ensures i) a.output.now)
    ∙ ap (λ (s : Contents). handed_on s a.file.now a.output.now) c.read-c.ensures
    ∙ rewrite_accepted a.file.now a.output.now (e ∙ c.if-c-ne0.false))
