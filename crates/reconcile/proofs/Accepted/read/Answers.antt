-- `reconcile::Accepted::read` meets its contract: the reader says that the records begin within the file, which is short, and counts them.
use Rattle.std.proofs.Common.{◌≡◌, ℕ, length, sym, ap, ◌∙◌, arith}
use Rattle.octets.specs.Number.{Octets}
use Rattle.reader.specs.declared.Contents.{Contents}
use Rattle.reader.specs.Reader.{read_of}
use Rattle.offsets.specs.Offsets.{offsets_of}
use Rattle.reconcile.proofs.Agreed.{start_within, file_short, offsets_counted}
use Rattle.reconcile.proofs.Accepted.read.Goals as goal

pub invariant_of-result : goal.invariant_of-result
invariant_of-result c =
    let f = c.args.file.now in
    let u = c.read-contents.ensures in
    let e : (read_of f).refusal ≡ 0 = ap (λ (r : Contents). r.refusal) (sym u) ∙ c.if-contents-ne0.false in
    let o : Octets f = record { at = λ i. omega (arith, c.type_inv.file i) } in
    let a : c.read-contents.result.records.start ≡ (read_of f).records.start = ap (λ (r : Contents). r.records.start) u in
    record {
      inside = omega (arith, a, start_within f e);
      short = file_short f e;
      counted = ap (λ (n : ℕ). length (offsets_of f n)) a ∙ offsets_counted f e o ∙ sym (ap (λ (r : Contents). r.count) u);
    }
