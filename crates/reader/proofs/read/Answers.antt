-- `reader::read` meets its contract: a refusal's answer has its number, and zeros elsewhere. Assumes nothing.
use mathlib.Core.Path.{◌≡◌, refl, sym, ◌∙◌}
use mathlib.Core.List.{List, ◌∷◌}
use Prim.Native.Nat.{ℕ, zero, suc, ◌+◌, ◌<◌}
use native.Mathlib.Omega.{arith}
use borrow.Author.Rules.{rules}
use lib.ListN.{get_or, replicate}
use Rattle.octets.specs.Number.{octets_at, octets_all}
use Rattle.reader.specs.Reader.{no_release, no_time, nowhere}
use Rattle.reader.proofs.read.Goals as goal

-- octets that are all 0
zeros : (w k : ℕ) (xs : List ℕ) → ((i : ℕ) → i < k + w → get_or xs i 0 ≡ 0) → octets_at w xs k ≡ replicate w 0
zeros zero k xs h = refl
zeros (suc w) k xs h =
    let first = h k (omega arith) in
    let rest = zeros w (k + 1) xs (λ i l. h i (omega arith)) in
    λ i. first i ∷ rest i

pub returns-in-Err : goal.returns-in-Err
returns-in-Err c =
    let d = c.default.ensures in
    let h = c.default.result.header in
    let a = d.1.0.1.1.1.1.1.1.0 in
    let address : h.address ≡ replicate 20 0 = sym (octets_all 20 h.address a.long) ∙ zeros 20 0 h.address (λ i l. a.at i 0 l) in
    let high : h.high ≡ no_release = search rules in
    let low : h.low ≡ no_release = search rules in
    let opened : h.opened ≡ no_time = search rules in
    let appended : h.appended ≡ no_time = search rules in
    let sequence : h.sequence ≡ 0 = search rules in
    let reason : h.reason ≡ 0 = search rules in
    let lost : h.lost ≡ 0 = search rules in
    let statement : h.statement ≡ 0 = search rules in
    let filter : c.default.result.filter ≡ nowhere = search rules in
    let private : c.default.result.private ≡ nowhere = search rules in
    let records : c.default.result.records ≡ nowhere = search rules in
    let count : c.default.result.count ≡ 0 = search rules in
    (λ i. record {
      refusal = c.number.ensures i;
      header = record { high = high i; low = low i; opened = opened i; appended = appended i; sequence = sequence i; reason = reason i; address = address i; lost = lost i; statement = statement i };
      filter = filter i;
      private = private i;
      records = records i;
      count = count i;
    }) ∙ c.in-Err.ensures
