-- The test of high and low (refusal 13) says what a right file asks of them (document 01, Reader). Assumes nothing.
use Rattle.std.specs.Prelude.{◌≡◌, Bool, false, cond, not, ◌&&◌, List, [], ◌∷◌, eqb, ltb, length}
use Rattle.std.proofs.Common.{sym, ap, ◌∙◌, eqb-true, eq-eqb, ltb-false, le-ltb}
use Rattle.std.proofs.Math.Dec.{eqb-suc-zero}
use Rattle.std.proofs.lemmas.Bool.{not-false}
use Rattle.refusals.specs.Tests.{both}
use Rattle.record.specs.declared.Release.{Release}
use Rattle.record.specs.Release.{rank}
use Rattle.record.specs.Record.{Record, highest, lowest}
use Rattle.record.specs.Walk.{records, tallied}
use Rattle.cdrfile.specs.Order.{wrong_order}
use Rattle.roundtrip.specs.Described.{Ordered}

module _ (high low : Release) where
  -- with records the second case of the test stands
  some : (r : Record) (rs : List Record)
      → wrong_order high low (tallied (records (r ∷ rs))) ≡ not (eqb (rank high) (highest (r ∷ rs)) && eqb (rank low) (lowest (r ∷ rs)))
  some r rs =
      ap (λ (t : Bool). cond t (ltb (rank high) (rank low)) (not (eqb (rank high) (highest (r ∷ rs)) && eqb (rank low) (lowest (r ∷ rs))))) (eqb-suc-zero (length rs))

  pub ordered : (rs : List Record) → wrong_order high low (tallied (records rs)) ≡ false → Ordered high low rs
  ordered [] e = ltb-false (rank high) (rank low) e
  ordered (r ∷ rs) e =
      let h = eqb (rank high) (highest (r ∷ rs)) in
      let l = eqb (rank low) (lowest (r ∷ rs)) in
      let b = both h l (not-false (h && l) (sym (some r rs) ∙ e)) in
      (eqb-true (rank high) (highest (r ∷ rs)) b.0, eqb-true (rank low) (lowest (r ∷ rs)) b.1)

  pub not_wrong : (rs : List Record) → Ordered high low rs → wrong_order high low (tallied (records rs)) ≡ false
  not_wrong [] e = le-ltb (rank high) (rank low) e
  not_wrong (r ∷ rs) e = some r rs ∙ (λ i. not (eq-eqb (rank high) (highest (r ∷ rs)) e.0 i && eq-eqb (rank low) (lowest (r ∷ rs)) e.1 i))
