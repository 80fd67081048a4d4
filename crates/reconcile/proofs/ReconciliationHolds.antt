-- What is stated of two files held together (Reconciliation.antt) holds: the laws of multiplicities (multisets) over the records that the reader hands back,
-- and its refusals (Agreed).
use Rattle.std.specs.Prelude.{◌≡◌, List, ℕ, ◌+◌, ◌≤◌, min}
use Rattle.std.proofs.Common.{sym, ap, ◌∙◌, arith}
use Rattle.std.proofs.Math.Decide.{ℕ_discrete}
use Rattle.reader.specs.Reader.{read_of}
use Rattle.multisets.specs.InBoth.{multiplicity, in_both_by}
use Rattle.multisets.specs.Surplus.{both_and_only, both_turned, none_only, same_multiset}
use Rattle.reconcile.specs.declared.Reconciled.{Reconciled}
use Rattle.reconcile.specs.Reconciled.{equal_octets, records_filed, held_together, by_second, by_first, reconciled_of}
use Rattle.reconcile.proofs.Equal.{equal_octets_lem}
use Rattle.reconcile.proofs.Agreed.{as_counted, refused_first, refused_second}
use Rattle.reconcile.specs.Reconciliation.{often_in, ListsOnce, BothAccepted, Reconciliation}

-- two accepted files
together : (f g : List ℕ) → (read_of f).refusal ≡ 0 → (read_of g).refusal ≡ 0 → reconciled_of f g ≡ held_together f g
unfolding reconciled_of
together f g d e = ap (λ (n : ℕ). by_first n f g) d ∙ ap (λ (n : ℕ). by_second n f g) e

-- a list of distinct records has each of the file's exactly once
has_each : {f : List ℕ} {ds : List (List ℕ)} → ListsOnce f ds → (r : List ℕ) → min 1 (often_in f r) ≤ multiplicity equal_octets r ds
has_each {f} {ds} l r = go (ℕ_discrete (often_in f r) 0)
  where
    go : Dec (often_in f r ≡ 0) → min 1 (often_in f r) ≤ multiplicity equal_octets r ds
    go (yes z) = omega arith
    go (no n) = omega (arith, l.each r n)

module _ {f g : List ℕ} (a : BothAccepted f g) where
  t : reconciled_of f g ≡ held_together f g
  t = together f g a.first a.second

  both_is : (reconciled_of f g).both ≡ (held_together f g).both
  both_is = ap (λ (r : Reconciled). r.both) t

  turned : (held_together f g).both ≡ (held_together g f).both
  turned = both_turned equal_octets equal_octets_lem (records_filed f) (records_filed g)

  sum_first : (reconciled_of f g).both + (reconciled_of f g).first ≡ (read_of f).count
  sum_first = (λ i. (t i).both + (t i).first) ∙ both_and_only equal_octets equal_octets_lem (records_filed f) (records_filed g) ∙ as_counted f a.first a.octets_first

  sum_second : (reconciled_of f g).both + (reconciled_of f g).second ≡ (read_of g).count
  sum_second =
      (λ i. (t i).both + (t i).second)
      ∙ ap (λ (n : ℕ). n + (held_together f g).second) turned
      ∙ both_and_only equal_octets equal_octets_lem (records_filed g) (records_filed f)
      ∙ as_counted g a.second a.octets_second

  turned_round : reconciled_of g f
      ≡ record { refusal = 0; side = 0; number = 0; both = (reconciled_of f g).both; first = (reconciled_of f g).second; second = (reconciled_of f g).first }
  turned_round =
      together g f a.second a.first
      ∙ (λ i. record { refusal = 0; side = 0; number = 0; both = sym turned i; first = (held_together f g).second; second = (held_together f g).first })
      ∙ (λ i. record { refusal = 0; side = 0; number = 0; both = (sym t i).both; first = (sym t i).second; second = (sym t i).first })

pub reconciliation : Reconciliation
reconciliation =
    record {
      refused_first = λ f g h. sym (refused_first f g h);
      refused_second = λ f g d h. sym (refused_second f g d h);
      accepted = λ a. (ap (λ (r : Reconciled). r.refusal) (t a), ap (λ (r : Reconciled). r.side) (t a), ap (λ (r : Reconciled). r.number) (t a));
      by_multiplicity = λ {f} {g} a ds l.
          both_is a ∙ in_both_by equal_octets equal_octets_lem ds (records_filed f) (records_filed g) l.none_twice (has_each l);
      first_sum = sum_first;
      second_sum = sum_second;
      swapped = turned_round;
      itself = λ {f} a.
          let none = none_only equal_octets equal_octets_lem (records_filed f) (records_filed f) (λ z. omega arith) in
          (ap (λ (r : Reconciled). r.first) (t a) ∙ none, ap (λ (r : Reconciled). r.second) (t a) ∙ none);
      same = λ {f} {g} a.
          let m = same_multiset equal_octets equal_octets_lem (records_filed f) (records_filed g) in (
            λ h. (ap (λ (r : Reconciled). r.first) (t a) ∙ (m.0 h).0, ap (λ (r : Reconciled). r.second) (t a) ∙ (m.0 h).1),
            λ h. m.1 (sym (ap (λ (r : Reconciled). r.first) (t a)) ∙ h.0, sym (ap (λ (r : Reconciled). r.second) (t a)) ∙ h.1),
          );
    }
