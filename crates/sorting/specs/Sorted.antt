-- What std's sort ensures, in the words of `Arranged`.
use Rattle.std.specs.Prelude.{◌≡◌, refl, Bool, List, [], ◌∷◌, ℕ, zero, suc, ◌+◌, ◌-◌, ◌≤◌, length, take, get_or, sum_by, eqb}
use Rattle.std.proofs.Common.{sym, ap, ◌∙◌, subst, arith, add-one, take_all}
use Rattle.std.specs.declared.cmp.Ordering.{Ordering}
use Rattle.std.specs.declared.cmp.Ordering.TheVariants.{Less, Equal, Greater}
use Rattle.std.specs.Ordering.{is_lt, ordering_index}
use Rattle.std.specs.Cmp.{IsStrictWeakOrder}
use Rattle.std.specs.List.Sorted.{IsPermutation, IsSortedBy}
use Rattle.std.proofs.lemmas.List.Sorted.{sum_by-IsPermutation}
use Rattle.std.proofs.lemmas.List.Sums.{sum_by-cons}
use Rattle.multisets.specs.Passing.{one_if, passing, Sorted}
use Rattle.multisets.specs.Merge.{Total, Arranged, sorted_short, sorted_more}

-- a total order is one that std sorts by
pub ranks : (less : ℕ → ℕ → Bool) → Total less → IsStrictWeakOrder less
ranks less t = record { one_way = λ x y h. t.up y x y h (t.self y); chain = λ x y z h k. t.on z y x k h }

-- the first of the three answers of an order
pub is_less : (o : Ordering) → is_lt o ≡ eqb (ordering_index o) 0
is_less Less = refl
is_less Equal = refl
is_less Greater = refl

-- the elements that pass a test are as many as before
passing_sum : (p : ℕ → Bool) (xs : List ℕ) → passing p xs ≡ sum_by (λ x. one_if (p x)) xs
passing_sum p [] = refl
passing_sum p (x ∷ xs) = ap (λ (n : ℕ). one_if (p x) + n) (passing_sum p xs) ∙ sym (sum_by-cons (λ y. one_if (p y)) x xs)

module _ (less : ℕ → ℕ → Bool) (t : Total less) (was now : List ℕ) where
  front_sorted : IsSortedBy less now → (i : ℕ) → i ≤ length now → Sorted less (take i now)
  front_sorted s zero h = tt
  front_sorted s (suc zero) h = sorted_short less now
  front_sorted s (suc (suc i)) h =
      let f : suc i - 1 ≡ i = omega arith in
      sorted_more less t now (suc i) (omega arith) (omega arith) (front_sorted s (suc i) (omega arith))
      ((λ j. less (get_or now (sym (add-one i) j) 0) (get_or now (f j) 0)) ∙ s i 0 (omega arith) (omega arith))

  pub arranged : IsPermutation was now → IsSortedBy less now → Arranged less was now
  arranged p s =
      record {
        ordered = subst (Sorted less) (take_all (length now) now (omega arith)) (front_sorted s (length now) (omega arith));
        same = λ q. passing_sum q now ∙ sum_by-IsPermutation (λ x. one_if (q x)) was now p ∙ sym (passing_sum q was);
      }
