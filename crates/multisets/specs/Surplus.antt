-- How many elements one list has beyond those that another has too: for each distinct element what its multiplicity in the first exceeds that in the
-- second. With those in both they are all of the first; so two lists have the same elements, each as often, exactly when neither has a surplus.
use Rattle.std.specs.Prelude.{◌≡◌, refl, Bool, true, false, ◌↔◌, List, [], ◌∷◌, ℕ, ◌+◌, ◌-◌, ◌≤◌, min, length}
use Rattle.std.proofs.Common.{sym, ap, ◌∙◌}
use native.Mathlib.Omega.{arith}
use Rattle.std.proofs.Math.Decide.{ℕ_discrete}
use Rattle.multisets.specs.Passing.{one_if}
use Rattle.multisets.specs.InBoth.{Equality, multiplicity, each_once, sum_lesser, in_both, stepwise, stepwise_more, stepwise_turn, once_multiplicity, in_both_lem}

module _ {A : Type 0} (eq : A → A → Bool) where
  -- by how much the first multiplicity of each of some elements exceeds the second, summed
  abbrev pub sum_surplus : List A → List A → List A → ℕ
  sum_surplus [] xs ys = 0
  sum_surplus (d ∷ ds) xs ys = (multiplicity eq d xs - multiplicity eq d ys) + sum_surplus ds xs ys

  -- THE DEFINITION: the number of elements only in the first
  unfoldable pub only_in : List A → List A → ℕ
  only_in xs ys = sum_surplus (each_once eq xs) xs ys

  -- the smaller multiplicity and the surplus are the first multiplicity
  lesser_and_surplus : (ds xs ys : List A) → sum_lesser eq ds xs ys + sum_surplus ds xs ys ≡ sum_lesser eq ds xs xs
  lesser_and_surplus [] xs ys = refl
  lesser_and_surplus (d ∷ ds) xs ys = omega (arith, lesser_and_surplus ds xs ys)

  module _ (e : Equality eq) where
    -- a list with itself has all its elements in both
    self_all : (xs : List A) → stepwise eq xs xs ≡ length xs
    self_all [] = refl
    self_all (x ∷ xs) =
        let o : one_if (eq x x) ≡ 1 = rw (e.self x) in
        omega (arith, self_all xs, stepwise_more eq e x xs xs)

    pub both_and_only : (xs ys : List A) → in_both eq xs ys + only_in xs ys ≡ length xs
    unfolding in_both only_in
    both_and_only xs ys = lesser_and_surplus (each_once eq xs) xs ys ∙ in_both_lem eq e xs xs ∙ self_all xs

    -- no surplus: no element stands more often in the first
    one_of : (ds xs ys : List A) (z : A) → sum_surplus ds xs ys ≡ 0 → (multiplicity eq z ds ≡ 0 → ⊥) → multiplicity eq z xs ≤ multiplicity eq z ys
    one_of [] xs ys z h some = absurd (some refl)
    one_of (d ∷ ds) xs ys z h some = go (eq z d) refl (λ k. one_of ds xs ys z (omega arith) k)
      where
        go : (b : Bool) → eq z d ≡ b → ((multiplicity eq z ds ≡ 0 → ⊥) → multiplicity eq z xs ≤ multiplicity eq z ys) → multiplicity eq z xs ≤ multiplicity eq z ys
        go true k rest =
            let a : multiplicity eq d xs ≡ multiplicity eq z xs = ap (λ (w : A). multiplicity eq w xs) (sym (e.is z d k)) in
            let b : multiplicity eq d ys ≡ multiplicity eq z ys = ap (λ (w : A). multiplicity eq w ys) (sym (e.is z d k)) in
            omega arith
        go false k rest = rest (λ n. some (let o : one_if (eq z d) ≡ 0 = rw k in omega arith))

    pub only_none : (xs ys : List A) → only_in xs ys ≡ 0 → (z : A) → multiplicity eq z xs ≤ multiplicity eq z ys
    unfolding only_in
    only_none xs ys h z = go (ℕ_discrete (multiplicity eq z xs) 0)
      where
        go : Dec (multiplicity eq z xs ≡ 0) → multiplicity eq z xs ≤ multiplicity eq z ys
        go (yes n) = omega arith
        go (no n) = one_of (each_once eq xs) xs ys z h (λ k. n (omega (arith, once_multiplicity eq e z xs)))

    -- and where none does, there is no surplus
    none_over : (ds xs ys : List A) → ((z : A) → multiplicity eq z xs ≤ multiplicity eq z ys) → sum_surplus ds xs ys ≡ 0
    none_over [] xs ys h = refl
    none_over (d ∷ ds) xs ys h = omega (arith, h d, none_over ds xs ys h)

    pub none_only : (xs ys : List A) → ((z : A) → multiplicity eq z xs ≤ multiplicity eq z ys) → only_in xs ys ≡ 0
    unfolding only_in
    none_only xs ys h = none_over (each_once eq xs) xs ys h

    -- Both lists have each element as often exactly when neither has a surplus.
    pub same_multiset : (xs ys : List A) → ((z : A) → multiplicity eq z xs ≡ multiplicity eq z ys) ↔ ((only_in xs ys ≡ 0) × (only_in ys xs ≡ 0))
    same_multiset xs ys = (
      λ h. (none_only xs ys (λ z. omega (arith, h z)), none_only ys xs (λ z. omega (arith, h z))),
      λ h z. omega (arith, only_none xs ys h.0 z, only_none ys xs h.1 z),
    )

    -- turning the two lists around keeps what is in both
    pub both_turned : (xs ys : List A) → in_both eq xs ys ≡ in_both eq ys xs
    both_turned xs ys = in_both_lem eq e xs ys ∙ stepwise_turn eq e xs ys ∙ sym (in_both_lem eq e ys xs)
