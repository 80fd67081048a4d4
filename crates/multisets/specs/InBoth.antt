-- How many elements two lists share: for each distinct element the smaller of its two multiplicities.
use Rattle.std.specs.Prelude.{◌≡◌, refl, Bool, true, false, cond, List, [], ◌∷◌, map, ℕ, zero, suc, ◌+◌, ◌-◌, ◌*◌, ◌≤◌, ◌<◌, min, eqb, length}
use Rattle.std.proofs.Common.{sym, ap, ◌∙◌, subst, add_assoc, eqb-true, arith}
use Rattle.std.proofs.lemmas.Bool.{eqb-false}
use Rattle.multisets.specs.Passing.{one_if, passing, SameElements}

-- a test of equality
pub record Equality {A : Type 0} (eq : A → A → Bool) : Type 0 where
  pub self : (x : A) → eq x x ≡ true
  pub is : (x y : A) → eq x y ≡ true → x ≡ y

-- of two numbers one is below the other, or not above it
over_or_not : (m n : ℕ) → min 1 (1 + m - n) + min 1 (n - m) ≡ 1
over_or_not m n = omega arith

add_both : (d v : ℕ) {a a' b b' c c' u : ℕ} → a ≡ a' → u ≡ v + d → b ≡ b' → c ≡ c' → a' + d ≡ 1 → c' + b' ≡ 1 → a + u ≡ b + v + c
add_both d v f h g l p q = omega arith

add_neither : (d v : ℕ) {a a' c u : ℕ} → a ≡ a' → u ≡ v + d → c ≡ d → a + u ≡ a' + v + c
add_neither d v f h l = omega arith

lesser_more : (m c : ℕ) → min (1 + m) c ≡ min m c + min 1 (c - m)
lesser_more m c = omega arith

gained : (m c t v : ℕ) {a b p u : ℕ} → a ≡ min (1 + m) c → b ≡ min m c → p ≡ (1 + t) * min 1 (c - m) → u ≡ v + t * min 1 (c - m)
    → a + u ≡ b + v + p
gained m c t v f g h k = let l = lesser_more m c in omega arith

module _ {A : Type 0} (eq : A → A → Bool) where
  -- the multiplicity of x in xs
  abbrev pub multiplicity : A → List A → ℕ
  multiplicity x xs = passing (eq x) xs

  -- each distinct element once
  abbrev pub each_once : List A → List A
  each_once [] = []
  each_once (x ∷ xs) = cond (eqb (multiplicity x xs) 0) (x ∷ each_once xs) (each_once xs)

  -- the smaller of the two multiplicities of each of some elements, summed
  abbrev pub sum_lesser : List A → List A → List A → ℕ
  sum_lesser [] xs ys = 0
  sum_lesser (d ∷ ds) xs ys = min (multiplicity d xs) (multiplicity d ys) + sum_lesser ds xs ys

  -- THE DEFINITION: the number of elements in both
  unfoldable pub in_both : List A → List A → ℕ
  in_both xs ys = sum_lesser (each_once xs) xs ys

  -- the same element by element: an element is in both if the second list has more of it than the first has after it
  abbrev pub stepwise : List A → List A → ℕ
  stepwise [] ys = 0
  stepwise (x ∷ xs) ys = min 1 (multiplicity x ys - multiplicity x xs) + stepwise xs ys

  module _ (e : Equality eq) where
    turn : (x y : A) → (b : Bool) → eq y x ≡ b → eq x y ≡ b
    turn x y true h = let q = e.is y x h in subst (λ (z : A). eq x z ≡ true) (sym q) (e.self x)
    turn x y false h = go (eq x y) refl
      where
        go : (b : Bool) → eq x y ≡ b → b ≡ false
        go true k = let q = e.is x y k in sym (subst (λ (z : A). eq z x ≡ true) q (e.self x)) ∙ h
        go false k = refl

    -- one more in the second list is one more in both, if the first has more of it
    pub stepwise_more : (y : A) (xs ys : List A) → stepwise xs (y ∷ ys) ≡ stepwise xs ys + min 1 (multiplicity y xs - multiplicity y ys)
    stepwise_more y [] ys = omega arith
    stepwise_more y (x ∷ xs) ys = go (eq y x) refl (stepwise_more y xs ys)
      where
        go : (b : Bool) → eq y x ≡ b → stepwise xs (y ∷ ys) ≡ stepwise xs ys + min 1 (multiplicity y xs - multiplicity y ys)
            → stepwise (x ∷ xs) (y ∷ ys) ≡ stepwise (x ∷ xs) ys + min 1 (multiplicity y (x ∷ xs) - multiplicity y ys)
        go true k h =
            let q = e.is y x k in
            let a : one_if (eq y x) ≡ 1 = rw k in
            let b : one_if (eq x y) ≡ 1 = rw (turn x y true k) in
            let c : multiplicity x xs ≡ multiplicity y xs = ap (λ (z : A). multiplicity z xs) (sym q) in
            let d : multiplicity x ys ≡ multiplicity y ys = ap (λ (z : A). multiplicity z ys) (sym q) in
            let f : min 1 (one_if (eq x y) + multiplicity x ys - multiplicity x xs) ≡ min 1 (1 + multiplicity y ys - multiplicity y xs) = λ i. min 1 (b i + d i - c i) in
            let g : min 1 (multiplicity x ys - multiplicity x xs) ≡ min 1 (multiplicity y ys - multiplicity y xs) = λ i. min 1 (d i - c i) in
            let l : min 1 (one_if (eq y x) + multiplicity y xs - multiplicity y ys) ≡ min 1 (1 + multiplicity y xs - multiplicity y ys) = λ i. min 1 (a i + multiplicity y xs - multiplicity y ys) in
            add_both (min 1 (multiplicity y xs - multiplicity y ys)) (stepwise xs ys) f h g l (over_or_not (multiplicity y ys) (multiplicity y xs)) (over_or_not (multiplicity y xs) (multiplicity y ys))
        go false k h =
            let z : one_if (eq y x) ≡ 0 = rw k in
            let w : one_if (eq x y) ≡ 0 = rw (turn x y false k) in
            let a : one_if (eq y x) + multiplicity y xs ≡ multiplicity y xs = omega arith in
            let b : one_if (eq x y) + multiplicity x ys ≡ multiplicity x ys = omega arith in
            add_neither (min 1 (multiplicity y xs - multiplicity y ys)) (stepwise xs ys) (λ i. min 1 (b i - multiplicity x xs)) h (λ i. min 1 (a i - multiplicity y ys))

    stepwise_nil : (ys : List A) → stepwise ys [] ≡ 0
    stepwise_nil [] = refl
    stepwise_nil (y ∷ ys) = omega (arith, stepwise_nil ys)

    pub stepwise_turn : (xs ys : List A) → stepwise xs ys ≡ stepwise ys xs
    stepwise_turn [] ys = sym (stepwise_nil ys)
    stepwise_turn (x ∷ xs) ys = omega (arith, stepwise_turn xs ys, stepwise_more x ys xs)

    same_second : (xs ys zs : List A) → SameElements ys zs → stepwise xs ys ≡ stepwise xs zs
    same_second [] ys zs h = refl
    same_second (x ∷ xs) ys zs h = omega (arith, h (eq x), same_second xs ys zs h)

    -- it goes by the multiplicities alone
    pub stepwise_same : (xs ys zs ws : List A) → SameElements xs zs → SameElements ys ws → stepwise xs ys ≡ stepwise zs ws
    stepwise_same xs ys zs ws g h =
        same_second xs ys ws h ∙ stepwise_turn xs ws ∙ same_second ws xs zs g ∙ stepwise_turn ws zs

    -- The steps of a walk over two lists in order.
    module _ (x y : A) (xs ys : List A) where
      -- the first of the first list is nowhere in the second
      pub walk_first : multiplicity x ys ≡ 0 → stepwise (x ∷ xs) ys ≡ stepwise xs ys
      walk_first h = omega arith

      -- the first of the second list is nowhere in the first
      pub walk_second : multiplicity y xs ≡ 0 → stepwise xs (y ∷ ys) ≡ stepwise xs ys
      walk_second h = omega (arith, stepwise_more y xs ys)

      pub walk_both : x ≡ y → stepwise (x ∷ xs) (y ∷ ys) ≡ 1 + stepwise xs ys
      walk_both q =
          let a : one_if (eq x y) ≡ 1 = rw (subst (λ (z : A). eq x z ≡ true) q (e.self x)) in
          let c : multiplicity x xs ≡ multiplicity y xs = ap (λ (z : A). multiplicity z xs) q in
          let d : multiplicity x ys ≡ multiplicity y ys = ap (λ (z : A). multiplicity z ys) q in
          omega (arith, stepwise_more y xs ys)

    -- The definition by distinct elements is the same number.
    pub once_multiplicity : (z : A) (xs : List A) → multiplicity z (each_once xs) ≡ min 1 (multiplicity z xs)
    once_multiplicity z [] = refl
    once_multiplicity z (x ∷ xs) = go (eq z x) refl (eqb (multiplicity x xs) 0) refl (once_multiplicity z xs)
      where
        go : (b : Bool) → eq z x ≡ b → (c : Bool) → eqb (multiplicity x xs) 0 ≡ c → multiplicity z (each_once xs) ≡ min 1 (multiplicity z xs)
            → multiplicity z (cond c (x ∷ each_once xs) (each_once xs)) ≡ min 1 (multiplicity z (x ∷ xs))
        go true k true f h =
            let a : one_if (eq z x) ≡ 1 = rw k in
            let d : multiplicity z xs ≡ multiplicity x xs = ap (λ (w : A). multiplicity w xs) (e.is z x k) in
            let g = eqb-true (multiplicity x xs) 0 f in
            omega arith
        go true k false f h =
            let a : one_if (eq z x) ≡ 1 = rw k in
            let d : multiplicity z xs ≡ multiplicity x xs = ap (λ (w : A). multiplicity w xs) (e.is z x k) in
            let g : multiplicity x xs ≡ 0 → ⊥ = eqb-false (multiplicity x xs) 0 f in
            omega arith
        go false k true f h = let a : one_if (eq z x) ≡ 0 = rw k in omega arith
        go false k false f h = let a : one_if (eq z x) ≡ 0 = rw k in omega arith

    sum_more : (ds : List A) (x : A) (xs ys : List A)
        → sum_lesser ds (x ∷ xs) ys ≡ sum_lesser ds xs ys + multiplicity x ds * min 1 (multiplicity x ys - multiplicity x xs)
    sum_more [] x xs ys = omega arith
    sum_more (d ∷ ds) x xs ys = go (eq x d) refl (sum_more ds x xs ys)
      where
        go : (b : Bool) → eq x d ≡ b → sum_lesser ds (x ∷ xs) ys ≡ sum_lesser ds xs ys + multiplicity x ds * min 1 (multiplicity x ys - multiplicity x xs)
            → sum_lesser (d ∷ ds) (x ∷ xs) ys ≡ sum_lesser (d ∷ ds) xs ys + multiplicity x (d ∷ ds) * min 1 (multiplicity x ys - multiplicity x xs)
        go true k h =
            let q = e.is x d k in
            let a : one_if (eq d x) ≡ 1 = rw (turn d x true k) in
            let c : one_if (eq x d) ≡ 1 = rw k in
            let s : multiplicity d xs ≡ multiplicity x xs = ap (λ (w : A). multiplicity w xs) (sym q) in
            let t : multiplicity d ys ≡ multiplicity x ys = ap (λ (w : A). multiplicity w ys) (sym q) in
            let u : min (one_if (eq d x) + multiplicity d xs) (multiplicity d ys) ≡ min (1 + multiplicity x xs) (multiplicity x ys) = λ i. min (a i + s i) (t i) in
            let v : min (multiplicity d xs) (multiplicity d ys) ≡ min (multiplicity x xs) (multiplicity x ys) = λ i. min (s i) (t i) in
            let w : (one_if (eq x d) + multiplicity x ds) * min 1 (multiplicity x ys - multiplicity x xs) ≡ (1 + multiplicity x ds) * min 1 (multiplicity x ys - multiplicity x xs) =
            λ i. (c i + multiplicity x ds) * min 1 (multiplicity x ys - multiplicity x xs) in
            gained (multiplicity x xs) (multiplicity x ys) (multiplicity x ds) (sum_lesser ds xs ys) u v w h
        go false k h =
            let a : one_if (eq d x) + multiplicity d xs ≡ multiplicity d xs = let z : one_if (eq d x) ≡ 0 = rw (turn d x false k) in omega arith in
            let c : one_if (eq x d) + multiplicity x ds ≡ multiplicity x ds = let z : one_if (eq x d) ≡ 0 = rw k in omega arith in
            ap (λ (n : ℕ). min n (multiplicity d ys) + sum_lesser ds (x ∷ xs) ys) a
            ∙ ap (λ (n : ℕ). min (multiplicity d xs) (multiplicity d ys) + n) h
            ∙ sym (add_assoc _ _ _)
            ∙ ap (λ (n : ℕ). min (multiplicity d xs) (multiplicity d ys) + sum_lesser ds xs ys + n * min 1 (multiplicity x ys - multiplicity x xs)) (sym c)

    sum_nil : (ds ys : List A) → sum_lesser ds [] ys ≡ 0
    sum_nil [] ys = refl
    sum_nil (d ∷ ds) ys = omega (arith, sum_nil ds ys)

    -- any list that has each element of the first exactly once gives the sum
    sum_is : (ds xs ys : List A) → ((z : A) → multiplicity z ds ≤ 1) → ((z : A) → min 1 (multiplicity z xs) ≤ multiplicity z ds) → sum_lesser ds xs ys ≡ stepwise xs ys
    sum_is ds [] ys h k = sum_nil ds ys
    sum_is ds (x ∷ xs) ys h k =
        let once : multiplicity x ds ≡ 1 = let a : one_if (eq x x) ≡ 1 = rw (e.self x) in omega (arith, h x, k x) in
        let r = sum_is ds xs ys h (λ z. omega (arith, k z)) in
        sum_more ds x xs ys ∙ ap (λ (n : ℕ). sum_lesser ds xs ys + n * min 1 (multiplicity x ys - multiplicity x xs)) once ∙ omega arith

    pub in_both_lem : (xs ys : List A) → in_both xs ys ≡ stepwise xs ys
    unfolding in_both
    in_both_lem xs ys = sum_is (each_once xs) xs ys (λ z. omega (arith, once_multiplicity z xs)) (λ z. omega (arith, once_multiplicity z xs))

    -- so it does not matter how the distinct elements are listed
    pub in_both_by : (ds xs ys : List A) → ((z : A) → multiplicity z ds ≤ 1) → ((z : A) → min 1 (multiplicity z xs) ≤ multiplicity z ds) → in_both xs ys ≡ sum_lesser ds xs ys
    in_both_by ds xs ys h k = in_both_lem xs ys ∙ sym (sum_is ds xs ys h k)

  pub stepwise_most : (xs ys : List A) → stepwise xs ys ≤ length xs
  stepwise_most [] ys = omega arith
  stepwise_most (x ∷ xs) ys = omega (arith, stepwise_most xs ys)
