-- The merge of two lists, and its laws: nothing is lost, and lists in order give one in order.
use Rattle.std.specs.Prelude.{◌≡◌, Bool, true, false, cond, List, [], ◌∷◌, ◌++◌, ℕ, zero, suc, ◌+◌, ◌-◌, ◌≤◌, ◌<◌, take, drop, get_or}
use Rattle.std.proofs.Math.Path.{refl}
use Rattle.std.proofs.Common.{sym, ap, ◌∙◌, subst, arith, add-zero, lit<, length-take, drop_of_length-le, take-suc, drop-drop, get_or-take, get_or-drop, drop-cons}
use Rattle.std.proofs.Math.ListN.{length}
use Rattle.multisets.specs.Passing.{one_if, passing, SameElements, Sorted, passing_none, passing_append, passing_split}

module _ (less : ℕ → ℕ → Bool) where
  -- whether the next element comes from the second list
  abbrev pub from_second : List ℕ → List ℕ → Bool
  from_second xs [] = false
  from_second [] (y ∷ ys) = true
  from_second (x ∷ xs) (y ∷ ys) = less y x

  -- n elements of the merge
  abbrev pub merge_in : ℕ → List ℕ → List ℕ → List ℕ
  merge_in zero xs ys = []
  merge_in (suc n) xs ys =
      cond (from_second xs ys) (get_or ys 0 0 ∷ merge_in n xs (drop 1 ys)) (get_or xs 0 0 ∷ merge_in n (drop 1 xs) ys)

  unfoldable pub merge_of : List ℕ → List ℕ → List ℕ
  merge_of xs ys = merge_in (length xs + length ys) xs ys

  -- nothing is lost
  module _ (p : ℕ → Bool) where
    passing_pick : (b : Bool) (n x y : ℕ) (xs ys : List ℕ) → passing p (merge_in n (x ∷ xs) ys) ≡ passing p (x ∷ xs) + passing p ys
        → passing p (merge_in n xs (y ∷ ys)) ≡ passing p xs + passing p (y ∷ ys)
        → passing p (cond b (y ∷ merge_in n (x ∷ xs) ys) (x ∷ merge_in n xs (y ∷ ys))) ≡ passing p (x ∷ xs) + passing p (y ∷ ys)
    passing_pick true n x y xs ys g h = omega arith
    passing_pick false n x y xs ys g h = omega arith

    pub passing_merge : (n : ℕ) (xs ys : List ℕ) → n ≡ length xs + length ys → passing p (merge_in n xs ys) ≡ passing p xs + passing p ys
    passing_merge zero [] [] e = refl
    passing_merge zero (x ∷ xs) ys e = absurd (omega arith)
    passing_merge zero [] (y ∷ ys) e = absurd (omega arith)
    passing_merge (suc n) [] [] e = absurd (omega arith)
    passing_merge (suc n) (x ∷ xs) [] e = omega (arith, passing_merge n xs [] (omega arith))
    passing_merge (suc n) [] (y ∷ ys) e = omega (arith, passing_merge n [] ys (omega arith))
    passing_merge (suc n) (x ∷ xs) (y ∷ ys) e =
        passing_pick (less y x) n x y xs ys (passing_merge n (x ∷ xs) ys (omega arith)) (passing_merge n xs (y ∷ ys) (omega arith))

  -- a total order, as a merge needs it
  pub record Total : Type 0 where
    pub self : (x : ℕ) → less x x ≡ false
    pub up : (x y z : ℕ) → less y x ≡ true → less z x ≡ false → less z y ≡ false
    pub on : (x y z : ℕ) → less y x ≡ false → less z y ≡ false → less z x ≡ false

  -- lists in order give one in order
  module _ (t : Total) where
    ordered_pick : (b : Bool) (n x y : ℕ) (xs ys : List ℕ) → less y x ≡ b → suc n ≡ length (x ∷ xs) + length (y ∷ ys)
        → Sorted less (x ∷ xs) → Sorted less (y ∷ ys)
        → Sorted less (merge_in n (x ∷ xs) ys) → Sorted less (merge_in n xs (y ∷ ys))
        → Sorted less (cond b (y ∷ merge_in n (x ∷ xs) ys) (x ∷ merge_in n xs (y ∷ ys)))
    ordered_pick true n x y xs ys b e hx hy g h =
        let a = passing_none (λ z. less z y) (λ z. less z x) (λ z k. t.up x y z b k) xs hx.0 in
        let d : one_if (less x y) ≡ 0 = rw (t.up x y x b (t.self x)) in
        (omega (arith, passing_merge (λ z. less z y) n (x ∷ xs) ys (omega arith), hy.0), g)
    ordered_pick false n x y xs ys b e hx hy g h =
        let a = passing_none (λ z. less z x) (λ z. less z y) (λ z k. t.on x y z b k) ys hy.0 in
        let d : one_if (less y x) ≡ 0 = rw b in
        (omega (arith, passing_merge (λ z. less z x) n xs (y ∷ ys) (omega arith), hx.0), h)

    pub ordered_merge : (n : ℕ) (xs ys : List ℕ) → n ≡ length xs + length ys → Sorted less xs → Sorted less ys → Sorted less (merge_in n xs ys)
    ordered_merge zero xs ys e hx hy = tt
    ordered_merge (suc n) [] [] e hx hy = absurd (omega arith)
    ordered_merge (suc n) (x ∷ xs) [] e hx hy =
        (omega (arith, passing_merge (λ z. less z x) n xs [] (omega arith), hx.0), ordered_merge n xs [] (omega arith) hx.1 hy)
    ordered_merge (suc n) [] (y ∷ ys) e hx hy =
        (omega (arith, passing_merge (λ z. less z y) n [] ys (omega arith), hy.0), ordered_merge n [] ys (omega arith) hx hy.1)
    ordered_merge (suc n) (x ∷ xs) (y ∷ ys) e hx hy =
        ordered_pick (less y x) n x y xs ys refl e hx hy (ordered_merge n (x ∷ xs) ys (omega arith) hx hy.1) (ordered_merge n xs (y ∷ ys) (omega arith) hx.1 hy)

  -- a list arranged: the same elements in order
  pub record Arranged (was now : List ℕ) : Type 0 where
    pub ordered : Sorted less now
    pub same : SameElements now was

  -- two arranged halves, merged
  pub arranged_merge : Total → (was : List ℕ) (m : ℕ) (xs ys : List ℕ) → Arranged (take m was) xs → Arranged (drop m was) ys
      → Arranged was (merge_of xs ys)
  unfolding merge_of
  arranged_merge t was m xs ys f g =
      record {
        ordered = ordered_merge t (length xs + length ys) xs ys refl f.ordered g.ordered;
        same = λ p. omega (arith, passing_merge p (length xs + length ys) xs ys refl, f.same p, g.same p, passing_split p m was);
      }

  -- Two lists in order, of which the second does not begin before the end of the first, are one list in order as they stand.
  passing_each : (p : ℕ → Bool) (xs : List ℕ) (i : ℕ) → passing p xs ≡ 0 → i < length xs → p (get_or xs i 0) ≡ false
  passing_each p [] i e h = absurd (omega arith)
  passing_each p (x ∷ xs) (suc i) e h = passing_each p xs i (omega arith) (omega arith)
  passing_each p (x ∷ xs) zero e h = go (p x) refl
    where
      go : (b : Bool) → p x ≡ b → p x ≡ false
      go true k = absurd (let z : one_if (p x) ≡ 1 = rw k in omega arith)
      go false k = k

  module _ (t : Total) where
    -- the last of a list in order comes before none of it
    none_after : (n : ℕ) (xs : List ℕ) → suc n ≡ length xs → Sorted less xs → passing (λ x. less (get_or xs n 0) x) xs ≡ 0
    none_after n [] e h = absurd (omega arith)
    none_after zero (x ∷ []) e h = let z : one_if (less x x) ≡ 0 = rw (t.self x) in omega arith
    none_after zero (x ∷ y ∷ xs) e h = absurd (omega arith)
    none_after (suc n) (x ∷ xs) e h =
        let z : one_if (less (get_or xs n 0) x) ≡ 0 = rw (passing_each (λ y. less y x) xs n h.0 (omega arith)) in
        omega (arith, none_after n xs (omega arith) h.1)

    -- none of a list in order is before what its first is not before
    none_before : (l : ℕ) (ys : List ℕ) → 0 < length ys → Sorted less ys → less (get_or ys 0 0) l ≡ false → passing (λ z. less z l) ys ≡ 0
    none_before l [] s h e = absurd (omega arith)
    none_before l (y ∷ ys) s h e =
        let z : one_if (less y l) ≡ 0 = rw e in
        omega (arith, passing_none (λ z. less z l) (λ z. less z y) (λ z k. t.on l y z e k) ys h.0)

    ordered_append : (l : ℕ) (xs ys : List ℕ) → Sorted less xs → Sorted less ys → passing (λ x. less l x) xs ≡ 0 → passing (λ z. less z l) ys ≡ 0
        → Sorted less (xs ++ ys)
    ordered_append l [] ys a b g h = b
    ordered_append l (x ∷ xs) ys a b g h =
        let k = passing_each (λ x. less l x) (x ∷ xs) 0 g (omega arith) in
        let r = passing_none (λ z. less z x) (λ z. less z l) (λ z q. t.on x l z k q) ys h in
        (omega (arith, passing_append (λ z. less z x) xs ys, a.0), ordered_append l xs ys a.1 b (omega arith) h)

    -- a list in order goes on with an element that does not come before its last
    pub sorted_more : (xs : List ℕ) (i : ℕ) → 0 < i → i < length xs → Sorted less (take i xs) → less (get_or xs i 0) (get_or xs (i - 1) 0) ≡ false
        → Sorted less (take (suc i) xs)
    sorted_more xs i some h a e =
        let ys = take i xs in
        let l : length ys ≡ i = length-take i xs ∙ omega arith in
        let z : get_or ys (i - 1) 0 ≡ get_or xs (i - 1) 0 = get_or-take i xs (i - 1) 0 (omega arith) in
        let n : suc (i - 1) ≡ length ys = omega arith in
        let f : less (get_or xs i 0) (get_or ys (i - 1) 0) ≡ false = ap (less (get_or xs i 0)) z ∙ e in
        subst (Sorted less) (sym (take-suc xs i 0 h))
        (ordered_append (get_or ys (i - 1) 0) ys (get_or xs i 0 ∷ []) a (refl, tt) (none_after (i - 1) ys n a)
        (none_before (get_or ys (i - 1) 0) (get_or xs i 0 ∷ []) (lit< tt) (refl, tt) f))

    pub arranged_append : (was : List ℕ) (m n : ℕ) (xs ys : List ℕ) → Arranged (take m was) xs → Arranged (drop m was) ys
        → suc n ≡ length xs → 0 < length ys → less (get_or ys 0 0) (get_or xs n 0) ≡ false → Arranged was (xs ++ ys)
    arranged_append was m n xs ys f g e s h =
        record {
          ordered =
              ordered_append (get_or xs n 0) xs ys f.ordered g.ordered (none_after n xs e f.ordered) (none_before (get_or xs n 0) ys s g.ordered h);
          same = λ p. omega (arith, passing_append p xs ys, f.same p, g.same p, passing_split p m was);
        }

  -- a list in order stays as it stands
  pub arranged_sorted : (xs : List ℕ) → Sorted less xs → Arranged xs xs
  arranged_sorted xs a = record { ordered = a; same = λ p. refl }

  -- at most one element is in order
  pub sorted_short : (xs : List ℕ) → Sorted less (take 1 xs)
  sorted_short [] = tt
  sorted_short (x ∷ xs) = (refl, tt)

  pub arranged_short : (xs : List ℕ) → length xs < 2 → Arranged xs xs
  arranged_short [] h = arranged_sorted [] tt
  arranged_short (x ∷ []) h = arranged_sorted (x ∷ []) (refl, tt)
  arranged_short (x ∷ y ∷ xs) h = absurd (omega arith)

  -- A loop that merges: `done` stands written, and the rest of the merge is of what is left from i and j on.
  module _ (xs ys : List ℕ) (i j n : ℕ) where
    pub merge_second : from_second (drop i xs) (drop j ys) ≡ true
        → merge_in (suc n) (drop i xs) (drop j ys) ≡ get_or ys j 0 ∷ merge_in n (drop i xs) (drop (j + 1) ys)
    merge_second e = rw e (λ k. (get_or-drop j ys 0 0 ∙ ap (λ (a : ℕ). get_or ys a 0) (add-zero j)) k ∷ merge_in n (drop i xs) (drop-drop 1 j ys k))

    pub merge_first : from_second (drop i xs) (drop j ys) ≡ false
        → merge_in (suc n) (drop i xs) (drop j ys) ≡ get_or xs i 0 ∷ merge_in n (drop (i + 1) xs) (drop j ys)
    merge_first e = rw e (λ k. (get_or-drop i xs 0 0 ∙ ap (λ (a : ℕ). get_or xs a 0) (add-zero i)) k ∷ merge_in n (drop-drop 1 i xs k) (drop j ys))

  -- the cases of the choice
  module _ (xs ys : List ℕ) (i j : ℕ) where
    pub second_none : length ys ≤ j → from_second (drop i xs) (drop j ys) ≡ false
    second_none h = rw (drop_of_length-le ys h)

    pub second_only : j < length ys → length xs ≤ i → from_second (drop i xs) (drop j ys) ≡ true
    second_only h k = rw (drop_of_length-le xs k, drop-cons ys j 0 h)

    pub second_less : j < length ys → i < length xs → from_second (drop i xs) (drop j ys) ≡ less (get_or ys j 0) (get_or xs i 0)
    second_less h k = rw (drop-cons xs i 0 k, drop-cons ys j 0 h)
