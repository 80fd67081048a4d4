-- A walk over two lists of offsets, each in the order of its records, that counts the records in both.
use Rattle.std.specs.Prelude.{◌≡◌, Bool, false, List, [], ◌∷◌, map, ℕ, zero, suc, ◌+◌, ◌-◌, ◌≤◌, ◌<◌, min, eqb, leb, length, take, drop, get_or}
use Rattle.std.proofs.Common.{sym, ap, ◌∙◌, subst, subst₂, arith, add-one, lit≤, drop_of_length-le, drop-cons, take_all, eq-eqb, ne_eqb, eqb-true, le-leb}
use Rattle.std.proofs.lemmas.Bool.{eqb-false}
use Rattle.lexicographic.specs.Lexicographic.{order_of, order_most, order_turn, order_self, order_same}
use Rattle.multisets.specs.Passing.{one_if, Sorted, passing_none, passing_map}
use Rattle.multisets.specs.InBoth.{Equality, multiplicity, stepwise, stepwise_turn, walk_first, walk_second, walk_both}

-- whether two lists of octets are the same
abbrev pub same_octets : List ℕ → List ℕ → Bool
same_octets xs ys = eqb (order_of xs ys) 1

pub same_octets_lem : Equality same_octets
same_octets_lem =
    record { self = λ xs. eq-eqb _ 1 (order_self xs); is = λ xs ys e. order_same xs ys (eqb-true (order_of xs ys) 1 e) }

-- whether the record at one offset comes before the record at another
abbrev less_by : (ℕ → List ℕ) → ℕ → ℕ → Bool
less_by k a b = eqb (order_of (k a) (k b)) 0

-- octets that come before others are none of those that do not come before them
apart : (xs ys zs : List ℕ) → order_of xs ys ≡ 0 → eqb (order_of zs ys) 0 ≡ false → same_octets xs zs ≡ false
apart xs ys zs a b =
    let n : order_of zs ys ≡ 0 → ⊥ = eqb-false (order_of zs ys) 0 b in
    ne_eqb (order_of xs zs) 1 (λ e. n (ap (λ (l : List ℕ). order_of l ys) (sym (order_same xs zs e)) ∙ a))

-- a record before the first of some in order is none of them
nowhere : (k : ℕ → List ℕ) (x : List ℕ) (b : ℕ) (bs : List ℕ) → order_of x (k b) ≡ 0 → Sorted (less_by k) (b ∷ bs) → multiplicity same_octets x (map k (b ∷ bs)) ≡ 0
nowhere k x b bs h o =
    let z : one_if (same_octets x (k b)) ≡ 0 = rw (ne_eqb (order_of x (k b)) 1 (λ (e : order_of x (k b) ≡ 1). omega arith)) in
    let r = passing_none (λ c. same_octets x (k c)) (λ c. less_by k c b) (λ c e. apart x (k b) (k c) h e) bs o.0 in
    omega (arith, passing_map k (same_octets x) bs)

-- a turn of the walk moves on in one of the lists, and in the first where it counts
pub turn_moves : (c : ℕ) → (1 ≤ one_if (leb c 1) + one_if (leb 1 c)) × (one_if (eqb c 1) ≤ one_if (leb c 1))
turn_moves zero = (lit≤ tt, lit≤ tt)
turn_moves (suc zero) = (lit≤ tt, lit≤ tt)
turn_moves (suc (suc c)) =
    let h : 1 ≤ suc (suc c) = omega arith in
    let o : one_if (leb 1 (suc (suc c))) ≡ 1 = rw (le-leb 1 (suc (suc c)) h) in
    let z : one_if (eqb (suc (suc c)) 1) ≡ 0 = rw (ne_eqb (suc (suc c)) 1 (λ (e : suc (suc c) ≡ 1). omega arith)) in
    (omega arith, omega arith)

-- what is left of a list behind its first element
abbrev pub behind : List ℕ → List ℕ
behind xs = take (length xs - 1) (drop 1 xs)

behind_is : (a : ℕ) (xs : List ℕ) → behind (a ∷ xs) ≡ xs
behind_is a xs = take_all (suc (length xs) - 1) xs (omega arith)

module _ (f g : ℕ → List ℕ) where
  -- n are counted, and xs and ys are left
  pub record Counting (n : ℕ) (xs ys : List ℕ) (total : ℕ) : Type 0 where
    pub first : Sorted (less_by f) xs
    pub second : Sorted (less_by g) ys
    pub sum : n + stepwise same_octets (map f xs) (map g ys) ≡ total

  module _ (n a b total : ℕ) (xs ys : List ℕ) (w : Counting n (a ∷ xs) (b ∷ ys) total) where
    pass_first : order_of (f a) (g b) ≡ 0 → Counting n xs (b ∷ ys) total
    pass_first h =
        let e = walk_first same_octets same_octets_lem (f a) (g b) (map f xs) (map g (b ∷ ys)) (nowhere g (f a) b ys h w.second) in
        record { first = w.first.1; second = w.second; sum = ap (λ (k : ℕ). n + k) (sym e) ∙ w.sum }

    pass_second : order_of (f a) (g b) ≡ 2 → Counting n (a ∷ xs) ys total
    pass_second h =
        let t : order_of (g b) (f a) ≡ 0 = omega (arith, order_turn (f a) (g b)) in
        let e = walk_second same_octets same_octets_lem (f a) (g b) (map f (a ∷ xs)) (map g ys) (nowhere f (g b) a xs t w.first) in
        record { first = w.first; second = w.second.1; sum = ap (λ (k : ℕ). n + k) (sym e) ∙ w.sum }

    pass_both : order_of (f a) (g b) ≡ 1 → Counting (n + 1) xs ys total
    pass_both h =
        let e = walk_both same_octets same_octets_lem (f a) (g b) (map f xs) (map g ys) (order_same (f a) (g b) h) in
        record { first = w.first.1; second = w.second.1; sum = omega (arith, w.sum) }

  pub counting_none : (xs ys : List ℕ) → Sorted (less_by f) xs → Sorted (less_by g) ys → Counting 0 xs ys (stepwise same_octets (map f xs) (map g ys))
  counting_none xs ys a b = record { first = a; second = b; sum = omega arith }

  stepwise_none : (xs : List (List ℕ)) → stepwise same_octets xs [] ≡ 0
  stepwise_none xs = stepwise_turn same_octets same_octets_lem xs []

  -- The same from i on, and from j on.
  module _ (xs ys : List ℕ) (n i j total : ℕ) (w : Counting n (drop i xs) (drop j ys) total) where
    pub counting_first_end : length xs ≤ i → n ≡ total
    counting_first_end h =
        let e = drop_of_length-le xs h in
        let s = subst (λ (l : List ℕ). n + stepwise same_octets (map f l) (map g (drop j ys)) ≡ total) e w.sum in
        omega arith

    pub counting_second_end : length ys ≤ j → n ≡ total
    counting_second_end h =
        let e = drop_of_length-le ys h in
        let s = subst (λ (l : List ℕ). n + stepwise same_octets (map f (drop i xs)) (map g l) ≡ total) e w.sum in
        omega (arith, stepwise_none (map f (drop i xs)))

    module _ (hi : i < length xs) (hj : j < length ys) where
      fronts : Counting n (get_or xs i 0 ∷ drop (suc i) xs) (get_or ys j 0 ∷ drop (suc j) ys) total
      fronts = rw (drop-cons xs i 0 hi, drop-cons ys j 0 hj) at w

      -- one turn: the step in each list, and whether it was a match, by how the two records in front lie
      pub counting_on : (c : ℕ) → c ≡ order_of (f (get_or xs i 0)) (g (get_or ys j 0))
          → Counting (n + one_if (eqb c 1)) (drop (i + one_if (leb c 1)) xs) (drop (j + one_if (leb 1 c)) ys) total
      counting_on zero e =
          let p = pass_first n _ _ total _ _ fronts (sym e) in
          let z : n + 0 ≡ n = omega arith in
          let k : j + 0 ≡ j = omega arith in
          rw (z, k, add-one i, drop-cons ys j 0 hj) p
      counting_on (suc zero) e = rw (add-one i, add-one j) (pass_both n _ _ total _ _ fronts (sym e))
      counting_on (suc (suc zero)) e =
          let p = pass_second n _ _ total _ _ fronts (sym e) in
          let z : n + 0 ≡ n = omega arith in
          let k : i + 0 ≡ i = omega arith in
          rw (z, k, add-one j, drop-cons xs i 0 hi) p
      counting_on (suc (suc (suc c))) e = absurd (omega (arith, order_most (f (get_or xs i 0)) (g (get_or ys j 0))))

  -- The same in a loop's terms: what is left of a list behind its first element, which is there.
  module _ (n total : ℕ) where
    pub counting_less : (xs ys : List ℕ) → Counting n xs ys total → 0 < length xs → 0 < length ys
        → order_of (f (get_or xs 0 0)) (g (get_or ys 0 0)) ≡ 0 → Counting n (behind xs) ys total
    counting_less [] ys w hx hy h = absurd (omega arith)
    counting_less (a ∷ xs) [] w hx hy h = absurd (omega arith)
    counting_less (a ∷ xs) (b ∷ ys) w hx hy h = subst (λ (l : List ℕ). Counting n l (b ∷ ys) total) (sym (behind_is a xs)) (pass_first n a b total xs ys w h)

    pub counting_greater : (xs ys : List ℕ) → Counting n xs ys total → 0 < length xs → 0 < length ys
        → order_of (f (get_or xs 0 0)) (g (get_or ys 0 0)) ≡ 2 → Counting n xs (behind ys) total
    counting_greater [] ys w hx hy h = absurd (omega arith)
    counting_greater (a ∷ xs) [] w hx hy h = absurd (omega arith)
    counting_greater (a ∷ xs) (b ∷ ys) w hx hy h = subst (λ (l : List ℕ). Counting n (a ∷ xs) l total) (sym (behind_is b ys)) (pass_second n a b total xs ys w h)

    pub counting_equal : (xs ys : List ℕ) → Counting n xs ys total → 0 < length xs → 0 < length ys
        → order_of (f (get_or xs 0 0)) (g (get_or ys 0 0)) ≡ 1 → Counting (n + 1) (behind xs) (behind ys) total
    counting_equal [] ys w hx hy h = absurd (omega arith)
    counting_equal (a ∷ xs) [] w hx hy h = absurd (omega arith)
    counting_equal (a ∷ xs) (b ∷ ys) w hx hy h =
        subst₂ (λ (k l : List ℕ). Counting (n + 1) k l total) (sym (behind_is a xs)) (sym (behind_is b ys)) (pass_both n a b total xs ys w h)

    -- one of the lists has come to its end
    pub counting_end : (xs ys : List ℕ) → Counting n xs ys total → min (length xs) (length ys) ≡ 0 → n ≡ total
    counting_end [] ys w h = omega (arith, w.sum)
    counting_end (a ∷ xs) [] w h = omega (arith, w.sum, stepwise_none (map f (a ∷ xs)))
    counting_end (a ∷ xs) (b ∷ ys) w h = absurd (omega arith)
