-- Octets in lexicographic order: 0, the first list comes before the second; 1, they are the same; 2, the first comes after the second. It is a total order.
use Rattle.std.specs.Prelude.{◌≡◌, refl, Bool, true, false, cond, List, [], ◌∷◌, ◌++◌, ℕ, zero, suc, ◌+◌, ◌-◌, ◌*◌, ◌^◌, ◌≤◌, ◌<◌, ltb, length, get_or, take, drop}
use Rattle.std.proofs.Common.{sym, ap, ◌∙◌, add-one, mul-le-mul_right, suc-mul, lit≤, eq-eqb, ne_eqb, take-append-drop, length-take, length-drop, drop-drop, take_all}
use native.Mathlib.Omega.{arith}
use Rattle.std.proofs.Math.ListN.{drop_of_length-le}
use Rattle.std.proofs.Math.Seq.{drop-cons}
use Rattle.octets.specs.Number.{Octets, be, num, num_lt, be_num}
use Rattle.octets.specs.Alike.{alike, alike_is}
use Rattle.std.specs.declared.cmp.Ordering.{Ordering}
use Rattle.std.specs.Ordering.{ordering_index, ordering_then, nat_cmp}
use Rattle.std.specs.Cmp.Lexicographic.{slice_cmp}
use borrow.Author.Tests.{lt-ltb, le-ltb, ltb-true, ltb-false}

unfoldable pub order_of : List ℕ → List ℕ → ℕ
order_of [] [] = 1
order_of [] (y ∷ ys) = 0
order_of (x ∷ xs) [] = 2
order_of (x ∷ xs) (y ∷ ys) = cond (ltb x y) 0 (cond (ltb y x) 2 (order_of xs ys))

-- The cases of two octets in front.
module _ (x y : ℕ) (xs ys : List ℕ) where
  pub order_before : x < y → order_of (x ∷ xs) (y ∷ ys) ≡ 0
  unfolding order_of
  order_before h = rw (lt-ltb _ _ h)

  pub order_after : y < x → order_of (x ∷ xs) (y ∷ ys) ≡ 2
  unfolding order_of
  order_after h = let k : y ≤ x = omega arith in rw (le-ltb _ _ k, lt-ltb _ _ h)

  pub order_on : x ≡ y → order_of (x ∷ xs) (y ∷ ys) ≡ order_of xs ys
  unfolding order_of
  order_on e = let h : y ≤ x = omega arith in let k : x ≤ y = omega arith in rw (le-ltb _ _ h, le-ltb _ _ k)

-- how two numbers lie
pub data Lies (x y : ℕ) : Type 0 where
  below : x < y → Lies x y
  level : x ≡ y → Lies x y
  above : y < x → Lies x y

pub lies : (x y : ℕ) → Lies x y
lies x y = first (ltb x y) refl (ltb y x) refl
  where
    first : (b : Bool) → ltb x y ≡ b → (c : Bool) → ltb y x ≡ c → Lies x y
    first true e c f = below (ltb-true x y e)
    first false e true f = above (ltb-true y x f)
    first false e false f = level (let h = ltb-false x y e in let k = ltb-false y x f in omega arith)

-- Laws: it is 0, 1 or 2; turning the two around turns the answer around; 1 says that they are the same; it is transitive.
most_step : (x y : ℕ) (xs ys : List ℕ) → order_of xs ys ≤ 2 → Lies x y → order_of (x ∷ xs) (y ∷ ys) ≤ 2
most_step x y xs ys h (below l) = omega (arith, order_before x y xs ys l)
most_step x y xs ys h (level l) = omega (arith, order_on x y xs ys l)
most_step x y xs ys h (above l) = omega (arith, order_after x y xs ys l)

pub order_most : (xs ys : List ℕ) → order_of xs ys ≤ 2
unfolding order_of
order_most [] [] = lit≤ tt
order_most [] (y ∷ ys) = lit≤ tt
order_most (x ∷ xs) [] = lit≤ tt
order_most (x ∷ xs) (y ∷ ys) = most_step x y xs ys (order_most xs ys) (lies x y)

turn_step : (x y : ℕ) (xs ys : List ℕ) → order_of ys xs ≡ 2 - order_of xs ys → Lies x y → order_of (y ∷ ys) (x ∷ xs) ≡ 2 - order_of (x ∷ xs) (y ∷ ys)
turn_step x y xs ys h (below l) = omega (arith, order_before x y xs ys l, order_after y x ys xs l)
turn_step x y xs ys h (level l) = omega (arith, order_on x y xs ys l, order_on y x ys xs (sym l))
turn_step x y xs ys h (above l) = omega (arith, order_after x y xs ys l, order_before y x ys xs l)

pub order_turn : (xs ys : List ℕ) → order_of ys xs ≡ 2 - order_of xs ys
unfolding order_of
order_turn [] [] = refl
order_turn [] (y ∷ ys) = refl
order_turn (x ∷ xs) [] = refl
order_turn (x ∷ xs) (y ∷ ys) = turn_step x y xs ys (order_turn xs ys) (lies x y)

-- before, turned around, is after
pub order_zero : (xs ys : List ℕ) → order_of xs ys ≡ 0 → order_of ys xs ≡ 2
order_zero xs ys e = order_turn xs ys ∙ ap (λ (n : ℕ). 2 - n) e

pub order_self : (xs : List ℕ) → order_of xs xs ≡ 1
unfolding order_of
order_self [] = refl
order_self (x ∷ xs) = order_on x x xs xs refl ∙ order_self xs

same_step : (x y : ℕ) (xs ys : List ℕ) → (order_of xs ys ≡ 1 → xs ≡ ys) → Lies x y → order_of (x ∷ xs) (y ∷ ys) ≡ 1 → x ∷ xs ≡ y ∷ ys
same_step x y xs ys h (below l) e = absurd (omega (arith, order_before x y xs ys l))
same_step x y xs ys h (level l) e = let t = h (sym (order_on x y xs ys l) ∙ e) in λ i. l i ∷ t i
same_step x y xs ys h (above l) e = absurd (omega (arith, order_after x y xs ys l))

pub order_same : (xs ys : List ℕ) → order_of xs ys ≡ 1 → xs ≡ ys
unfolding order_of
order_same [] [] e = refl
order_same [] (y ∷ ys) e = absurd (omega arith)
order_same (x ∷ xs) [] e = absurd (omega arith)
order_same (x ∷ xs) (y ∷ ys) e = same_step x y xs ys (order_same xs ys) (lies x y) e

trans_step : (x y z : ℕ) (xs ys zs : List ℕ) → (order_of xs ys ≤ 1 → order_of ys zs ≤ 1 → order_of xs zs ≤ 1) → Lies x y → Lies y z
    → order_of (x ∷ xs) (y ∷ ys) ≤ 1 → order_of (y ∷ ys) (z ∷ zs) ≤ 1 → order_of (x ∷ xs) (z ∷ zs) ≤ 1
trans_step x y z xs ys zs h (below l) (below m) a b = omega (arith, order_before x z xs zs (omega arith))
trans_step x y z xs ys zs h (below l) (level m) a b = omega (arith, order_before x z xs zs (omega arith))
trans_step x y z xs ys zs h (below l) (above m) a b = absurd (omega (arith, order_after y z ys zs m))
trans_step x y z xs ys zs h (level l) (below m) a b = omega (arith, order_before x z xs zs (omega arith))
trans_step x y z xs ys zs h (level l) (level m) a b =
    let t = h (omega (arith, order_on x y xs ys l)) (omega (arith, order_on y z ys zs m)) in
    omega (arith, order_on x z xs zs (omega arith))
trans_step x y z xs ys zs h (level l) (above m) a b = absurd (omega (arith, order_after y z ys zs m))
trans_step x y z xs ys zs h (above l) m a b = absurd (omega (arith, order_after x y xs ys l))

pub order_trans : (xs ys zs : List ℕ) → order_of xs ys ≤ 1 → order_of ys zs ≤ 1 → order_of xs zs ≤ 1
unfolding order_of
order_trans [] ys [] a b = lit≤ tt
order_trans [] ys (z ∷ zs) a b = lit≤ tt
order_trans (x ∷ xs) [] zs a b = absurd (omega arith)
order_trans (x ∷ xs) (y ∷ ys) [] a b = absurd (omega arith)
order_trans (x ∷ xs) (y ∷ ys) (z ∷ zs) a b = trans_step x y z xs ys zs (order_trans xs ys zs) (lies x y) (lies y z) a b

-- At place i: the octets there settle it, or the order is that of what follows them.
module _ (xs ys : List ℕ) (i : ℕ) where
  module _ (hx : i < length xs) (hy : i < length ys) where
    fronts : order_of (drop i xs) (drop i ys) ≡ order_of (get_or xs i 0 ∷ drop (suc i) xs) (get_or ys i 0 ∷ drop (suc i) ys)
    fronts = rw (drop-cons xs i 0 hx, drop-cons ys i 0 hy)

    pub at_before : get_or xs i 0 < get_or ys i 0 → order_of (drop i xs) (drop i ys) ≡ 0
    at_before h = fronts ∙ order_before _ _ _ _ h

    pub at_after : get_or ys i 0 < get_or xs i 0 → order_of (drop i xs) (drop i ys) ≡ 2
    at_after h = fronts ∙ order_after _ _ _ _ h

    pub at_on : get_or xs i 0 ≡ get_or ys i 0 → order_of (drop (i + 1) xs) (drop (i + 1) ys) ≡ order_of (drop i xs) (drop i ys)
    at_on h = rw add-one (sym (fronts ∙ order_on _ _ _ _ h))

  pub end_before : length xs ≤ i → i < length ys → order_of (drop i xs) (drop i ys) ≡ 0
  unfolding order_of
  end_before a b = rw (drop_of_length-le xs a, drop-cons ys i 0 b)

  pub end_after : i < length xs → length ys ≤ i → order_of (drop i xs) (drop i ys) ≡ 2
  unfolding order_of
  end_after a b = rw (drop_of_length-le ys b, drop-cons xs i 0 a)

  pub end_same : length xs ≤ i → length ys ≤ i → order_of (drop i xs) (drop i ys) ≡ 1
  unfolding order_of
  end_same a b = rw (drop_of_length-le xs a, drop_of_length-le ys b)

-- A block that is the same in both is passed over.
order_append : (p xs ys : List ℕ) → order_of (p ++ xs) (p ++ ys) ≡ order_of xs ys
order_append [] xs ys = refl
order_append (x ∷ p) xs ys = order_on x x (p ++ xs) (p ++ ys) refl ∙ order_append p xs ys

pub order_block : (xs ys : List ℕ) (i n : ℕ) → take n (drop i xs) ≡ take n (drop i ys)
    → order_of (drop (i + n) xs) (drop (i + n) ys) ≡ order_of (drop i xs) (drop i ys)
order_block xs ys i n e =
    let b = take n (drop i xs) in
    let f : b ++ drop (i + n) xs ≡ drop i xs = ap (λ (l : List ℕ). b ++ l) (sym (drop-drop n i xs)) ∙ take-append-drop n (drop i xs) in
    let g : b ++ drop (i + n) ys ≡ drop i ys = (λ k. e k ++ sym (drop-drop n i ys) k) ∙ take-append-drop n (drop i ys) in
    sym (order_append b (drop (i + n) xs) (drop (i + n) ys)) ∙ (λ k. order_of (f k) (g k))

-- the same where two parts from i on are alike in n octets
pub order_alike : (xs ys : List ℕ) (i n : ℕ) → i + n ≤ length xs → i + n ≤ length ys
    → alike (take (i + n - i) (drop i xs)) (take (i + n - i) (drop i ys)) n ≡ true
    → order_of (drop (i + n) xs) (drop (i + n) ys) ≡ order_of (drop i xs) (drop i ys)
order_alike xs ys i n hx hy e =
    let k : i + n - i ≡ n = omega arith in
    let l : length (take n (drop i xs)) ≡ n = simp (length-take, length-drop) (omega arith) in
    let r : length (take n (drop i ys)) ≡ n = simp (length-take, length-drop) (omega arith) in
    let s : alike (take n (drop i xs)) (take n (drop i ys)) (length (take n (drop i xs))) ≡ true =
    (λ j. alike (take (sym k j) (drop i xs)) (take (sym k j) (drop i ys)) (l j)) ∙ e in
    order_block xs ys i n (alike_is (take n (drop i xs)) (take n (drop i ys)) (l ∙ sym r) s)

-- The first octets of two parts as numbers: parts that differ there lie as these numbers do.
module _ {f g : List ℕ} (o : Octets f) (p : Octets g) where
  -- a greater octet in front makes the greater number
  no_less : (w a b x y : ℕ) → y < x → num w g (b + 1) < 256 ^ w → x * 256 ^ w + num w f (a + 1) < y * 256 ^ w + num w g (b + 1) → ⊥
  no_less w a b x y h k l =
      let e : suc y * 256 ^ w ≡ y * 256 ^ w + 256 ^ w = suc-mul y (256 ^ w) in
      let m : suc y * 256 ^ w ≤ x * 256 ^ w = mul-le-mul_right (256 ^ w) (omega arith) in
      omega arith

  -- the fronts of two parts, by how they lie; `rest` is about what follows them
  front_step : (w a b m n : ℕ) → num (suc w) f a < num (suc w) g b
      → (num w f (a + 1) < num w g (b + 1) → order_of (take m (drop (suc a) f)) (take n (drop (suc b) g)) ≡ 0)
      → Lies (get_or f a 0) (get_or g b 0) → order_of (get_or f a 0 ∷ take m (drop (suc a) f)) (get_or g b 0 ∷ take n (drop (suc b) g)) ≡ 0
  front_step w a b m n h rest (below l) = order_before _ _ _ _ l
  front_step w a b m n h rest (above l) = absurd (no_less w a b (get_or f a 0) (get_or g b 0) l (num_lt p w (b + 1)) h)
  front_step w a b m n h rest (level l) =
      let e : get_or f a 0 * 256 ^ w ≡ get_or g b 0 * 256 ^ w = ap (λ (z : ℕ). z * 256 ^ w) l in
      order_on _ _ _ _ l ∙ rest (omega arith)

  pub order_front : (w a b m n : ℕ) → a + w ≤ length f → b + w ≤ length g → w ≤ m → w ≤ n → num w f a < num w g b
      → order_of (take m (drop a f)) (take n (drop b g)) ≡ 0
  order_front zero a b m n hf hg hm hn h = absurd (omega arith)
  order_front (suc w) a b zero n hf hg hm hn h = absurd (omega arith)
  order_front (suc w) a b (suc m) zero hf hg hm hn h = absurd (omega arith)
  order_front (suc w) a b (suc m) (suc n) hf hg hm hn h =
      (λ i. order_of (take (suc m) (drop-cons f a 0 (omega arith) i)) (take (suc n) (drop-cons g b 0 (omega arith) i)))
      ∙ front_step w a b m n h
      (λ k. (λ i. order_of (take m (drop (sym (add-one a) i) f)) (take n (drop (sym (add-one b) i) g)))
      ∙ order_front w (a + 1) (b + 1) m n (omega arith) (omega arith) (omega arith) (omega arith) k)
      (lies (get_or f a 0) (get_or g b 0))

  -- the same of all that is left from i on
  pub order_word : (w i : ℕ) → i + w ≤ length f → i + w ≤ length g → num w f i < num w g i → order_of (drop i f) (drop i g) ≡ 0
  order_word w i hf hg h =
      let whole : (xs : List ℕ) → xs ≡ take (length xs) xs = λ xs. sym (take_all (length xs) xs (omega arith)) in
      (λ k. order_of (whole (drop i f) k) (whole (drop i g) k))
      ∙ order_front w i i (length (drop i f)) (length (drop i g)) hf hg (simp length-drop (omega arith)) (simp length-drop (omega arith)) h

  -- equal numbers are passed over
  pub order_pass : (w i : ℕ) → i + w ≤ length f → i + w ≤ length g → num w f i ≡ num w g i
      → order_of (drop (i + w) f) (drop (i + w) g) ≡ order_of (drop i f) (drop i g)
  order_pass w i hf hg e =
      sym (order_append (be w (num w f i)) (drop (i + w) f) (drop (i + w) g))
      ∙ (λ k. order_of (be_num o w i hf k) ((ap (λ (n : ℕ). be w n ++ drop (i + w) g) e ∙ be_num p w i hg) k))

-- It is the order that std has of lists of numbers, its three answers counted from 0.
std_step : (q : Ordering) (x y : ℕ) (xs ys : List ℕ) → ordering_index q ≡ order_of xs ys → Lies x y
    → ordering_index (ordering_then (nat_cmp x y) q) ≡ order_of (x ∷ xs) (y ∷ ys)
std_step q x y xs ys h (below l) = rw (lt-ltb x y l) (sym (order_before x y xs ys l))
std_step q x y xs ys h (level l) = let m : y ≤ x = omega arith in rw (le-ltb x y m, eq-eqb x y l) (h ∙ sym (order_on x y xs ys l))
std_step q x y xs ys h (above l) = let m : y ≤ x = omega arith in rw (le-ltb x y m, ne_eqb x y (λ (e : x ≡ y). omega arith)) (sym (order_after x y xs ys l))

pub order_std : (xs ys : List ℕ) → ordering_index (slice_cmp nat_cmp xs ys) ≡ order_of xs ys
unfolding order_of
order_std [] [] = refl
order_std [] (y ∷ ys) = refl
order_std (x ∷ xs) [] = refl
order_std (x ∷ xs) (y ∷ ys) = std_step (slice_cmp nat_cmp xs ys) x y xs ys (order_std xs ys) (lies x y)
