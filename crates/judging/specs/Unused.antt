-- The unused octets of a filter are 0 (document 01, Settings), word by word: a word's octets behind those that count. Assumes nothing.
use Rattle.std.specs.Prelude.{◌≡◌, Bool, false, ◌&&◌, ◌||◌, List, ℕ, ◌+◌, ◌-◌, ◌%◌, ◌≤◌, ltb, get_or}
use Rattle.std.proofs.Math.Path.{refl}
use Rattle.std.proofs.Common.{sym, ap, ◌∙◌, arith}
use Rattle.std.proofs.Math.Bool.{true, and-true, and-false}
use Rattle.std.proofs.Math.Dec.{eqb}
use borrow.Author.Tests.{lt-ltb, eqb-true, eq-eqb, ne_eqb}
use Rattle.refusals.specs.Tests.{both}
use Rattle.refusals.specs.Below.{below_all}
use Rattle.state.specs.Bounds.{zero_at, zero_from}
use Rattle.words.specs.Words.{octet1, octet2, octet3, octet4}
use Rattle.words.specs.Laws.{packed_word, shifted, regroup, same_test}

-- the octets of a word from its u-th on are 0
unfoldable pub rest_zero : ℕ → ℕ → Bool
rest_zero w u =
    (ltb 0 u || eqb (octet1 w) 0)
    && ((ltb 1 u || eqb (octet2 w) 0) && ((ltb 2 u || eqb (octet3 w) 0) && (ltb 3 u || eqb (octet4 w) 0)))

-- the octets of one word more, whose first is the filter's k-th: x tells of those before
abbrev pub one_more : Bool → ℕ → ℕ → ℕ → Bool
one_more x w k n =
    x && (ltb (k + 0) n || eqb (octet1 w) 0) && (ltb (k + 1) n || eqb (octet2 w) 0) && (ltb (k + 2) n || eqb (octet3 w) 0) && (ltb (k + 3) n || eqb (octet4 w) 0)

one_word : (x : Bool) (w k n : ℕ) → one_more x w k n ≡ (x && rest_zero w (n - k))
unfolding rest_zero
one_word x w k n =
    regroup x (ltb (k + 0) n || eqb (octet1 w) 0) (ltb (k + 1) n || eqb (octet2 w) 0) (ltb (k + 2) n || eqb (octet3 w) 0) (ltb (k + 3) n || eqb (octet4 w) 0)
    ∙ (λ i. x
    && ((shifted k 0 n i || eqb (octet1 w) 0)
    && ((shifted k 1 n i || eqb (octet2 w) 0) && ((shifted k 2 n i || eqb (octet3 w) 0) && (shifted k 3 n i || eqb (octet4 w) 0)))))

-- A word's last octets as one number.
module _ (w : ℕ) where
  pub four_zero : eqb w 0 ≡ rest_zero w 0
  unfolding rest_zero
  four_zero = same_test (eqb w 0) (rest_zero w 0) there back
    where
      there : eqb w 0 ≡ true → rest_zero w 0 ≡ true
      there t = let z = eqb-true w 0 t in
          λ i. eq-eqb (octet1 w) 0 (omega arith) i && (eq-eqb (octet2 w) 0 (omega arith) i && (eq-eqb (octet3 w) 0 (omega arith) i && eq-eqb (octet4 w) 0 (omega arith) i))

      back : rest_zero w 0 ≡ true → eqb w 0 ≡ true
      back t =
          let t1 = both (eqb (octet1 w) 0) (eqb (octet2 w) 0 && (eqb (octet3 w) 0 && eqb (octet4 w) 0)) t in
          let t2 = both (eqb (octet2 w) 0) (eqb (octet3 w) 0 && eqb (octet4 w) 0) t1.1 in
          let t3 = both (eqb (octet3 w) 0) (eqb (octet4 w) 0) t2.1 in
          eq-eqb w 0 (omega (arith, packed_word w, eqb-true (octet1 w) 0 t1.0, eqb-true (octet2 w) 0 t2.0, eqb-true (octet3 w) 0 t3.0, eqb-true (octet4 w) 0 t3.1))

  pub three_zero : eqb (w % 16777216) 0 ≡ rest_zero w 1
  unfolding rest_zero
  three_zero = same_test (eqb (w % 16777216) 0) (rest_zero w 1) there back
    where
      there : eqb (w % 16777216) 0 ≡ true → rest_zero w 1 ≡ true
      there t = let z = eqb-true (w % 16777216) 0 t in
          λ i. eq-eqb (octet2 w) 0 (omega arith) i && (eq-eqb (octet3 w) 0 (omega arith) i && eq-eqb (octet4 w) 0 (omega arith) i)

      back : rest_zero w 1 ≡ true → eqb (w % 16777216) 0 ≡ true
      back t =
          let t2 = both (eqb (octet2 w) 0) (eqb (octet3 w) 0 && eqb (octet4 w) 0) t in
          let t3 = both (eqb (octet3 w) 0) (eqb (octet4 w) 0) t2.1 in
          eq-eqb (w % 16777216) 0 (omega (arith, packed_word w, eqb-true (octet2 w) 0 t2.0, eqb-true (octet3 w) 0 t3.0, eqb-true (octet4 w) 0 t3.1))

  pub two_zero : eqb (w % 65536) 0 ≡ rest_zero w 2
  unfolding rest_zero
  two_zero = same_test (eqb (w % 65536) 0) (rest_zero w 2) there back
    where
      there : eqb (w % 65536) 0 ≡ true → rest_zero w 2 ≡ true
      there t = let z = eqb-true (w % 65536) 0 t in λ i. eq-eqb (octet3 w) 0 (omega arith) i && eq-eqb (octet4 w) 0 (omega arith) i

      back : rest_zero w 2 ≡ true → eqb (w % 65536) 0 ≡ true
      back t =
          let t3 = both (eqb (octet3 w) 0) (eqb (octet4 w) 0) t in
          eq-eqb (w % 65536) 0 (omega (arith, eqb-true (octet3 w) 0 t3.0, eqb-true (octet4 w) 0 t3.1))

  pub one_zero_lem : eqb (w % 256) 0 ≡ rest_zero w 3
  unfolding rest_zero
  one_zero_lem = refl

  pub none_zero : (u : ℕ) → 4 ≤ u → rest_zero w u ≡ true
  unfolding rest_zero
  none_zero u h =
      λ i.
      (lt-ltb 0 u (omega arith) i || eqb (octet1 w) 0)
      && ((lt-ltb 1 u (omega arith) i || eqb (octet2 w) 0) && ((lt-ltb 2 u (omega arith) i || eqb (octet3 w) 0) && (lt-ltb 3 u (omega arith) i || eqb (octet4 w) 0)))

-- Octets that count are not looked at.
all_count : (filter : List ℕ) (n k : ℕ) → k ≤ n → zero_from filter n k ≡ true
all_count filter n k h = below_all (zero_at filter n) k (λ j l. ap (λ (b : Bool). b || eqb (get_or filter j 0) 0) (lt-ltb j n (omega arith)))

-- From the last word down: the word with the last octet that counts decides; one behind it is 0, and then those before decide.
module _ (w k n : ℕ) where
  pub word_decides : (filter : List ℕ) → k ≤ n → rest_zero w (n - k) ≡ one_more (zero_from filter n k) w k n
  word_decides filter h =
      ap (λ (x : Bool). x && rest_zero w (n - k)) (sym (all_count filter n k h)) ∙ sym (one_word (zero_from filter n k) w k n)

  behind : (x : Bool) → n ≤ k → (x && eqb w 0) ≡ one_more x w k n
  behind x h =
      let e : 0 ≡ n - k = omega arith in
      ap (λ (b : Bool). x && b) (four_zero w ∙ ap (rest_zero w) e) ∙ sym (one_word x w k n)

  pub word_not_zero : (x : Bool) → n ≤ k → (w ≡ 0 → ⊥) → false ≡ one_more x w k n
  word_not_zero x h z = sym (and-false x) ∙ ap (λ (b : Bool). x && b) (sym (ne_eqb w 0 z)) ∙ behind x h

  pub word_zero : (x : Bool) → n ≤ k → w ≡ 0 → x ≡ one_more x w k n
  word_zero x h z = sym (and-true x) ∙ ap (λ (b : Bool). x && b) (sym (eq-eqb w 0 z)) ∙ behind x h
