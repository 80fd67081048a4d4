-- How many octets of a filter and a key are the same from the first on (document 01, Routing and loss; document 02, ask 7), word by word:
-- words that are the same are four octets that are, and in the first two words that are not there is a first octet that differs.
-- Assumes nothing.
use Rattle.std.specs.Prelude.{◌≡◌, Bool, cond, ◌&&◌, List, [], ◌∷◌, ℕ, zero, suc, ◌+◌, ◌*◌, ◌/◌, ◌%◌, ◌≤◌, ◌<◌, ltb, leb, eqb, length, get_or}
use Rattle.std.proofs.Math.Path.{refl, sym, ap}
use Rattle.std.proofs.Common.{◌∙◌, arith}
use Rattle.std.proofs.Math.Bool.{true, false}
use Rattle.std.proofs.Math.Decide.{dec_lt}
use borrow.Author.Tests.{lt-ltb, le-ltb, le-leb, lt-leb, eq-eqb, ne_eqb, ltb-true, ltb-false}
use Rattle.refusals.specs.Below.{all_below, below_each, below_all, leading, leading_all, leading_to, leading_most, leading_whole, leading_short, leading_same}
use Rattle.octets.specs.Alike.{same_at, alike}
use Rattle.octets.specs.Number.{Octets}
use Rattle.state.specs.declared.RouteSettings.{RouteSettings}
use Rattle.state.specs.Routing.{fits}
use Rattle.state.specs.Compared.{up_to_differing, compared_with}
use Rattle.words.specs.Words.{octet1, octet2, octet3, octet4, octets_in, settings_in, four_at, five_words}
use Rattle.words.specs.Laws.{octet1_packed, octet2_packed, octet3_packed, octet4_packed}

-- octet i of a word, and octet q of words
abbrev pub octet_of : ℕ → ℕ → ℕ
octet_of zero w = octet1 w
octet_of (suc zero) w = octet2 w
octet_of (suc (suc zero)) w = octet3 w
octet_of (suc (suc (suc i))) w = octet4 w

abbrev pub same_octet : ℕ → ℕ → ℕ → Bool
same_octet w k i = eqb (octet_of i w) (octet_of i k)

abbrev pub same_in : List ℕ → List ℕ → ℕ → Bool
same_in xs ks q = same_octet (get_or xs (q / 4) 0) (get_or ks (q / 4) 0) (q % 4)

-- the first octet in which two words differ
pub record Differs (w k i : ℕ) : Type 0 where
  pub low : i < 4
  pub before : (j : ℕ) → j < i → same_octet w k j ≡ true
  pub at : same_octet w k i ≡ false

module _ (w k : ℕ) where
  pub differs_fourth : w / 256 ≡ k / 256 → (w ≡ k → ⊥) → Differs w k 3
  differs_fourth e d = record { low = omega arith; before = before; at = ne_eqb (octet4 w) (octet4 k) (λ z. d (omega arith)) }
    where
      before : (j : ℕ) → j < 3 → same_octet w k j ≡ true
      before zero h = eq-eqb (octet1 w) (octet1 k) (omega arith)
      before (suc zero) h = eq-eqb (octet2 w) (octet2 k) (omega arith)
      before (suc (suc zero)) h = eq-eqb (octet3 w) (octet3 k) (omega arith)
      before (suc (suc (suc j))) h = absurd (omega arith)

  pub differs_third : w / 65536 ≡ k / 65536 → (w / 256 ≡ k / 256 → ⊥) → Differs w k 2
  differs_third e d = record { low = omega arith; before = before; at = ne_eqb (octet3 w) (octet3 k) (λ z. d (omega arith)) }
    where
      before : (j : ℕ) → j < 2 → same_octet w k j ≡ true
      before zero h = eq-eqb (octet1 w) (octet1 k) (omega arith)
      before (suc zero) h = eq-eqb (octet2 w) (octet2 k) (omega arith)
      before (suc (suc j)) h = absurd (omega arith)

  pub differs_second : w / 16777216 ≡ k / 16777216 → (w / 65536 ≡ k / 65536 → ⊥) → Differs w k 1
  differs_second e d = record { low = omega arith; before = before; at = ne_eqb (octet2 w) (octet2 k) (λ z. d (omega arith)) }
    where
      before : (j : ℕ) → j < 1 → same_octet w k j ≡ true
      before zero h = eq-eqb (octet1 w) (octet1 k) (omega arith)
      before (suc j) h = absurd (omega arith)

  pub differs_first : (w / 16777216 ≡ k / 16777216 → ⊥) → Differs w k 0
  differs_first d = record { low = omega arith; before = λ j h. absurd (omega arith); at = ne_eqb (octet1 w) (octet1 k) d }

-- how many of n octets are the same, where those before `from` are and the next two words are not
pub record SameBefore (w k from n r : ℕ) : Type 0 where
  pub at : ℕ
  pub differs : Differs w k at
  pub is : r ≡ cond (ltb (from + at) n) (from + at) n

-- The words of a filter and of a key, compared as far as n octets: all octets before word j are the same.
module _ (xs ks : List ℕ) (j : ℕ) (all : all_below (same_in xs ks) (4 * j) ≡ true) where
  -- so they are up to octet i of that word
  up_to : (i : ℕ) → i ≤ 4 → ((q : ℕ) → q < i → same_octet (get_or xs j 0) (get_or ks j 0) q ≡ true) → all_below (same_in xs ks) (4 * j + i) ≡ true
  up_to i few here = below_all (same_in xs ks) (4 * j + i) (λ q h. go q h (dec_lt q (4 * j)))
    where
      go : (q : ℕ) → q < 4 * j + i → Dec (q < 4 * j) → same_in xs ks q ≡ true
      go q h (yes l) = below_each (same_in xs ks) (4 * j) all q l
      go q h (no l) =
          let e : q / 4 ≡ j = omega arith in
          ap (λ (p : ℕ). same_octet (get_or xs p 0) (get_or ks p 0) (q % 4)) e ∙ here (q % 4) (omega arith)

  -- it is the same in both
  pub word_same : get_or xs j 0 ≡ get_or ks j 0 → all_below (same_in xs ks) (4 * j + 4) ≡ true
  word_same e = up_to 4 (omega arith) (λ q h. eq-eqb (octet_of q (get_or xs j 0)) (octet_of q (get_or ks j 0)) (ap (octet_of q) e))

  -- it is not
  pub word_differs : (i n : ℕ) → Differs (get_or xs j 0) (get_or ks j 0) i → cond (ltb (4 * j + i) n) (4 * j + i) n ≡ leading (same_in xs ks) n
  word_differs i n d = go (ltb (4 * j + i) n) refl
    where
      upto : all_below (same_in xs ks) (4 * j + i) ≡ true
      upto = up_to i (omega (arith, d.low)) d.before

      here : same_in xs ks (4 * j + i) ≡ false
      here =
          let e : (4 * j + i) / 4 ≡ j = omega (arith, d.low) in
          let f : (4 * j + i) % 4 ≡ i = omega (arith, d.low) in
          (λ p. same_octet (get_or xs (e p) 0) (get_or ks (e p) 0) (f p)) ∙ d.at

      go : (b : Bool) → ltb (4 * j + i) n ≡ b → cond b (4 * j + i) n ≡ leading (same_in xs ks) n
      go true e = sym (leading_to (same_in xs ks) n (4 * j + i) (omega (arith, ltb-true (4 * j + i) n e)) upto here)
      go false e =
          sym
          (leading_all (same_in xs ks) n
          (below_all (same_in xs ks) n (λ q h. below_each (same_in xs ks) (4 * j + i) upto q (omega (arith, ltb-false (4 * j + i) n e)))))

-- and there are no more
pub words_end : (xs ks : List ℕ) (k n : ℕ) → all_below (same_in xs ks) k ≡ true → n ≤ k → n ≡ leading (same_in xs ks) n
words_end xs ks k n all h =
    sym (leading_all (same_in xs ks) n (below_all (same_in xs ks) n (λ q l. below_each (same_in xs ks) k all q (omega arith))))

-- Twenty octets are five words.
octets_word : (w : ℕ) (rest : List ℕ) (q : ℕ) → q < 4 → get_or (octets_in w rest) q 0 ≡ octet_of q w
octets_word w rest zero h = refl
octets_word w rest (suc zero) h = refl
octets_word w rest (suc (suc zero)) h = refl
octets_word w rest (suc (suc (suc zero))) h = refl
octets_word w rest (suc (suc (suc (suc q)))) h = absurd (omega arith)

abbrev octets_of : List ℕ → List ℕ
octets_of [] = []
octets_of (w ∷ ws) = octets_in w (octets_of ws)

octets_of_lem : (ws : List ℕ) (q : ℕ) → q < 4 * length ws → get_or (octets_of ws) q 0 ≡ octet_of (q % 4) (get_or ws (q / 4) 0)
octets_of_lem [] q h = absurd (omega arith)
octets_of_lem (w ∷ ws) (suc (suc (suc (suc q)))) h =
    let e : suc (q / 4) ≡ suc (suc (suc (suc q))) / 4 = omega arith in
    let f : q % 4 ≡ suc (suc (suc (suc q))) % 4 = omega arith in
    octets_of_lem ws q (omega arith) ∙ (λ p. octet_of (f p) (get_or (w ∷ ws) (e p) 0))
octets_of_lem (w ∷ ws) zero h = refl
octets_of_lem (w ∷ ws) (suc zero) h = refl
octets_of_lem (w ∷ ws) (suc (suc zero)) h = refl
octets_of_lem (w ∷ ws) (suc (suc (suc zero))) h = refl

-- the first five words of a route
first_five : (xs : List ℕ) (j : ℕ) → j < 5 → get_or (get_or xs 0 0 ∷ get_or xs 1 0 ∷ get_or xs 2 0 ∷ get_or xs 3 0 ∷ get_or xs 4 0 ∷ []) j 0 ≡ get_or xs j 0
first_five xs zero h = refl
first_five xs (suc zero) h = refl
first_five xs (suc (suc zero)) h = refl
first_five xs (suc (suc (suc zero))) h = refl
first_five xs (suc (suc (suc (suc zero)))) h = refl
first_five xs (suc (suc (suc (suc (suc j))))) h = absurd (omega arith)

filter_at : (xs : List ℕ) (q : ℕ) → q < 20 → get_or (settings_in xs).filter q 0 ≡ octet_of (q % 4) (get_or xs (q / 4) 0)
filter_at xs q h =
    octets_of_lem (get_or xs 0 0 ∷ get_or xs 1 0 ∷ get_or xs 2 0 ∷ get_or xs 3 0 ∷ get_or xs 4 0 ∷ []) q (omega arith)
    ∙ ap (octet_of (q % 4)) (first_five xs (q / 4) (omega arith))

-- and those of a key
module _ (key : List ℕ) (o : Octets key) where
  four_at_lem : (k i : ℕ) → i < 4 → octet_of i (four_at key k) ≡ get_or key (k + i) 0
  four_at_lem k zero h =
      let e : k ≡ k + 0 = omega arith in
      octet1_packed (get_or key k 0) (get_or key (k + 1) 0) (get_or key (k + 2) 0) (get_or key (k + 3) 0) (o.at (k + 1)) (o.at (k + 2)) (o.at (k + 3))
      ∙ ap (λ (p : ℕ). get_or key p 0) e
  four_at_lem k (suc zero) h =
      octet2_packed (get_or key k 0) (get_or key (k + 1) 0) (get_or key (k + 2) 0) (get_or key (k + 3) 0) (o.at (k + 1)) (o.at (k + 2)) (o.at (k + 3))
  four_at_lem k (suc (suc zero)) h =
      octet3_packed (get_or key k 0) (get_or key (k + 1) 0) (get_or key (k + 2) 0) (get_or key (k + 3) 0) (o.at (k + 1)) (o.at (k + 2)) (o.at (k + 3))
  four_at_lem k (suc (suc (suc zero))) h =
      octet4_packed (get_or key k 0) (get_or key (k + 1) 0) (get_or key (k + 2) 0) (get_or key (k + 3) 0) (o.at (k + 1)) (o.at (k + 2)) (o.at (k + 3))
  four_at_lem k (suc (suc (suc (suc i)))) h = absurd (omega arith)

  five_at : (j : ℕ) → j < 5 → get_or (five_words key) j 0 ≡ four_at key (4 * j)
  five_at zero h = refl
  five_at (suc zero) h = refl
  five_at (suc (suc zero)) h = refl
  five_at (suc (suc (suc zero))) h = refl
  five_at (suc (suc (suc (suc zero)))) h = refl
  five_at (suc (suc (suc (suc (suc j))))) h = absurd (omega arith)

  key_at : (q : ℕ) → q < 20 → octet_of (q % 4) (get_or (five_words key) (q / 4) 0) ≡ get_or key q 0
  key_at q h =
      let e : 4 * (q / 4) + q % 4 ≡ q = omega arith in
      ap (octet_of (q % 4)) (five_at (q / 4) (omega arith)) ∙ four_at_lem (4 * (q / 4)) (q % 4) (omega arith) ∙ ap (λ (p : ℕ). get_or key p 0) e

-- The filter of the route that the words xs begin with, and a key, of which `five` are the words: how many octets are the same from the
-- first on says whether it fits and how many are compared.
module _ (xs key five : List ℕ) (o : Octets key) (same : five ≡ five_words key) (short : (settings_in xs).octets ≤ 20) where
  abbrev n : ℕ
  n = (settings_in xs).octets

  abbrev f : ℕ → Bool
  f = same_at (settings_in xs).filter key

  pub in_words : leading (same_in xs five) n ≡ leading f n
  in_words =
      ap (λ (l : List ℕ). leading (same_in xs l) n) same
      ∙ leading_same (same_in xs (five_words key)) f n
      (λ q h. λ p. eqb (sym (filter_at xs q (omega arith)) p) (key_at key o q (omega arith) p))

  module _ {k : ℕ} (e : k ≡ leading (same_in xs five) n) where
    is : k ≡ leading f n
    is = e ∙ in_words

    pub few : k ≤ 20
    few = omega (arith, is, leading_most f n)

    -- one differs
    pub differs_unfit : k < n → false ≡ fits (settings_in xs) key
    unfolding fits
    differs_unfit h = sym (and_no (leb n (length key)) (leading_short f n (omega (arith, is))))
      where
        and_no : (a : Bool) {b : Bool} → b ≡ false → (a && b) ≡ false
        and_no true p = p
        and_no false p = refl

    -- a filter that is not longer than the key
    by_same : n ≤ length key → compared_with (settings_in xs) key ≡ up_to_differing k n
    by_same l = (λ p. cond (le-leb n (length key) l p) (up_to_differing (leading f n) n) 0) ∙ ap (λ (j : ℕ). up_to_differing j n) (sym is)

    pub differs_compared : n ≤ length key → k < n → k + 1 ≡ compared_with (settings_in xs) key
    differs_compared l h = sym (by_same l ∙ ap (λ (b : Bool). cond b (k + 1) n) (lt-ltb k n h))

    -- none does
    pub same_fits : n ≤ length key → n ≤ k → true ≡ fits (settings_in xs) key
    unfolding fits
    same_fits l h = sym (λ p. le-leb n (length key) l p && leading_whole f n (omega (arith, is)) p)

    pub same_compared : n ≤ length key → n ≤ k → n ≡ compared_with (settings_in xs) key
    same_compared l h = sym (by_same l ∙ ap (λ (b : Bool). cond b (k + 1) n) (le-ltb k n h))

-- a filter that is longer than the key
module _ (s : RouteSettings) (key : List ℕ) (long : length key < s.octets) where
  pub long_unfit : false ≡ fits s key
  unfolding fits
  long_unfit = ap (λ (b : Bool). b && alike s.filter key s.octets) (sym (lt-leb s.octets (length key) long))

  pub long_compared : 0 ≡ compared_with s key
  long_compared = sym (rw (lt-leb s.octets (length key) long))
