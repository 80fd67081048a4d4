-- The octets of the record at an offset, header and body, and the order of a file's records by them.
use Rattle.std.specs.Prelude.{◌≡◌, refl, Bool, true, false, cond, List, ℕ, ◌+◌, ◌≤◌, ◌<◌, eqb, length, take, drop}
use Rattle.std.proofs.Common.{sym, ◌∙◌, arith, length-drop, take_all, eq-eqb, ne_eqb, eqb-true}
use Rattle.std.specs.Ordering.{is_ne, ordering_index, nat_cmp}
use Rattle.std.proofs.lemmas.Bool.{eqb-false, true≢false}
use borrow.Author.Tests.{lt-ltb, le-ltb}
use Rattle.octets.specs.Number.{Octets, num}
use Rattle.record.specs.Step.{cut, record_length_at, header_least}
use Rattle.multisets.specs.Merge.{Total}
use Rattle.lexicographic.specs.Lexicographic.{order_of, Lies, below, level, above, lies, order_most, order_turn, order_zero, order_self, order_trans, order_front}

-- the octets of the record at the offset; all that is left of the file where no whole record begins there
unfoldable pub record_at : List ℕ → ℕ → List ℕ
record_at file at = cond (cut (drop at file)) (drop at file) (take (record_length_at (drop at file)) (drop at file))

abbrev pub comes_before : List ℕ → ℕ → ℕ → Bool
comes_before file a b = eqb (order_of (record_at file a) (record_at file b)) 0

pub at_cut : (file : List ℕ) (at : ℕ) → cut (drop at file) ≡ true → record_at file at ≡ drop at file
unfolding record_at
at_cut file at e = rw e

pub at_whole : (file : List ℕ) (at : ℕ) → cut (drop at file) ≡ false → record_at file at ≡ take (record_length_at (drop at file)) (drop at file)
unfolding record_at
at_whole file at e = rw e

-- It begins with the four octets at the offset, where the file has four there.
record Front (file : List ℕ) (at : ℕ) : Type 0 where
  octets : ℕ
  enough : 4 ≤ octets
  is : record_at file at ≡ take octets (drop at file)

begins : (file : List ℕ) (at : ℕ) → at + 4 ≤ length file → Front file at
begins file at h = go (cut (drop at file)) refl
  where
    go : (b : Bool) → cut (drop at file) ≡ b → Front file at
    go true c =
        record {
          octets = length (drop at file);
          enough = simp length-drop (omega arith);
          is = at_cut file at c ∙ sym (take_all (length (drop at file)) (drop at file) (omega arith));
        }
    go false c = record { octets = record_length_at (drop at file); enough = omega (arith, header_least (drop at file)); is = at_whole file at c }

-- so records that differ in these lie as the numbers of the four octets do
pub fronts_differ : {f g : List ℕ} → Octets f → Octets g → (a b : ℕ) → a + 4 ≤ length f → b + 4 ≤ length g → num 4 f a < num 4 g b
    → order_of (record_at f a) (record_at g b) ≡ 0
fronts_differ {f} {g} o p a b ha hb h =
    let x = begins f a ha in
    let y = begins g b hb in
    (λ i. order_of (x.is i) (y.is i)) ∙ order_front o p 4 a b x.octets y.octets ha hb x.enough y.enough h

-- the same as std's order of the two numbers, where it tells them apart
pub fronts_apart : {f g : List ℕ} → Octets f → Octets g → (a b : ℕ) → a + 4 ≤ length f → b + 4 ≤ length g
    → is_ne (nat_cmp (num 4 f a) (num 4 g b)) ≡ true → ordering_index (nat_cmp (num 4 f a) (num 4 g b)) ≡ order_of (record_at f a) (record_at g b)
fronts_apart {f} {g} o p a b ha hb e = by (lies (num 4 f a) (num 4 g b))
  where
    by : Lies (num 4 f a) (num 4 g b) → ordering_index (nat_cmp (num 4 f a) (num 4 g b)) ≡ order_of (record_at f a) (record_at g b)
    by (below l) = rw (lt-ltb _ _ l) (sym (fronts_differ o p a b ha hb l))
    by (level l) =
        let m : num 4 g b ≤ num 4 f a = omega arith in
        absurd (true≢false (sym e ∙ rw (le-ltb _ _ m, eq-eqb _ _ l)))
    by (above l) =
        let m : num 4 g b ≤ num 4 f a = omega arith in
        rw (le-ltb _ _ m, ne_eqb _ _ (λ (q : num 4 f a ≡ num 4 g b). omega arith)) (sym (order_zero (record_at g b) (record_at f a) (fronts_differ p o b a hb ha l)))

-- The laws of a total order, as a merge needs them.
module _ (file : List ℕ) where
  module _ (a b : ℕ) where
    is_zero : comes_before file a b ≡ true → order_of (record_at file a) (record_at file b) ≡ 0
    is_zero e = eqb-true _ 0 e

    -- not before: at most, the other way round
    at_most : comes_before file a b ≡ false → order_of (record_at file b) (record_at file a) ≤ 1
    at_most e =
        let n : order_of (record_at file a) (record_at file b) ≡ 0 → ⊥ = eqb-false _ 0 e in
        omega (arith, order_turn (record_at file a) (record_at file b), order_most (record_at file a) (record_at file b))

    not_before : order_of (record_at file b) (record_at file a) ≤ 1 → comes_before file a b ≡ false
    not_before h = ne_eqb _ 0 (λ (z : order_of (record_at file a) (record_at file b) ≡ 0). let t = order_turn (record_at file a) (record_at file b) in omega arith)

  pub comes_before_total : Total (comes_before file)
  comes_before_total =
      record {
        self = λ x. not_before x x (omega (arith, order_self (record_at file x)));
        up = λ x y z h k.
            not_before z y (order_trans (record_at file y) (record_at file x) (record_at file z) (omega (arith, is_zero y x h)) (at_most z x k));
        on = λ x y z h k.
            not_before z x (order_trans (record_at file x) (record_at file y) (record_at file z) (at_most y x h) (at_most z y k));
      }
