-- A list whose two parts were lent, arranged and put back, and then merged, is arranged; and without the merge, where the second part does not begin
-- before the end of the first.
use Rattle.std.specs.Prelude.{◌≡◌, Bool, false, List, [], ◌++◌, ℕ, suc, ◌+◌, ◌-◌, ◌≤◌, ◌<◌, length, take, drop, get_or}
use Rattle.std.proofs.Common.{sym, ap, ◌∙◌, subst, append-nil, arith, length-take, length-drop, length-append, drop_of_length-le, take_at, drop_at, take_all, get_or-append-add}
use Rattle.std.proofs.Math.ListN.{get_or-append}
use Rattle.multisets.specs.Passing.{same_length}
use Rattle.multisets.specs.Merge.{Arranged, Total, merge_of, arranged_merge, arranged_append}

module _ (less : ℕ → ℕ → Bool) (t : Total less) (was : List ℕ) (m : ℕ) (h : m ≤ length was) (a b : List ℕ) where
  -- the list when its first m are arranged
  abbrev half : List ℕ
  half = a ++ drop m was

  -- and when the rest is too
  abbrev whole : List ℕ
  whole = take m half ++ (b ++ drop (length half - m) (drop m half))

  module _ (f : Arranged less (take m was) a) (g : Arranged less (take (length half - m) (drop m half)) b) where
    first_length : length a ≡ m
    first_length = same_length a (take m was) f.same ∙ length-take m was ∙ omega arith

    half_length : length half ≡ length was
    half_length = length-append a (drop m was) ∙ omega (arith, first_length, length-drop m was)

    rest_is : take (length half - m) (drop m half) ≡ drop m was
    rest_is =
        ap (take (length half - m)) (drop_at a (drop m was) m first_length)
        ∙ take_all (length half - m) (drop m was) (omega (arith, half_length, length-drop m was))

    second : Arranged less (drop m was) b
    second = subst (λ (l : List ℕ). Arranged less l b) rest_is g

    second_length : length b ≡ length was - m
    second_length = same_length b (drop m was) second.same ∙ length-drop m was

    whole_is : whole ≡ a ++ b
    whole_is =
        let r : drop (length half - m) (drop m half) ≡ [] = drop_of_length-le (drop m half) {i = length half - m} (omega (arith, length-drop m half)) in
        (λ i. take_at a (drop m was) m first_length i ++ (b ++ r i)) ∙ ap (λ (l : List ℕ). a ++ l) (append-nil b)

    -- merged
    pub halves : (end : List ℕ) → end ≡ merge_of less (take m whole) (drop m whole) → Arranged less was end
    halves end e =
        let x : take m whole ≡ a = ap (take m) whole_is ∙ take_at a b m first_length in
        let y : drop m whole ≡ b = ap (drop m) whole_is ∙ drop_at a b m first_length in
        subst (Arranged less was) (sym (e ∙ (λ i. merge_of less (x i) (y i)))) (arranged_merge less t was m a b f second)

    -- left as they stand
    pub halves_stand : 0 < m → m < length was → less (get_or whole m 0) (get_or whole (m - 1) 0) ≡ false → Arranged less was whole
    halves_stand some more e =
        let n : suc (m - 1) ≡ length a = omega (arith, first_length) in
        let p : m ≡ length a + 0 = omega (arith, first_length) in
        let x : get_or whole m 0 ≡ get_or b 0 0 = (λ i. get_or (whole_is i) (p i) 0) ∙ get_or-append-add a b 0 0 in
        let y : get_or whole (m - 1) 0 ≡ get_or a (m - 1) 0 = (λ i. get_or (whole_is i) (m - 1) 0) ∙ get_or-append a b 0 (m - 1) (omega arith) in
        subst (Arranged less was) (sym whole_is)
        (arranged_append less t was m (m - 1) a b f second n (omega (arith, second_length)) (sym (λ i. less (x i) (y i)) ∙ e))
