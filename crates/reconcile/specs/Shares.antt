-- How many records two files share, and how many only one of them has.
use Rattle.std.specs.Prelude.{◌≡◌, Bool, List, ◌++◌, map, ℕ, ◌-◌, ◌≤◌, take}
use Rattle.std.proofs.Math.Path.{sym}
use Rattle.std.proofs.Common.{◌∙◌, subst₂, arith, length-take, take_at}
use Rattle.std.proofs.Math.ListN.{length}
use Rattle.std.proofs.lemmas.List.{length-map}
use Rattle.recordorder.specs.At.{record_at, comes_before}
use Rattle.offsets.specs.Offsets.{offsets_of, records_from}
use Rattle.multisets.specs.Passing.{SameElements, passing_map, same_length}
use Rattle.multisets.specs.Merge.{Arranged}
use Rattle.multisets.specs.InBoth.{in_both, in_both_lem, stepwise, stepwise_same, stepwise_turn, stepwise_most}
use Rattle.sharing.specs.Counting.{same_octets, same_octets_lem}
use Rattle.reconcile.specs.declared.Shares.{Shares}

-- the records in both: for each distinct record, header and body, the smaller of its two multiplicities
abbrev pub in_both_of : List ℕ → ℕ → List ℕ → ℕ → ℕ
in_both_of f a g b = in_both same_octets (records_from f a) (records_from g b)

-- the records of two files, from a on in the first and from b on in the second
unfoldable pub shares_of : List ℕ → ℕ → List ℕ → ℕ → Shares
shares_of f a g b =
    record {
      both = in_both_of f a g b;
      first = length (records_from f a) - in_both_of f a g b;
      second = length (records_from g b) - in_both_of f a g b;
    }

same_keys : (k : ℕ → List ℕ) (xs ys : List ℕ) → SameElements xs ys → SameElements (map k xs) (map k ys)
same_keys k xs ys h = λ p. passing_map k p xs ∙ h (λ o. p (k o)) ∙ sym (passing_map k p ys)

-- what the walk over the two arranged lists counts
module _ (f : List ℕ) (a : ℕ) (g : List ℕ) (b : ℕ) (xs ys : List ℕ)
    (p : Arranged (comes_before f) (offsets_of f a) xs) (q : Arranged (comes_before g) (offsets_of g b) ys) where
  pub counted : stepwise same_octets (map (record_at f) xs) (map (record_at g) ys) ≡ in_both_of f a g b
  counted =
      stepwise_same same_octets same_octets_lem (map (record_at f) xs) (map (record_at g) ys) (records_from f a) (records_from g b)
      (same_keys (record_at f) xs (offsets_of f a) p.same) (same_keys (record_at g) ys (offsets_of g b) q.same)
      ∙ sym (in_both_lem same_octets same_octets_lem (records_from f a) (records_from g b))

  pub most_first : stepwise same_octets (map (record_at f) xs) (map (record_at g) ys) ≤ length xs
  most_first = omega (arith, stepwise_most same_octets (map (record_at f) xs) (map (record_at g) ys), length-map xs (record_at f))

  pub most_second : stepwise same_octets (map (record_at f) xs) (map (record_at g) ys) ≤ length ys
  most_second =
      omega (arith, stepwise_most same_octets (map (record_at g) ys) (map (record_at f) xs), stepwise_turn same_octets same_octets_lem (map (record_at f) xs) (map (record_at g) ys), length-map ys (record_at g))

  -- the answer, made of the count and the lengths
  pub shares : (n m c : ℕ) → n ≡ length xs → m ≡ length ys → c ≡ stepwise same_octets (map (record_at f) xs) (map (record_at g) ys)
      → record { both = c; first = n - c; second = m - c } ≡ shares_of f a g b
  unfolding shares_of
  shares n m c u v w =
      let e = w ∙ counted in
      let l : n ≡ length (records_from f a) = u ∙ same_length xs (offsets_of f a) p.same ∙ sym (length-map (offsets_of f a) (record_at f)) in
      let r : m ≡ length (records_from g b) = v ∙ same_length ys (offsets_of g b) q.same ∙ sym (length-map (offsets_of g b) (record_at g)) in
      λ i. record { both = e i; first = l i - e i; second = r i - e i }

-- the first n of a list arranged and put back
pub arranged_front : (less : ℕ → ℕ → Bool) (was list s rest : List ℕ) (n : ℕ) → n ≤ length list → take n list ≡ was → Arranged less (take n list) s
    → Arranged less was (take n (s ++ rest))
arranged_front less was list s rest n h e a =
    let l : length s ≡ n = same_length s (take n list) a.same ∙ length-take n list ∙ omega arith in
    subst₂ (Arranged less) e (sym (take_at s rest n l)) a
