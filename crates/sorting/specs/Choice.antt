-- A merge in a loop: which list gives the next element, what stands written, and how a store goes on with it.
use Rattle.std.specs.Prelude.{◌≡◌, Bool, true, false, List, ◌∷◌, ◌++◌, ℕ, suc, ◌+◌, ◌-◌, ◌≤◌, ◌<◌, take, drop, get_or, set}
use Rattle.std.proofs.Common.{sym, ◌∙◌, append-nil, length-set, take_all, take-suc-set}
use Rattle.std.proofs.Math.Path.{ap}
use native.Mathlib.Omega.{arith}
use Rattle.std.proofs.Math.ListN.{length}
use Rattle.std.proofs.Math.Seq.{append_snoc}
use Rattle.multisets.specs.Merge.{from_second, merge_in, merge_of, merge_first, merge_second}

-- the answer whether the second list gives the next element, and that the one that does has it
pub record Choice (less : ℕ → ℕ → Bool) (xs ys : List ℕ) (i j : ℕ) (r : Bool) : Type 0 where
  pub is : r ≡ from_second less (drop i xs) (drop j ys)
  pub second : r ≡ true → j < length ys
  pub first : r ≡ false → i < length xs

module _ (less : ℕ → ℕ → Bool) (xs ys : List ℕ) where
  -- i of the first and j of the second stand merged at the front of `out`
  pub record Merging (out : List ℕ) (i j : ℕ) : Type 0 where
    pub left : i ≤ length xs
    pub right : j ≤ length ys
    pub long : length out ≡ length xs + length ys
    pub rest : take (i + j) out ++ merge_in less (length out - (i + j)) (drop i xs) (drop j ys) ≡ merge_of less xs ys

  pub merging_none : (out : List ℕ) → length out ≡ length xs + length ys → Merging out 0 0
  unfolding merge_of
  merging_none out e =
      let n : length out - (0 + 0) ≡ length xs + length ys = omega arith in
      record { left = omega arith; right = omega arith; long = e; rest = ap (λ (k : ℕ). merge_in less k xs ys) n }

  -- a store at the end of what stands there
  stored : (out : List ℕ) (k v : ℕ) (more : List ℕ) → k < length out → take (suc k) (set out k v) ++ more ≡ take k out ++ (v ∷ more)
  stored out k v more h = ap (λ (l : List ℕ). l ++ more) (take-suc-set out k v h) ∙ append_snoc (take k out) v more

  module _ (out : List ℕ) (i j : ℕ) (m : Merging out i j) (some : i + j < length out) where
    pub merging_second : from_second less (drop i xs) (drop j ys) ≡ true → j < length ys → Merging (set out (i + j) (get_or ys j 0)) i (j + 1)
    merging_second e h =
        let v = get_or ys j 0 in
        let n = length out - suc (i + j) in
        let l = length-set out (i + j) v in
        let here : i + (j + 1) ≡ suc (i + j) = omega arith in
        let fewer : length (set out (i + j) v) - (i + (j + 1)) ≡ n = omega arith in
        let more : suc n ≡ length out - (i + j) = omega arith in
        record {
          left = m.left;
          right = omega arith;
          long = l ∙ m.long;
          rest =
              (λ k. take (here k) (set out (i + j) v) ++ merge_in less (fewer k) (drop i xs) (drop (j + 1) ys))
              ∙ stored out (i + j) v (merge_in less n (drop i xs) (drop (j + 1) ys)) some
              ∙ ap (λ (r : List ℕ). take (i + j) out ++ r) (sym (merge_second less xs ys i j n e) ∙ ap (λ (k : ℕ). merge_in less k (drop i xs) (drop j ys)) more)
              ∙ m.rest;
        }

    pub merging_first : from_second less (drop i xs) (drop j ys) ≡ false → i < length xs → Merging (set out (i + j) (get_or xs i 0)) (i + 1) j
    merging_first e h =
        let v = get_or xs i 0 in
        let n = length out - suc (i + j) in
        let l = length-set out (i + j) v in
        let here : i + 1 + j ≡ suc (i + j) = omega arith in
        let fewer : length (set out (i + j) v) - (i + 1 + j) ≡ n = omega arith in
        let more : suc n ≡ length out - (i + j) = omega arith in
        record {
          left = omega arith;
          right = m.right;
          long = l ∙ m.long;
          rest =
              (λ k. take (here k) (set out (i + j) v) ++ merge_in less (fewer k) (drop (i + 1) xs) (drop j ys))
              ∙ stored out (i + j) v (merge_in less n (drop (i + 1) xs) (drop j ys)) some
              ∙ ap (λ (r : List ℕ). take (i + j) out ++ r) (sym (merge_first less xs ys i j n e) ∙ ap (λ (k : ℕ). merge_in less k (drop i xs) (drop j ys)) more)
              ∙ m.rest;
        }

  pub merging_end : (out : List ℕ) (i j : ℕ) → Merging out i j → length out ≤ i + j → out ≡ merge_of less xs ys
  merging_end out i j m h =
      let z : length out - (i + j) ≡ 0 = omega arith in
      sym (append-nil out)
      ∙ (λ k. sym (take_all (i + j) out h) k ++ merge_in less (sym z k) (drop i xs) (drop j ys))
      ∙ m.rest
