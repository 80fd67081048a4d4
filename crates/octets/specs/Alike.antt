-- Octets compared one by one (document 01, Routing and loss: a filter that is a prefix of the key, two filters that are equal).
-- Octets that are alike over the whole of two lists of one length are the same list. Assumes nothing.
use Rattle.std.specs.Prelude.{◌≡◌, refl, Bool, true, false, List, ◌∷◌, ℕ, zero, suc, ◌+◌, ◌≤◌, ◌<◌, eqb, length, get_or, take}
use Rattle.std.proofs.Common.{sym, ap, ◌∙◌, arith, eq-eqb, eqb-true, length-take, get_or-take}
use Rattle.std.proofs.lemmas.Bool.{false≢true}
use Rattle.std.specs.Bool.{Decides}
use Rattle.refusals.specs.Below.{all_below, below_each, below_all}
use Rattle.octets.specs.Number.{octets_at, octets_all}

abbrev pub same_at : List ℕ → List ℕ → ℕ → Bool
same_at xs ys k = eqb (get_or xs k 0) (get_or ys k 0)

-- the first n octets are the same
abbrev pub alike : List ℕ → List ℕ → ℕ → Bool
alike xs ys n = all_below (same_at xs ys) n

alike_each : (xs ys : List ℕ) (n i : ℕ) → alike xs ys n ≡ true → i < n → get_or xs i 0 ≡ get_or ys i 0
alike_each xs ys n i e l = eqb-true (get_or xs i 0) (get_or ys i 0) (below_each (same_at xs ys) n e i l)

octets_agree : (w k : ℕ) (xs ys : List ℕ) → ((i : ℕ) → i < k + w → get_or xs i 0 ≡ get_or ys i 0) → octets_at w xs k ≡ octets_at w ys k
octets_agree zero k xs ys h = refl
octets_agree (suc w) k xs ys h =
    let first = h k (omega arith) in
    let rest = octets_agree w (k + 1) xs ys (λ i l. h i (omega arith)) in
    λ i. first i ∷ rest i

pub alike_is : (xs ys : List ℕ) → length xs ≡ length ys → alike xs ys (length xs) ≡ true → xs ≡ ys
alike_is xs ys l e =
    sym (octets_all (length xs) xs refl)
    ∙ octets_agree (length xs) 0 xs ys (λ i h. alike_each xs ys (length xs) i e (omega arith))
    ∙ octets_all (length xs) ys (sym l)

pub alike_self : (xs : List ℕ) (n : ℕ) → alike xs xs n ≡ true
alike_self xs n = below_all (same_at xs xs) n (λ i h. eq-eqb (get_or xs i 0) (get_or xs i 0) refl)

-- where the first n of each are the same list, and only there
pub alike_taken : (xs ys : List ℕ) (n : ℕ) → take n xs ≡ take n ys → alike xs ys n ≡ true
alike_taken xs ys n e =
    below_all (same_at xs ys) n (λ i l. eq-eqb (get_or xs i 0) (get_or ys i 0)
    (sym (get_or-take n xs i 0 l) ∙ ap (λ (zs : List ℕ). get_or zs i 0) e ∙ get_or-take n ys i 0 l))

pub taken_alike : (xs ys : List ℕ) (n : ℕ) → n ≤ length xs → n ≤ length ys → alike xs ys n ≡ true → take n xs ≡ take n ys
taken_alike xs ys n h k e =
    let m : length (take n xs) ≡ n = simp length-take (omega arith) in
    let l : length (take n ys) ≡ n = simp length-take (omega arith) in
    let each : (i : ℕ) → i < length (take n xs) → same_at (take n xs) (take n ys) i ≡ true = λ i b.
    let c : i < n = omega (arith, b, m) in
    eq-eqb _ _ (get_or-take n xs i 0 c ∙ alike_each xs ys n i e c ∙ sym (get_or-take n ys i 0 c)) in
    alike_is (take n xs) (take n ys) (m ∙ sym l) (below_all (same_at (take n xs) (take n ys)) (length (take n xs)) each)

-- what tells whether the first n of each are the same list tells whether they are alike
pub alike_told : (r : Bool) (xs ys : List ℕ) (n : ℕ) → n ≤ length xs → n ≤ length ys → Decides r (take n xs ≡ take n ys) → r ≡ alike xs ys n
alike_told true xs ys n h k d = sym (alike_taken xs ys n (d.0 refl))
alike_told false xs ys n h k d = go (alike xs ys n) refl
  where
    go : (b : Bool) → alike xs ys n ≡ b → false ≡ alike xs ys n
    go true e = absurd (false≢true (d.1 (taken_alike xs ys n h k e)))
    go false e = sym e
