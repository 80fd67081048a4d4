-- Laws of the loss counts (Counts): what is written is such an extension and is read again, and what is read of one is written as its
-- octets, so that two different pairs of counts never share an extension. Assumes nothing.
use Rattle.std.specs.Prelude.{◌≡◌, refl, Bool, true, false, cond, List, [], ◌∷◌, ◌++◌, ℕ, ◌<◌, ◌^◌, eqb, length, get_or, drop, replicate}
use Rattle.std.proofs.Common.{sym, ap, ◌∙◌, append-nil, arith, mod-eq_of_lt, lit<, drop_of_length-le, drop-cons, eqb-true}
use Rattle.std.proofs.lemmas.Bool.{false≢true}
use Rattle.refusals.specs.Tests.{both}
use Rattle.octets.specs.Splice.{splice}
use Rattle.octets.specs.Number.{Octets, be, num, num_be, be_num, octets_cons, octets_append, octets_be}
use Rattle.counts.specs.Counts.{count_octets, is_counts, numbers_in, no_counts, counts_in}

pub counts_octets : (losses unrouted : ℕ) → Octets (count_octets losses unrouted)
counts_octets losses unrouted = octets_cons (lit< tt) (octets_append (be 4 losses) (octets_be 4 losses) (octets_be 4 unrouted))

pub counts_there : (losses unrouted : ℕ) → (counts_in (count_octets losses unrouted)).there ≡ true
unfolding counts_in
counts_there losses unrouted = refl

-- two copies over nine octets of the kind leave them
pub counts_laid : (losses unrouted : ℕ) {known other l₁ l₂ : List ℕ} → known ≡ be 4 losses → other ≡ be 4 unrouted
    → l₁ ≡ splice (replicate 9 1) 1 known → l₂ ≡ splice l₁ 5 other → l₂ ≡ count_octets losses unrouted
unfolding splice
counts_laid losses unrouted ek eo e₁ e₂ = e₂ ∙ (λ i. splice (e₁ i) 5 (eo i)) ∙ (λ i. splice (splice (replicate 9 1) 1 (ek i)) 5 (be 4 unrouted))

-- read again, where both fit four octets
pub counts_back : (losses unrouted : ℕ) → losses < 2 ^ 32 → unrouted < 2 ^ 32
    → counts_in (count_octets losses unrouted) ≡ record { there = true; losses = losses; unrouted = unrouted }
unfolding counts_in
counts_back losses unrouted h k =
    let first : num 4 (count_octets losses unrouted) 1 ≡ losses = num_be 4 losses (1 ∷ []) (be 4 unrouted) ∙ mod-eq_of_lt h in
    let second : num 4 (count_octets losses unrouted) 5 ≡ unrouted =
    ap (λ (l : List ℕ). num 4 (1 ∷ (be 4 losses ++ l)) 5) (sym (append-nil (be 4 unrouted))) ∙ num_be 4 unrouted (1 ∷ be 4 losses) [] ∙ mod-eq_of_lt k in
    λ i. record { there = true; losses = first i; unrouted = second i }

-- written again
pub counts_again : (xs : List ℕ) → Octets xs → (counts_in xs).there ≡ true → count_octets (counts_in xs).losses (counts_in xs).unrouted ≡ xs
unfolding counts_in
counts_again xs o e = go (is_counts xs) refl e
  where
    go : (b : Bool) → is_counts xs ≡ b → (cond b (numbers_in xs) no_counts).there ≡ true
        → count_octets (cond b (numbers_in xs) no_counts).losses (cond b (numbers_in xs) no_counts).unrouted ≡ xs
    go false p q = absurd (false≢true q)
    go true p q =
        let t = both (eqb (length xs) 9) (eqb (get_or xs 0 0) 1) p in
        let nine = eqb-true (length xs) 9 t.0 in
        let kind = eqb-true (get_or xs 0 0) 1 t.1 in
        let end : be 4 (num 4 xs 5) ≡ drop 5 xs =
        sym (append-nil (be 4 (num 4 xs 5))) ∙ ap (λ (l : List ℕ). be 4 (num 4 xs 5) ++ l) (sym (drop_of_length-le xs {i = 9} (omega arith))) ∙ be_num o 4 5 (omega arith) in
        ap (λ (l : List ℕ). 1 ∷ (be 4 (num 4 xs 1) ++ l)) end
        ∙ ap (λ (l : List ℕ). 1 ∷ l) (be_num o 4 1 (omega arith))
        ∙ ap (λ (n : ℕ). n ∷ drop 1 xs) (sym kind)
        ∙ sym (drop-cons xs 0 0 (omega arith))
