-- Words laid on a page: what stands on it from a place on, and where they end. Assumes nothing.
use Rattle.std.specs.Prelude.{◌≡◌, List, [], ◌++◌, ℕ, ◌+◌, ◌≤◌, length}
use Rattle.std.proofs.Common.{sym, ap, ◌∙◌, subst, arith, length-append}
use Rattle.octets.specs.Splice.{splice, splice_nil, splice_then}

pub record Laid (page : List ℕ) (at : ℕ) (words after : List ℕ) (end : ℕ) : Type 0 where
  pub octets : after ≡ splice page at words
  pub ends : end ≡ at + length words
  pub within : end ≤ length after

-- no words
pub laid_none : {page : List ℕ} {at : ℕ} → at ≤ length page → Laid page at [] page at
laid_none {page} {at} h = record { octets = sym (splice_nil page at); ends = omega arith; within = h }

-- words behind others
pub laid_then : {page : List ℕ} {at : ℕ} {a b one two : List ℕ} {m n : ℕ} → at ≤ length page → Laid page at a one m → Laid one m b two n → Laid page at (a ++ b) two n
laid_then {page} {at} {a} {b} {one} {two} {m} {n} h v w =
    record {
      octets = w.octets ∙ ap (λ (l : List ℕ). splice l m b) v.octets ∙ splice_then page at a h b m v.ends;
      within = w.within;
      ends = w.ends ∙ ap (λ (k : ℕ). k + length b) v.ends ∙ omega (arith, length-append a b);
    }

-- the words of a number that is known
pub laid_of : {page after : List ℕ} {at end n k : ℕ} (words : ℕ → List ℕ) → n ≡ k → Laid page at (words k) after end → Laid page at (words n) after end
laid_of {page} {after} {at} {end} words e v = subst (λ (w : List ℕ). Laid page at w after end) (sym (ap words e)) v

-- the same words
pub laid_as : {page after : List ℕ} {at end : ℕ} {a b : List ℕ} → a ≡ b → Laid page at b after end → Laid page at a after end
laid_as {page} {after} {at} {end} e v = subst (λ (w : List ℕ). Laid page at w after end) (sym e) v
