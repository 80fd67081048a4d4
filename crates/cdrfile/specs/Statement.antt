-- What a header states of its private extension (document 02, ask 5; 000, 6.1.1.14 and 6.1.1.15): 0 there is none, 1 there is an empty one, whose
-- length is written as 0, 2 there is one with octets. Octets that contradict the statement are no file's. Assumes nothing.
use Rattle.std.specs.Prelude.{◌≡◌, refl, Bool, true, false, cond, List, ℕ, eqb, ltb, length}
use Rattle.std.proofs.Common.{sym, arith, ltb-true, eqb-true}

-- whether the octets bear the statement out: 0 and 1 are said of no octets, 2 of some, and no other number says anything
abbrev pub agrees : ℕ → List ℕ → Bool
agrees statement private = cond (eqb (length private) 0) (ltb statement 2) (eqb statement 2)

-- What a statement that is borne out says.
module _ (statement : ℕ) (private : List ℕ) where
  abbrev By : Bool → Type 0
  By b = (eqb (length private) 0 ≡ b) × (cond b (ltb statement 2) (eqb statement 2) ≡ true)

  -- no extension has no octets
  none_by : (b : Bool) → By b → statement ≡ 0 → length private ≡ 0
  none_by true h e = eqb-true (length private) 0 h.0
  none_by false h e = let z = eqb-true statement 2 h.1 in absurd (omega arith)

  -- an extension is 1 where it has none and 2 where it has some
  there_by : (b : Bool) → By b → (statement ≡ 0 → ⊥) → cond b 1 2 ≡ statement
  there_by true h e = let z = ltb-true statement 2 h.1 in omega arith
  there_by false h e = sym (eqb-true statement 2 h.1)

  module _ (h : agrees statement private ≡ true) where
    pub stated_none : statement ≡ 0 → length private ≡ 0
    stated_none = none_by (eqb (length private) 0) (refl, h)

    pub stated_there : (statement ≡ 0 → ⊥) → cond (eqb (length private) 0) 1 2 ≡ statement
    stated_there = there_by (eqb (length private) 0) (refl, h)
