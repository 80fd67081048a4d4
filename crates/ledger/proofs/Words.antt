-- The ledger states refusals 5 and 7 in words of its own (Ledger.antt): over every arrival, key and reason they say what the
-- manager's rules say. Assumes nothing.
use Rattle.std.specs.Prelude.{◌≡◌, refl, Bool, true, false, not, ◌&&◌, ◌||◌, [], ◌∷◌, ℕ, zero, suc, ◌≤◌, ltb, leb, eqb}
use Rattle.std.proofs.Common.{sym, ap, ◌∙◌, arith, leb-true, leb-false, lt-ltb, le-ltb, eq-eqb, ne_eqb}
use Rattle.std.proofs.Math.Decide.{ℕ_discrete}
use Rattle.std.proofs.lemmas.Bool.{lt-leb}
use Rattle.events.specs.declared.Arrival.{Arrival}
use Rattle.events.specs.Rules.{allowed, wrong_fields}
use Rattle.ledger.specs.Ledger.{closing_reasons, is_one_of, fields_fit, fits_mark}

-- above a bound is not within it
above : (n most : ℕ) → ltb most n ≡ not (leb n most)
above n most = go (leb n most) refl
  where
    go : (b : Bool) → leb n most ≡ b → ltb most n ≡ not (leb n most)
    go true e = le-ltb most n (leb-true n most e) ∙ sym (ap not e)
    go false e = lt-ltb most n (leb-false n most e) ∙ sym (ap not e)

-- among releases up to 7, one below 7 is another than 7
below_seven : (n : ℕ) → n ≤ 7 → ltb n 7 ≡ not (eqb n 7)
below_seven n h = go (ℕ_discrete n 7)
  where
    go : Dec (n ≡ 7) → ltb n 7 ≡ not (eqb n 7)
    go (yes p) = le-ltb n 7 (omega arith) ∙ sym (ap not (eq-eqb n 7 p))
    go (no p) = lt-ltb n 7 (omega arith) ∙ sym (ap not (ne_eqb n 7 p))

-- one of some tests fails exactly where not all hold
turned : (k r f v t e x : Bool)
    → (not k || (not r || not f || not v || not t || (not e && not x))) ≡ not (k && (r && f && v && t && (e || x)))
turned false r f v t e x = refl
turned true false f v t e x = refl
turned true true false v t e x = refl
turned true true true false t e x = refl
turned true true true true false e x = refl
turned true true true true true true x = refl
turned true true true true true false x = refl

either_way : (b k : Bool) → (b || true) ≡ not (k && false)
either_way true true = refl
either_way true false = refl
either_way false true = refl
either_way false false = refl

or_false : (b : Bool) → (b || false) ≡ b
or_false true = refl
or_false false = refl

module _ (a : Arrival) (key : ℕ) where
  abbrev beyond : Bool
  beyond = ltb 7 a.release || ltb 7 a.format || ltb 31 a.version || ltb 31 a.ts || (ltb a.release 7 && not (eqb a.extension 0))

  -- a usable record
  usable : (b : Bool) → leb a.release 7 ≡ b → (ltb 20 key || beyond) ≡ not (leb key 20 && fields_fit a)
  usable true e =
      (λ i. above key 20 i || (above a.release 7 i || above a.format 7 i || above a.version 31 i || above a.ts 31 i || (below_seven a.release (leb-true a.release 7 e) i && not (eqb a.extension 0))))
      ∙ turned (leb key 20) (leb a.release 7) (leb a.format 7) (leb a.version 31) (leb a.ts 31) (eqb a.release 7) (eqb a.extension 0)
  usable false e = rw (above a.release 7, e) (either_way (ltb 20 key) (leb key 20))

  by_mark : (m : ℕ) → a.mark ≡ m → wrong_fields a key ≡ not (fits_mark m a key)
  by_mark zero e = (λ i. ltb 2 (e i) || (ltb (e i) 2 && ltb 20 key) || (eqb (e i) 0 && beyond)) ∙ usable (leb a.release 7) refl
  by_mark (suc zero) e = (λ i. ltb 2 (e i) || (ltb (e i) 2 && ltb 20 key) || (eqb (e i) 0 && beyond)) ∙ or_false (ltb 20 key) ∙ above key 20
  by_mark (suc (suc zero)) e = λ i. ltb 2 (e i) || (ltb (e i) 2 && ltb 20 key) || (eqb (e i) 0 && beyond)
  by_mark (suc (suc (suc n))) e =
      (λ i. ltb 2 (e i) || (ltb (e i) 2 && ltb 20 key) || (eqb (e i) 0 && beyond))
      ∙ (λ i. lt-ltb 2 (suc (suc (suc n))) (omega arith) i || (ltb (suc (suc (suc n))) 2 && ltb 20 key) || (eqb (suc (suc (suc n))) 0 && beyond))

  -- refusal 5
  pub fields_same : wrong_fields a key ≡ not (fits_mark a.mark a key)
  fields_same = by_mark a.mark refl

-- the reasons of an abnormal end
abbrev is_abnormal : ℕ → Bool
is_abnormal n = is_one_of n (128 ∷ 129 ∷ 130 ∷ 131 ∷ [])

outside : (n : ℕ) → (n ≡ 128 → ⊥) → (n ≡ 129 → ⊥) → (n ≡ 130 → ⊥) → (n ≡ 131 → ⊥) → (b : Bool) → leb 128 n ≡ b → (leb 128 n && leb n 131) ≡ false
outside n p q r s true e = let low = leb-true 128 n e in (λ i. e i && lt-leb n 131 (omega arith) i)
outside n p q r s false e = λ i. e i && leb n 131

abnormal : (n : ℕ) → (leb 128 n && leb n 131) ≡ is_abnormal n
abnormal n = go (ℕ_discrete n 128) (ℕ_discrete n 129) (ℕ_discrete n 130) (ℕ_discrete n 131)
  where
    is : (k : ℕ) → n ≡ k → (leb 128 k && leb k 131) ≡ is_abnormal k → (leb 128 n && leb n 131) ≡ is_abnormal n
    is k p e = ap (λ (j : ℕ). leb 128 j && leb j 131) p ∙ e ∙ sym (ap is_abnormal p)

    go : Dec (n ≡ 128) → Dec (n ≡ 129) → Dec (n ≡ 130) → Dec (n ≡ 131) → (leb 128 n && leb n 131) ≡ is_abnormal n
    go (yes p) b c d = is 128 p refl
    go (no p) (yes q) c d = is 129 q refl
    go (no p) (no q) (yes r) d = is 130 r refl
    go (no p) (no q) (no r) (yes s) = is 131 s refl
    go (no p) (no q) (no r) (no s) =
        outside n p q r s (leb 128 n) refl
        ∙ sym (λ i. ne_eqb n 128 p i || (ne_eqb n 129 q i || (ne_eqb n 130 r i || (ne_eqb n 131 s i || false))))

or_assoc : (a b c : Bool) → (a || b || c) ≡ (a || (b || c))
or_assoc true b c = refl
or_assoc false b c = refl

-- refusal 7
pub reason_same : (reason : ℕ) → allowed reason ≡ is_one_of reason closing_reasons
reason_same n = (λ i. eqb n 0 || eqb n 4 || abnormal n i) ∙ or_assoc (eqb n 0) (eqb n 4) (is_abnormal n)
