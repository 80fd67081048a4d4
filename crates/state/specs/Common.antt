-- The refusals that every event tests first, in their order (document 01, Refusals): 18, the state is outside its bounds; 16, the store is shorter
-- than all regions; 4, the time is out of range. Assumes nothing.
use Rattle.std.specs.Prelude.{◌≡◌, refl, Bool, true, false, cond, not, List, [], ◌∷◌, ℕ, ◌≤◌, ◌<◌, ltb}
use Rattle.std.proofs.Common.{sym, ap, ◌∙◌, arith, lt-ltb, le-ltb}
use Rattle.refusals.specs.Refusal.{Rule, ◌when◌, first}
use Rattle.state.specs.Manager.{Manager}
use Rattle.state.specs.Manager.{regions}
use Rattle.state.specs.Bounds.{state_right}

-- of the state and the store, whose length `store` is
abbrev pub judged : Manager → ℕ → List Rule → List Rule
judged m store rules = (18 when not (state_right m)) ∷ (16 when ltb store (regions m)) ∷ rules

-- before an event's own rules
abbrev pub common : Manager → ℕ → ℕ → List Rule → List Rule
common m store time rules = judged m store ((4 when ltb 52595999 time) ∷ rules)

-- 18 and 16 are judged first, and then 4.
module _ (m : Manager) (store time : ℕ) where
  two_refused : (a b l : Bool) {n : ℕ} → n ≡ first ((18 when a) ∷ (16 when b) ∷ []) → (n ≡ 0 → ⊥) → n ≡ first ((18 when a) ∷ (16 when b) ∷ (4 when l) ∷ [])
  two_refused true b l e some = e
  two_refused false true l e some = e
  two_refused false false l e some = absurd (some e)

  two_passed : (a b l : Bool) → first ((18 when a) ∷ (16 when b) ∷ []) ≡ 0 → cond l 4 0 ≡ first ((18 when a) ∷ (16 when b) ∷ (4 when l) ∷ [])
  two_passed true b l e = absurd (omega arith)
  two_passed false true l e = absurd (omega arith)
  two_passed false false l e = refl

  pub judged_common : {n : ℕ} → n ≡ first (judged m store []) → (n ≡ 0 → ⊥) → n ≡ first (common m store time [])
  judged_common e some = two_refused (not (state_right m)) (ltb store (regions m)) (ltb 52595999 time) e some

  pub passed_common : first (judged m store []) ≡ 0 → cond (ltb 52595999 time) 4 0 ≡ first (common m store time [])
  passed_common e = two_passed (not (state_right m)) (ltb store (regions m)) (ltb 52595999 time) e

  pub late_common : first (judged m store []) ≡ 0 → 52595999 < time → 4 ≡ first (common m store time [])
  late_common e h = sym (ap (λ (b : Bool). cond {A = ℕ} b 4 0) (lt-ltb 52595999 time h)) ∙ passed_common e

  pub early_common : first (judged m store []) ≡ 0 → time ≤ 52595999 → first (common m store time []) ≡ 0
  early_common e h = sym (passed_common e) ∙ ap (λ (b : Bool). cond {A = ℕ} b 4 0) (le-ltb 52595999 time h)
