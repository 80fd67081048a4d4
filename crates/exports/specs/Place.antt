-- Where a part stands in a file, for callers that cannot be handed a part of a slice. A body: behind the record header at the
-- offset, as long as the part that `body_at` hands back; zeros where the step refuses. Any part: where it was asked for, as long
-- as the part that `part_of` hands back; zeros where that is empty, so that a forged place comes back as none. Assumes nothing.
use Rattle.std.specs.Prelude.{◌≡◌, ℕ, ◌+◌, eqb}
use Rattle.std.proofs.Math.Path.{sym, ap}
use Rattle.std.proofs.Common.{◌∙◌, eq-eqb, ne_eqb}
use Rattle.std.proofs.Math.Bool.{cond}
use mathlib.Core.List.{List}
use Rattle.std.proofs.Math.ListN.{length}
use Rattle.record.specs.declared.Stepped.{Stepped}
use Rattle.record.specs.Step.{step_at, body_at}
use Rattle.reader.specs.declared.Part.{Part}
use Rattle.reader.specs.Reader.{part_of}

abbrev start_after : Stepped → ℕ → ℕ
start_after s at = cond (eqb s.refusal 0) (at + s.header) 0

unfoldable pub body_place : List ℕ → ℕ → Part
body_place file at = record { start = start_after (step_at file at) at; octets = length (body_at file at) }

module _ (file : List ℕ) (at : ℕ) {s : Stepped} (es : s ≡ step_at file at) {body : List ℕ} (eb : body ≡ body_at file at) where
  pub place_found : s.refusal ≡ 0 → record { start = at + s.header; octets = length body } ≡ body_place file at
  unfolding body_place
  place_found e =
      let start = sym (λ i. cond (eq-eqb _ _ e i) (at + s.header) 0) ∙ ap (λ (t : Stepped). start_after t at) es in
      λ i. record { start = start i; octets = length (eb i) }

  pub place_none : (s.refusal ≡ 0 → ⊥) → record { start = 0; octets = length body } ≡ body_place file at
  unfolding body_place
  place_none e =
      let start = sym (λ i. cond (ne_eqb _ _ e i) (at + s.header) 0) ∙ ap (λ (t : Stepped). start_after t at) es in
      λ i. record { start = start i; octets = length (eb i) }

abbrev start_of : ℕ → ℕ → ℕ
start_of octets start = cond (eqb octets 0) 0 start

unfoldable pub part_place : List ℕ → Part → Part
part_place file p = record { start = start_of (length (part_of file p)) p.start; octets = length (part_of file p) }

module _ (file : List ℕ) (p : Part) {part : List ℕ} (e : part ≡ part_of file p) where
  pub part_none : length part ≡ 0 → record { start = 0; octets = 0 } ≡ part_place file p
  unfolding part_place
  part_none z =
      let octets : 0 ≡ length (part_of file p) = sym z ∙ ap length e in
      let start = sym (λ i. cond (eq-eqb _ _ z i) 0 p.start) ∙ ap (λ (xs : List ℕ). start_of (length xs) p.start) e in
      λ i. record { start = start i; octets = octets i }

  pub part_found : (length part ≡ 0 → ⊥) → record { start = p.start; octets = length part } ≡ part_place file p
  unfolding part_place
  part_found n =
      let start = sym (λ i. cond (ne_eqb _ _ n i) 0 p.start) ∙ ap (λ (xs : List ℕ). start_of (length xs) p.start) e in
      λ i. record { start = start i; octets = length (e i) }
