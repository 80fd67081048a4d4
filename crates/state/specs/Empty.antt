-- The tests of an open file (Bounds) as the code makes them: those made of every file, and the four of a file without records, which are
-- looked at only there. Assumes nothing.
use Rattle.std.specs.Prelude.{◌≡◌, refl, Bool, true, false, not, ◌&&◌, ◌||◌, List, [], ◌∷◌, ◌++◌, ℕ, eqb, take, drop}
use Rattle.std.proofs.Common.{sym, ◌∙◌, eq-eqb, ne_eqb}
use Rattle.std.proofs.Math.Path.{ap}
use Rattle.std.proofs.Math.Bool.{and-true, and-false}
use Rattle.refusals.specs.Tests.{all_of}
use Rattle.state.specs.declared.RouteSettings.{RouteSettings}
use Rattle.state.specs.declared.OpenFile.{OpenFile}
use Rattle.state.specs.Bounds.{same_release, file_tests, file_right}

-- all but the four
abbrev pub common_tests : ℕ → RouteSettings → OpenFile → List Bool
common_tests last s f = take 9 (file_tests last s f) ++ drop 13 (file_tests last s f)

-- the four, without their condition
abbrev pub empty_tests : RouteSettings → OpenFile → List Bool
empty_tests s f =
    eqb f.octets 0
    ∷ eqb f.appended f.opened
    ∷ same_release f.high s.release
    ∷ same_release f.low s.release
    ∷ []

-- four tests under a condition, between others
abbrev between : Bool → Bool → Bool → Bool → Bool → Bool → Bool → Bool
between c x a b d e y = x && (not c || a) && (not c || b) && (not c || d) && (not c || e) && y

left_out : (x y a b d e : Bool) → (x && y) ≡ between false x a b d e y
left_out true y a b d e = refl
left_out false y a b d e = refl

put_last : (x y a b d e : Bool) → (x && y && (a && b && d && e)) ≡ between true x a b d e y
put_last false y a b d e = refl
put_last true true a b d e = sym (and-true (a && b && d && e))
put_last true false a b d e = sym (and-false (a && b && d && e))

module _ (last : ℕ) (s : RouteSettings) (f : OpenFile) where
  abbrev first : Bool
  first = all_of (take 9 (file_tests last s f))

  abbrev final : Bool
  final = all_of (drop 13 (file_tests last s f))

  abbrev judged : Bool → Bool
  judged c =
      between c first (eqb f.octets 0) (eqb f.appended f.opened) (same_release f.high s.release) (same_release f.low s.release) final

  -- a file with records, and one without
  pub file_held : (f.count ≡ 0 → ⊥) → all_of (common_tests last s f) ≡ file_right last s f
  unfolding file_right
  file_held h =
      left_out first final (eqb f.octets 0) (eqb f.appended f.opened) (same_release f.high s.release) (same_release f.low s.release)
      ∙ ap judged (sym (ne_eqb f.count 0 h))

  pub file_empty : f.count ≡ 0 → (all_of (common_tests last s f) && all_of (empty_tests s f)) ≡ file_right last s f
  unfolding file_right
  file_empty h =
      put_last first final (eqb f.octets 0) (eqb f.appended f.opened) (same_release f.high s.release) (same_release f.low s.release)
      ∙ ap judged (sym (eq-eqb f.count 0 h))
