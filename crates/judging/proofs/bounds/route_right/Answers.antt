-- `judging::bounds::route_right` meets its contract: of a closed route only the settings are judged, of an open one the file too.
-- Assumes nothing.
use mathlib.Core.Path.{◌≡◌, sym, ap, ◌∙◌}
use mathlib.Core.Bool.{Bool, true, false, not, ◌&&◌, ◌||◌, and-true}
use lib.ListN.{get_or}
use Rattle.state.specs.Bounds.{settings_right, file_right}
use Rattle.words.specs.Words.{flag_of, settings_in, file_in, route_in}
use Rattle.judging.proofs.bounds.route_right.Goals as goal

pub returns-then-not-open : goal.returns-then-not-open
unfolding route_in
returns-then-not-open c =
    let a = c.args in
    let xs = a.part.now in
    let right = settings_right (settings_in xs) in
    let closed : flag_of (get_or xs 13 0) ≡ false = sym c.flag_of-open.ensures ∙ c.if-not-open.true in
    c.settings_right-right.ensures
    ∙ sym (and-true right)
    ∙ ap (λ (b : Bool). right && (not b || file_right a.last (settings_in xs) (file_in xs))) (sym closed)

pub returns : goal.returns
unfolding route_in
returns c =
    let a = c.args in
    let xs = a.part.now in
    let is_open : true ≡ flag_of (get_or xs 13 0) = sym c.if-not-open.false ∙ c.flag_of-open.ensures in
    let file = c.file_right-file.ensures ∙ (λ i. file_right a.last (c.settings_in-s.ensures i) (c.file_in-f.ensures.0 i)) in
    (λ i. c.settings_right-right.ensures i && (not (is_open i) || file i))
