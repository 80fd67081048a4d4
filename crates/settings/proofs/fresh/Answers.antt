-- `settings::fresh` meets its contract: each way out is a case of the definition. That the shape is right gives the number of
-- routes, which the functions called ask for; the words that they judge stand for the manager that the definition judges; and the set
-- times are put into them last.
-- Assumes nothing.
use borrow.Author.Rules.{rules}
use mathlib.Core.Path.{◌≡◌, refl, sym, ap, ◌∙◌}
use mathlib.Core.Bool.{Bool, true, false, cond}
use mathlib.Core.List.{List}
use Prim.Native.Nat.{ℕ, ◌+◌, ◌*◌, ◌-◌, ◌/◌, ◌≤◌, ◌<◌}
use native.Mathlib.Omega.{arith}
use lib.ListN.{length}
use Rattle.octets.specs.Number.{Octets}
use Rattle.state.specs.Bounds.{distinct}
use Rattle.words.specs.Words.{manager_in, words_of}
use Rattle.refusals.specs.Number.{number, number_positive}
use Rattle.settings.specs.Settings.{wrong_shape, beyond_range, routes_in, sets_in, route_start, wrong_sets, manager_with, manager_from, worded}
use Rattle.settings.specs.Cases.{refused_fresh, loaded_from, shaped}
use Rattle.settings.proofs.Verdict.{fresh_shape, fresh_range, fresh_equal, fresh_unset, fresh_taken}
use Rattle.settings.specs.Held.{out_of_range, words_range, words_distinct}
use Rattle.settings.proofs.fresh.Goals as goal
use Rattle.settings.proofs.fresh.Goals.{Else-has_wrong_shape}

-- the settings' octets, of the right shape
shape_right : (c : goal.Else-has_wrong_shape) → wrong_shape c.args.octets.now ≡ false
shape_right c = sym c.has_wrong_shape.ensures ∙ c.if-has_wrong_shape.false

low : (c : goal.Else-has_wrong_shape) → Octets c.args.octets.now
low c = record { at = λ i. omega (arith, c.type_inv.octets i) }

module _ (xs : List ℕ) (n : ℕ) (routes : n ≡ routes_in xs) where
  -- the set times, of as many as there are
  sets_are : (length xs - (19 + 41 * n)) / 4 ≡ sets_in xs
  sets_are = ap (λ (k : ℕ). (length xs - (19 + 41 * k)) / 4) routes

  module _ (right : wrong_shape xs ≡ false) where
    -- where the routes end
    ends : route_start n ≤ length xs
    ends = omega (arith, routes, (shaped xs right).whole)

    -- what the words' tests tell of them, which are without set times
    module _ (o : Octets xs) (ws : List ℕ) (from : ws ≡ words_of (manager_with xs n 0)) where
      words_are : ws ≡ words_of (manager_with xs (routes_in xs) 0)
      words_are = from ∙ ap (λ (k : ℕ). words_of (manager_with xs k 0)) routes

      range_is : out_of_range (manager_in ws) n ≡ beyond_range xs
      range_is = ap (out_of_range (manager_in ws)) routes ∙ words_range xs o (shaped xs right).most words_are

      filters_are : distinct (manager_in ws) n ≡ distinct (manager_from xs (routes_in xs)) (routes_in xs)
      filters_are = ap (distinct (manager_in ws)) routes ∙ words_distinct xs o (shaped xs right).most words_are

pub returns-then-has_wrong_shape : goal.returns-then-has_wrong_shape
returns-then-has_wrong_shape c =
    ap worded (sym (fresh_shape c.args.octets.now (sym c.has_wrong_shape.ensures ∙ c.if-has_wrong_shape.true)))

pub fresh_words-words-requires : goal.fresh_words-words-requires
fresh_words-words-requires c =
    (ends c.args.octets.now c.routes_in-routes.result c.routes_in-routes.ensures.0 (shape_right (goal.at.fresh_words-words-requires c).Else-has_wrong_shape))

pub returns-then-beyond_range : goal.returns-then-beyond_range
returns-then-beyond_range c =
    let s = (goal.at.returns-then-beyond_range c).Else-has_wrong_shape in
    let xs = c.args.octets.now in
    let range = range_is xs c.routes_in-routes.result c.routes_in-routes.ensures.0 (shape_right s) (low s) c.fresh_words-words.result c.fresh_words-words.ensures in
    ap worded (sym (fresh_range xs (shape_right s) (sym range ∙ sym c.beyond_range.ensures ∙ c.if-beyond_range.true)))

pub returns-then-not-are_distinct : goal.returns-then-not-are_distinct
returns-then-not-are_distinct c =
    let s = (goal.at.returns-then-not-are_distinct c).Else-has_wrong_shape in
    let xs = c.args.octets.now in
    let n = c.routes_in-routes in
    let words = c.fresh_words-words in
    let range = range_is xs n.result n.ensures.0 (shape_right s) (low s) words.result words.ensures in
    let filters = filters_are xs n.result n.ensures.0 (shape_right s) (low s) words.result words.ensures in
    ap worded (sym (fresh_equal xs (shape_right s) (sym range ∙ sym c.beyond_range.ensures ∙ c.if-beyond_range.false) (c.are_distinct.ensures ∙ filters) c.if-not-are_distinct.true))

pub put_sets-requires : goal.put_sets-requires
put_sets-requires c =
    record {
      routes = c.routes_in-routes.ensures.0;
      few = c.routes_in-routes.ensures.1;
      whole = (shaped c.args.octets.now (shape_right (goal.at.put_sets-requires c).Else-has_wrong_shape)).whole;
      is = c.fresh_words-words.ensures;
    }

-- what the set times' test says of refusal 22
number_cond : (b : Bool) (n : ℕ) → 0 < n → n ≡ cond b 22 0 → (b ≡ true) × (n ≡ 22)
number_cond true n some e = (refl, e)
number_cond false n some e = absurd (omega arith)

zero_cond : (b : Bool) → ◌≡◌ {A = ℕ} 0 (cond b 22 0) → b ≡ false
zero_cond true e = absurd (omega arith)
zero_cond false e = refl

pub returns-in_err-put_sets : goal.returns-in_err-put_sets
returns-in_err-put_sets c =
    let s = (goal.at.returns-in_err-put_sets c).Else-has_wrong_shape in
    let xs = c.args.octets.now in
    let n = c.routes_in-routes in
    let words = c.fresh_words-words in
    let range = range_is xs n.result n.ensures.0 (shape_right s) (low s) words.result words.ensures in
    let filters = filters_are xs n.result n.ensures.0 (shape_right s) (low s) words.result words.ensures in
    let r = c.in_err-put_sets.field-0.0 in
    let wrong = number_cond (wrong_sets xs) (number r) (number_positive r) c.in_err-put_sets.ensures.told in
    let is : loaded_from c.from_residual.result ≡ worded (refused_fresh (number r)) = search rules in
    is
    ∙ ap (λ (k : ℕ). worded (refused_fresh k)) wrong.1
    ∙ ap worded (sym (fresh_unset xs (shape_right s) (sym range ∙ sym c.beyond_range.ensures ∙ c.if-beyond_range.false) (c.are_distinct.ensures ∙ filters) c.if-not-are_distinct.false wrong.0))

pub returns : goal.returns
returns c =
    let s = (goal.at.returns c).Else-has_wrong_shape in
    let xs = c.args.octets.now in
    let n = c.routes_in-routes in
    let words = c.fresh_words-words in
    let range = range_is xs n.result n.ensures.0 (shape_right s) (low s) words.result words.ensures in
    let filters = filters_are xs n.result n.ensures.0 (shape_right s) (low s) words.result words.ensures in
    let right = zero_cond (wrong_sets xs) c.in_ok-put_sets.ensures.told in
    (λ i. record { refusal = 0; words = (c.in_ok-put_sets.ensures.put.is refl ∙ ap (λ (k : ℕ). words_of (manager_from xs k)) n.ensures.0) i })
    ∙ ap worded (sym (fresh_taken xs (shape_right s) (sym range ∙ sym c.beyond_range.ensures ∙ c.if-beyond_range.false) (c.are_distinct.ensures ∙ filters) c.if-not-are_distinct.false right))
