-- `settings::Settings::has_wrong_shape` meets its contract: each way out is a condition of the definition, and the ones before it do not hold.
-- Assumes nothing.
use borrow.Author.Rules.{rules}
use mathlib.Core.Path.{◌≡◌, sym, ap, ◌∙◌}
use mathlib.Core.Bool.{not, ◌||◌}
use mathlib.Core.List.{List}
use Prim.Native.Nat.{ℕ, ◌+◌, ◌*◌, ◌-◌, ◌/◌}
use native.Mathlib.Omega.{arith}
use lib.Dec.{eqb}
use lib.ListN.{length, get_or}
use Rattle.refusals.specs.Below.{all_below}
use Rattle.settings.specs.Settings.{routes_in, sets_in, set_start, set_kind_at}
use Rattle.settings.specs.Cases.{shape_none, shape_cut, shape_kinds}
use Rattle.settings.proofs.Settings.has_wrong_shape.Goals as goal

-- where the set times end
ends : (xs : List ℕ) {n : ℕ} → n ≡ routes_in xs → 19 + 41 * n + 4 * ((length xs - (19 + 41 * n)) / 4) ≡ set_start xs (sets_in xs)
ends xs e = ap (λ (n : ℕ). 19 + 41 * n + 4 * ((length xs - (19 + 41 * n)) / 4)) e

pub returns-then-self-eq0 : goal.returns-then-self-eq0
returns-then-self-eq0 c = sym (shape_none c.args.self.now.octets.now (sym c.args.self.now.counted ∙ c.if-self-eq0.true))

pub returns-then-octets-at : goal.returns-then-octets-at
returns-then-octets-at c =
    sym (shape_cut c.args.self.now.octets.now (omega (arith, c.args.self.now.counted, c.if-self-eq0.false)) (λ e. omega (arith, e, c.args.self.now.counted, c.if-octets-at.true)))

pub returns-then-octets-at-2 : goal.returns-then-octets-at-2
returns-then-octets-at-2 c =
    sym (shape_cut c.args.self.now.octets.now (omega (arith, c.args.self.now.counted, c.if-self-eq0.false)) (λ e. c.if-octets-at-2.true (e ∙ sym (ends c.args.self.now.octets.now c.args.self.now.counted))))

pub returns : goal.returns
returns c =
    let xs = c.args.self.now.octets.now in
    let e : (length xs - (19 + 41 * c.args.self.now.routes)) / 4 ≡ (length xs - (19 + 41 * routes_in xs)) / 4 = ap (λ (n : ℕ). (length xs - (19 + 41 * n)) / 4) c.args.self.now.counted in
    let all = c.all_below.ensures (set_kind_at xs) (λ j b l p.
    let is : b ≡ eqb (get_or xs (19 + 41 * c.args.self.now.routes + 4 * j) 0) 3 = search rules in
    is ∙ ap (λ (n : ℕ). eqb (get_or xs (19 + 41 * n + 4 * j) 0) 3) c.args.self.now.counted) in
    (λ i. not (eqb (get_or xs 0 0) 1) || not ((all ∙ ap (all_below (set_kind_at xs)) e) i))
    ∙ sym (shape_kinds xs (omega (arith, c.args.self.now.counted, c.if-self-eq0.false)) (c.if-octets-at-2.false ∙ ends xs c.args.self.now.counted))
