use mathlib.Core.Path.{◌≡◌, sym, ap, ◌∙◌}
use mathlib.Core.Bool.{true, false, false≢true, not, cond}
use mathlib.Core.List.{List}
use Prim.Native.Nat.{ℕ, ◌-◌, ◌/◌, ◌+◌, ◌*◌, ◌≤◌}
use native.Mathlib.Omega.{arith}
use lib.ListN.{length, get_or}
use Rattle.octets.specs.Number.{num}
use Rattle.refusals.specs.Below.{all_below, below_turn, below_not}
use Rattle.words.specs.Words.{words_of}
use Rattle.settings.specs.Settings.{routes_in, set_start, set_route, sets_in, set_time_right, wrong_sets, manager_with}
use Rattle.settings.specs.Sets.{setting_room, setting_able, setting_next}
use Rattle.settings.proofs.Settings.put_sets.Goals as goal
use Rattle.settings.proofs.Settings.put_sets.Goals.{After-from-route, Else-not-is_set_time_right, In-loop-j}

-- the set times, of as many as there are
sets_are : (xs : List ℕ) {n : ℕ} → n ≡ routes_in xs → (length xs - (19 + 41 * n)) / 4 ≡ sets_in xs
sets_are xs e = ap (λ (n : ℕ). (length xs - (19 + 41 * n)) / 4) e

room : (c : goal.In-loop-j)
    → let a = c.args in
    let at = 19 + 41 * a.self.now.routes + 4 * c.loop-j.j in
    (at ≡ set_start a.self.now.octets.now c.loop-j.j) × (at + 4 ≤ length a.self.now.octets.now)
room c = setting_room c.loop-j.invariant.setting (omega (arith, c.loop-j-test.true, sets_are c.args.self.now.octets.now c.requires.routes))

right_is : (c : goal.Else-not-is_set_time_right) → set_time_right c.args.self.now.octets.now c.loop-j.j ≡ true
right_is c = sym c.is_set_time_right.ensures ∙ c.if-not-is_set_time_right.false

route_is : (c : goal.After-from-route)
    → c.from-route.result ≡ set_route c.args.self.now.octets.now c.loop-j.j
route_is c =
    c.from-route.ensures
    ∙ ap (λ (k : ℕ). get_or c.args.self.now.octets.now (k + 1) 0) (setting_room c.loop-j.invariant.setting (omega (arith, c.loop-j-test.true, sets_are c.args.self.now.octets.now c.requires.routes))).0

pub returns-then-not-is_set_time_right-clause-told : goal.returns-then-not-is_set_time_right-clause-told
unfolding wrong_sets
returns-then-not-is_set_time_right-clause-told c =
    let xs = c.args.self.now.octets.now in
    let wrong : set_time_right xs c.loop-j.j ≡ false = sym c.is_set_time_right.ensures ∙ c.if-not-is_set_time_right.true in
    let all = below_not (set_time_right xs) (sets_in xs) c.loop-j.j (omega (arith, c.loop-j-test.true, sets_are c.args.self.now.octets.now c.requires.routes)) wrong in
    λ i. cond (not (sym all i)) 22 0

pub returns-then-not-is_set_time_right-clause-put : goal.returns-then-not-is_set_time_right-clause-put
returns-then-not-is_set_time_right-clause-put c =
    let xs = c.args.self.now.octets.now in
    let wrong : set_time_right xs c.loop-j.j ≡ false = sym c.is_set_time_right.ensures ∙ c.if-not-is_set_time_right.true in
    let all = below_not (set_time_right xs) (sets_in xs) c.loop-j.j (omega (arith, c.loop-j-test.true, sets_are c.args.self.now.octets.now c.requires.routes)) wrong in
    record { told = sym all; is = λ z. absurd (false≢true z) }

pub put_minute-requires : goal.put_minute-requires
put_minute-requires c =
    let able = setting_able c.loop-j.invariant.setting (right_is (goal.at.put_minute-requires c).Else-not-is_set_time_right) (route_is (goal.at.put_minute-requires c).After-from-route) in
    (able.1, able.2)

pub loop-j-preserved : goal.loop-j-preserved
loop-j-preserved c =
    let xs = c.args.self.now.octets.now in
    let right = right_is (goal.at.loop-j-preserved c).Else-not-is_set_time_right in
    let minute = c.num-minute.ensures ∙ ap (λ (k : ℕ). num 2 xs (k + 2)) (room (goal.at.loop-j-preserved c).In-loop-j).0 in
    record {
      right = sym (below_turn (set_time_right xs) c.loop-j.j (sym c.loop-j.invariant.right) (sym right));
      setting = setting_next c.loop-j.invariant.setting right c.put_minute.ensures (route_is (goal.at.loop-j-preserved c).After-from-route) minute;
    }

pub returns-clause-told : goal.returns-clause-told
unfolding wrong_sets
returns-clause-told c =
    let xs = c.args.self.now.octets.now in
    let e : c.loop-j.j ≡ sets_in xs = omega (arith, sets_are c.args.self.now.octets.now c.requires.routes) in
    let all = sym (ap (all_below (set_time_right xs)) e) ∙ c.loop-j.invariant.right in
    λ i. cond (not (sym all i)) 22 0

pub returns-clause-put : goal.returns-clause-put
returns-clause-put c =
    let xs = c.args.self.now.octets.now in
    let e : c.loop-j.j ≡ sets_in xs = omega (arith, sets_are c.args.self.now.octets.now c.requires.routes) in
    record {
      told = sym (sym (ap (all_below (set_time_right xs)) e) ∙ c.loop-j.invariant.right);
      is = λ z. c.loop-j.invariant.setting.is ∙ ap (λ (k : ℕ). words_of (manager_with xs c.args.self.now.routes k)) e;
    }
