-- What the verdict on settings comes to (document 01, Settings; Refusals 1, 2, 3, 18 and 22): which of refusals 1, 2, 3 and 22 a fresh manager gets, or the
-- manager; that accepted settings say of it what specs/Accepted.antt has, so that it is within the bounds of refusal 18; and that the
-- state of a refusal is not. Assumes nothing.
use Rattle.std.specs.Prelude.{◌≡◌, refl, Bool, true, false, not, List, [], ◌∷◌, ℕ, zero, suc, ◌≤◌, ◌<◌, ltb}
use Rattle.std.proofs.Math.Path.{sym, ap}
use Rattle.std.proofs.Common.{◌∙◌}
use borrow.Author.Tests.{ltb-false, le-leb, not-false}
use Rattle.octets.specs.Number.{num}
use Rattle.refusals.specs.Refusal.{◌when◌, passed, or_false}
use Rattle.refusals.specs.Below.{all_below, below_each, below_all}
use Rattle.state.specs.declared.Route.{Route}
use Rattle.state.specs.Manager.{route_at}
use Rattle.state.specs.Bounds.{settings_right, distinct, route_right, right_at, routes_right, state_right}
use Rattle.settings.specs.Settings.{routes_in, sets_in, route_start, wrong_shape, beyond_range, equal_filters, set_time_right, wrong_sets, in_range_at, in_range, settings_from, route_from, manager_from, no_manager, settled, verdict, fresh_of}
use Rattle.settings.specs.Cases.{refused_fresh, shaped}
use Rattle.settings.specs.Sets.{sets_right_lem}
use Rattle.settings.specs.Accepted.{Accepted, route_from_lem}

module _ (xs : List ℕ) where
  -- the answer, by the first refusal
  pub fresh_shape : wrong_shape xs ≡ true → fresh_of xs ≡ refused_fresh 1
  unfolding fresh_of verdict
  fresh_shape w = rw w

  pub fresh_range : wrong_shape xs ≡ false → beyond_range xs ≡ true → fresh_of xs ≡ refused_fresh 2
  unfolding fresh_of verdict
  fresh_range w b = rw (w, b)

  module _ (w : wrong_shape xs ≡ false) (b : beyond_range xs ≡ false) {d : Bool} (ed : d ≡ distinct (manager_from xs (routes_in xs)) (routes_in xs)) where
    filters_are : equal_filters xs ≡ not d
    unfolding equal_filters
    filters_are = sym (ap not ed)

    pub fresh_equal : d ≡ false → fresh_of xs ≡ refused_fresh 3
    unfolding fresh_of verdict
    fresh_equal e = rw (w, b, filters_are ∙ ap not e)

    pub fresh_unset : d ≡ true → wrong_sets xs ≡ true → fresh_of xs ≡ refused_fresh 22
    unfolding fresh_of verdict
    fresh_unset e f = rw (w, b, filters_are ∙ ap not e, f)

    pub fresh_taken : d ≡ true → wrong_sets xs ≡ false → fresh_of xs ≡ record { refusal = 0; manager = manager_from xs (routes_in xs) }
    unfolding fresh_of verdict
    fresh_taken e f = rw (w, b, filters_are ∙ ap not e, f)

-- a fresh route in range is right: nothing is open
fresh_right : (xs : List ℕ) (k : ℕ) {r : Route} → r ≡ route_from xs k → settings_right (settings_from xs k) ≡ true → route_right 0 r ≡ true
fresh_right xs k e s = ap (route_right 0) e ∙ rw s

range_right : (xs : List ℕ) (n : ℕ) → n ≤ 8 → in_range xs n ≡ true → routes_right (manager_from xs n) n ≡ true
range_right xs n b e =
    below_all (right_at (manager_from xs n)) n (λ i h. fresh_right xs (route_start i) (route_from_lem xs n i h b) (below_each (in_range_at xs) n e i h))

module _ (xs : List ℕ) where
  pub refusal_is : (fresh_of xs).refusal ≡ verdict xs
  unfolding fresh_of
  refusal_is = settled_refusal (verdict xs)
    where
      settled_refusal : (n : ℕ) → (settled n xs).refusal ≡ n
      settled_refusal zero = refl
      settled_refusal (suc n) = refl

  pub manager_is : verdict xs ≡ 0 → fresh_of xs ≡ record { refusal = 0; manager = manager_from xs (routes_in xs) }
  unfolding fresh_of
  manager_is e = ap (λ (n : ℕ). settled n xs) e

  pub accepted : verdict xs ≡ 0 → Accepted xs
  unfolding verdict beyond_range equal_filters wrong_sets
  accepted e =
      let a = passed 0 (wrong_shape xs) ((2 when beyond_range xs) ∷ (3 when equal_filters xs) ∷ (22 when wrong_sets xs) ∷ []) e in
      let b = passed 1 (beyond_range xs) ((3 when equal_filters xs) ∷ (22 when wrong_sets xs) ∷ []) a.1 in
      let c = passed 2 (equal_filters xs) ((22 when wrong_sets xs) ∷ []) b.1 in
      let f = passed 21 (wrong_sets xs) [] c.1 in
      let d = or_false (ltb 2878 (num 2 xs 17)) (not (in_range xs (routes_in xs))) b.0 in
      record {
        shape = shaped xs a.0;
        bias = ltb-false 2878 (num 2 xs 17) d.0;
        range = not-false (in_range xs (routes_in xs)) d.1;
        filters = not-false (distinct (manager_from xs (routes_in xs)) (routes_in xs)) c.0;
        sets = not-false (all_below (set_time_right xs) (sets_in xs)) f.0;
      }

  -- the fresh manager is within the bounds of refusal 18
  pub accepted_right : verdict xs ≡ 0 → state_right (manager_from xs (routes_in xs)) ≡ true
  unfolding state_right
  accepted_right e =
      let a = accepted e in
      let n = routes_in xs in
      rw (le-leb 1 n a.shape.some, le-leb n 8 a.shape.most, le-leb (num 2 xs 17) 2878 a.bias, range_right xs n a.shape.most a.range, a.filters, sets_right_lem xs (sets_in xs) n a.shape.most a.sets)

  -- its routes are those of the octets, each in range
  pub accepted_route : verdict xs ≡ 0 → (i : ℕ) → i < routes_in xs → route_at (manager_from xs (routes_in xs)) i ≡ route_from xs (route_start i)
  accepted_route e i h = route_from_lem xs (routes_in xs) i h (accepted e).shape.most

  pub accepted_settings : verdict xs ≡ 0 → (i : ℕ) → i < routes_in xs → settings_right (settings_from xs (route_start i)) ≡ true
  accepted_settings e i h = below_each (in_range_at xs) (routes_in xs) (accepted e).range i h

-- the state of a refusal is not within its bounds
pub refused_wrong : state_right no_manager ≡ false
unfolding state_right
refused_wrong = refl
