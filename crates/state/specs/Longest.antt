-- What routing finds (document 01, Routing and loss): where a route is found it is one of the manager's, its filter fits, and no
-- filter that fits is longer; where none is found no filter fits. Assumes nothing.
use Rattle.std.specs.Prelude.{◌≡◌, refl, Bool, true, false, cond, not, ◌&&◌, ◌||◌, List, ℕ, zero, suc, ◌≤◌, ◌<◌, ltb}
use Rattle.std.proofs.Common.{sym, ◌∙◌, true≢false, arith, ltb-true, ltb-false}
use Rattle.std.proofs.lemmas.Bool.{false≢true, not-false}
use Rattle.std.proofs.Math.Decide.{ℕ_discrete}
use Rattle.refusals.specs.Tests.{both}
use Rattle.refusals.specs.Refusal.{or_false}
use Rattle.state.specs.Manager.{Manager}
use Rattle.state.specs.Routing.{Routed}
use Rattle.state.specs.Manager.{settings_at}
use Rattle.state.specs.Routing.{fits, among, route_of}
use Rattle.state.specs.Holding.{if_then}

-- the route found has the longest filter that fits, among the routes below n
pub record Longest (m : Manager) (key : List ℕ) (n : ℕ) (r : Routed) : Type 0 where
  pub below : r.at < n
  pub fitting : fits (settings_at m r.at) key ≡ true
  pub octets : r.octets ≡ (settings_at m r.at).octets
  pub longest : (i : ℕ) → i < n → fits (settings_at m i) key ≡ true → (settings_at m i).octets ≤ r.octets

-- what is said of the routes below n, by whether one was found
record Best (m : Manager) (key : List ℕ) (n : ℕ) (r : Routed) : Type 0 where
  some : r.found ≡ true → Longest m key n r
  none : r.found ≡ false → (i : ℕ) → i < n → fits (settings_at m i) key ≡ false

module _ (m : Manager) (key : List ℕ) (n : ℕ) (b : Routed) (best : Best m key n b) where
  -- route n fits, and its filter is longer than that of the route found so far, if there is one
  taken : fits (settings_at m n) key ≡ true → (b.found ≡ true → b.octets < (settings_at m n).octets)
      → Best m key (suc n) (record { found = true; at = n; octets = (settings_at m n).octets })
  taken fit longer =
      record {
        some = λ _. record { below = omega arith; fitting = fit; octets = refl; longest = λ i h e. most i h e (ℕ_discrete i n) b.found refl };
        none = λ e. absurd (true≢false e);
      }
    where
      most : (i : ℕ) → i < suc n → fits (settings_at m i) key ≡ true → Dec (i ≡ n) → (found : Bool) → b.found ≡ found
          → (settings_at m i).octets ≤ (settings_at m n).octets
      most i h e (yes p) found f = rw p (omega arith)
      most i h e (no p) true f = omega (arith, (best.some f).longest i (omega arith) e, longer f)
      most i h e (no p) false f = absurd (true≢false (sym e ∙ best.none f i (omega arith)))

  -- route n does not fit, or the route found so far has as long a filter
  kept : (fits (settings_at m n) key ≡ true → (b.found ≡ true) × ((settings_at m n).octets ≤ b.octets)) → Best m key (suc n) b
  kept no_longer =
      record {
        some = λ f. let l = best.some f in
            record { below = omega (arith, l.below); fitting = l.fitting; octets = l.octets; longest = λ i h e. most f i h e (ℕ_discrete i n) };
        none = λ f i h. unfit f i h (ℕ_discrete i n) (fits (settings_at m i) key) refl;
      }
    where
      most : b.found ≡ true → (i : ℕ) → i < suc n → fits (settings_at m i) key ≡ true → Dec (i ≡ n) → (settings_at m i).octets ≤ b.octets
      most f i h e (yes p) = rw p (no_longer (rw p at e)).1
      most f i h e (no p) = (best.some f).longest i (omega arith) e

      unfit : b.found ≡ false → (i : ℕ) → i < suc n → Dec (i ≡ n) → (t : Bool) → fits (settings_at m i) key ≡ t → fits (settings_at m i) key ≡ false
      unfit f i h d false e = e
      unfit f i h (yes p) true e = absurd (true≢false (sym (no_longer (rw p at e)).0 ∙ f))
      unfit f i h (no p) true e = best.none f i (omega arith)

  -- by whether route n takes the key
  step : (t : Bool) → (fits (settings_at m n) key && (not b.found || ltb b.octets (settings_at m n).octets)) ≡ t
      → Best m key (suc n) (cond t (record { found = true; at = n; octets = (settings_at m n).octets }) b)
  step true e =
      let t = both (fits (settings_at m n) key) (not b.found || ltb b.octets (settings_at m n).octets) e in
      taken t.0 (λ f. ltb-true _ _ (if_then b.found (ltb b.octets (settings_at m n).octets) t.1 f))
  step false e =
      kept (λ p.
      let q : (not b.found || ltb b.octets (settings_at m n).octets) ≡ false = rw p at e in
      let o = or_false (not b.found) (ltb b.octets (settings_at m n).octets) q in
      (not-false b.found o.0, ltb-false _ _ o.1))

best_among : (m : Manager) (key : List ℕ) (n : ℕ) → Best m key n (among m key n)
best_among m key zero = record { some = λ e. absurd (false≢true e); none = λ e i h. absurd (omega arith) }
best_among m key (suc n) = step m key n (among m key n) (best_among m key n) _ refl

-- a route found has the longest filter that fits
pub longest_found : (m : Manager) (key : List ℕ) → (route_of m key).found ≡ true → Longest m key m.count (route_of m key)
unfolding route_of
longest_found m key e = (best_among m key m.count).some e

-- *unrouted*: where none is found, no filter of the manager fits
pub none_fits : (m : Manager) (key : List ℕ) → (route_of m key).found ≡ false → (i : ℕ) → i < m.count → fits (settings_at m i) key ≡ false
unfolding route_of
none_fits m key e = (best_among m key m.count).none e
