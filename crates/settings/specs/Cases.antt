-- The cases of a fresh manager that the code meets (document 01, Settings and Refusals): which of refusals 1, 2, 3 and 22 comes,
-- or the manager; and what settings of the right shape say of their length. Assumes nothing.
use Rattle.std.specs.Prelude.{◌≡◌, refl, true, false, ◌||◌, List, [], ℕ, zero, suc, ◌+◌, ◌*◌, ◌≤◌, ◌<◌, length, get_or, replicate, Result, Ok, Err}
use Rattle.std.proofs.Math.Path.{sym, ap}
use Rattle.std.proofs.Common.{◌∙◌, add-one, arith, length-set}
use Rattle.std.proofs.Math.Bool.{not}
use Rattle.std.proofs.Math.Dec.{eqb}
use Rattle.std.proofs.lemmas.List.{length-replicate}
use Rattle.std.proofs.Math.ListN.{get_or-eq_default}
use borrow.Author.Tests.{eq-eqb, ne_eqb, eqb-true, eqb-false, not-false}
use Rattle.octets.specs.Splice.{splice}
use Rattle.refusals.specs.declared.Refusal.{Refusal}
use Rattle.refusals.specs.Number.{number}
use Rattle.refusals.specs.Refusal.{or_false}
use Rattle.refusals.specs.Below.{all_below, list_length, leading, leading_all, leading_to, leading_most}
use Rattle.state.specs.Manager.{Manager}
use Rattle.words.specs.Words.{route_words, node_words, words_of}
use Rattle.words.specs.Laws.{words_length, filled_words, node_words_lem}
use Rattle.settings.specs.declared.Loaded.{Loaded}
use Rattle.settings.specs.Settings.{Fresh, worded, route_from, unused_route, node_from, routes_from, routes_in, sets_in, route_start, kind_at, set_start, set_kind_at, wrong_shape, set_number_at, set_times_from, manager_with, no_manager}

-- a refusal carries its number, and the one state that goes with it
abbrev pub refused_fresh : ℕ → Fresh
refused_fresh n = record { refusal = n; manager = no_manager }

-- what the call answers where it has made a fresh manager's words, or a refusal
abbrev pub loaded_from : Result (List ℕ) Refusal → Loaded
loaded_from (Ok words) = record { refusal = 0; words = words }
loaded_from (Err r) = worded (refused_fresh (number r))

-- how many routes there are: they end with the octets, with another kind, or at eight
module _ (xs : List ℕ) where
  pub routes_most : routes_in xs ≤ 8
  unfolding routes_in
  routes_most = leading_most (kind_at xs) 8

  module _ (n : ℕ) (h : all_below (kind_at xs) n ≡ true) where
    pub routes_eight : n ≡ 8 → n ≡ routes_in xs
    unfolding routes_in
    routes_eight e = sym (ap (leading (kind_at xs)) (sym e) ∙ leading_all (kind_at xs) n h)

    pub routes_other : n ≤ 8 → kind_at xs n ≡ false → n ≡ routes_in xs
    unfolding routes_in
    routes_other l e = sym (leading_to (kind_at xs) 8 n l h e)

    pub routes_end : n ≤ 8 → length xs ≤ route_start n → n ≡ routes_in xs
    routes_end l e = routes_other l (ap (λ (k : ℕ). eqb k 2) (get_or-eq_default xs 0 e))

-- what the shape says: one node, 1 to 8 routes, and set times
pub record Shaped (xs : List ℕ) : Type 0 where
  pub some : 1 ≤ routes_in xs
  pub most : routes_in xs ≤ 8
  pub whole : length xs ≡ set_start xs (sets_in xs)

module _ (xs : List ℕ) where
  pub shape_none : routes_in xs ≡ 0 → wrong_shape xs ≡ true
  unfolding wrong_shape
  shape_none h = rw (eq-eqb _ _ h)

  pub shape_cut : 1 ≤ routes_in xs → (length xs ≡ set_start xs (sets_in xs) → ⊥) → wrong_shape xs ≡ true
  unfolding wrong_shape
  shape_cut a h = rw (ne_eqb (routes_in xs) 0 (λ z. omega arith), ne_eqb _ _ h)

  pub shape_kinds : 1 ≤ routes_in xs → length xs ≡ set_start xs (sets_in xs)
      → wrong_shape xs ≡ (not (eqb (get_or xs 0 0) 1) || not (all_below (set_kind_at xs) (sets_in xs)))
  unfolding wrong_shape
  shape_kinds a e = rw (ne_eqb (routes_in xs) 0 (λ z. omega arith), eq-eqb _ _ e)

  pub shaped : wrong_shape xs ≡ false → Shaped xs
  unfolding wrong_shape
  shaped w =
      let n = routes_in xs in
      let whole = eqb (length xs) (set_start xs (sets_in xs)) in
      let a = or_false (eqb n 0 || not whole || not (eqb (get_or xs 0 0) 1)) (not (all_below (set_kind_at xs) (sets_in xs))) w in
      let b = or_false (eqb n 0 || not whole) (not (eqb (get_or xs 0 0) 1)) a.0 in
      let c = or_false (eqb n 0) (not whole) b.0 in
      let some = eqb-false n 0 c.0 in
      record {
        some = omega (arith, some);
        most = routes_most xs;
        whole = eqb-true (length xs) (set_start xs (sets_in xs)) (not-false whole c.1);
      }

-- The words of the state of a refusal are zeros.
pub no_words : replicate 360 0 ≡ words_of no_manager
unfolding words_of
no_words = refl

-- The state's words as they are made: the routes first, of a state that is otherwise that of a refusal, then the node, and then the set times.
abbrev pub blank : List ℕ → ℕ → Manager
blank xs n = record { routes = routes_from xs n; count = 0; address = replicate 16 0; bias = 0; last = 0; unrouted = 0; set_times = set_times_from xs 0 }

pub blank_words : (xs : List ℕ) → replicate 360 0 ≡ words_of (blank xs 0)
unfolding words_of set_times_from
blank_words xs = refl

pub sets_length : (xs : List ℕ) (j : ℕ) → length (set_times_from xs j) ≡ 200
unfolding set_times_from
sets_length xs j = list_length (set_number_at xs j) 0 200

-- the routes are eight
pub routes_length : (ys : List ℕ) (n : ℕ) → length (routes_from ys n) ≡ 8
routes_length ys zero = length-replicate 8 unused_route
routes_length ys (suc n) = length-set (routes_from ys n) n (route_from ys (route_start n)) ∙ routes_length ys n

pub blank_length : (xs : List ℕ) (i : ℕ) {l : List ℕ} → l ≡ words_of (blank xs i) → length l ≡ 360
blank_length xs i e = ap length e ∙ words_length (blank xs i) (routes_length xs i) (sets_length xs 0)

pub next_words : (xs : List ℕ) (i : ℕ) → i < 8 → {l r : List ℕ} → l ≡ words_of (blank xs i) → r ≡ route_words (route_from xs (route_start i)) []
    → splice l (8 + 19 * i) r ≡ words_of (blank xs (i + 1))
next_words xs i h el er =
    let there : i < length (routes_from xs i) = rw (routes_length xs i) h in
    (λ j. splice (el j) (8 + 19 * i) (er j))
    ∙ filled_words (blank xs i) i (route_from xs (route_start i)) there
    ∙ ap (λ (k : ℕ). words_of (blank xs k)) (sym (add-one i))

pub whole_words : (xs : List ℕ) (n : ℕ) {l node : List ℕ} → l ≡ words_of (blank xs n) → node ≡ node_words (node_from xs) n [] → splice l 0 node ≡ words_of (manager_with xs n 0)
whole_words xs n el en = (λ j. splice (el j) 0 (en j)) ∙ node_words_lem (blank xs n) (node_from xs) n
