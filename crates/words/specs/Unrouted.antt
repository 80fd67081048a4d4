-- The word of a route's unrouted records (Words: 11 of its nineteen): what stands there, and another number put there, which is the
-- only change that an unrouted record makes to a route. Assumes nothing.
use Rattle.std.specs.Prelude.{◌≡◌, refl, ℕ, zero, suc, ◌+◌, ◌*◌, ◌<◌, length}
use Rattle.std.proofs.Common.{sym, ◌∙◌, arith, zero-add, suc-add}
use Rattle.std.proofs.Math.Path.{ap}
use mathlib.Core.List.{List, [], ◌∷◌, ◌++◌}
use Rattle.std.proofs.Math.ListN.{get_or, set}
use Rattle.std.proofs.Math.Seq.{get_or-append-add}
use Rattle.state.specs.declared.Route.{Route}
use Rattle.state.specs.Manager.{Manager}
use Rattle.state.specs.Manager.{no_route, route_at, node_of, with_route}
use Rattle.words.specs.Words.{manager_in, route_words, routes_words, node_words, words_of}
use Rattle.words.specs.Laws.{words_words, routes_eight}

abbrev pub with_unrouted : Route → ℕ → Route
with_unrouted r n = record { settings = r.settings; next = r.next; losses = r.losses; unrouted = n; «open» = r.«open»; file = r.file }

-- a store behind a list is one into what stands there
pub set_past : (ps xs : List ℕ) (k n : ℕ) → set (ps ++ xs) (length ps + k) n ≡ ps ++ set xs k n
set_past [] xs k n = ap (λ (j : ℕ). set xs j n) (zero-add k)
set_past (p ∷ ps) xs k n =
    ap (λ (j : ℕ). set (p ∷ (ps ++ xs)) j n) (suc-add (length ps) k) ∙ ap (λ (l : List ℕ). p ∷ l) (set_past ps xs k n)

-- among the routes' words
unrouted_routes : (rs : List Route) (rest : List ℕ) (i : ℕ) → i < length rs → get_or (routes_words rs rest) (19 * i + 11) 0 ≡ (get_or rs i no_route).unrouted
unrouted_routes [] rest i h = absurd (omega arith)
unrouted_routes (q ∷ qs) rest zero h = refl
unrouted_routes (q ∷ qs) rest (suc i) h =
    let k : 19 * suc i + 11 ≡ 19 + (19 * i + 11) = omega arith in
    ap (λ (j : ℕ). get_or (routes_words (q ∷ qs) rest) j 0) k
    ∙ get_or-append-add (route_words q []) (routes_words qs rest) (19 * i + 11) 0
    ∙ unrouted_routes qs rest i (omega arith)

counted_routes : (rs : List Route) (rest : List ℕ) (i n : ℕ) → i < length rs
    → set (routes_words rs rest) (19 * i + 11) n ≡ routes_words (set rs i (with_unrouted (get_or rs i no_route) n)) rest
counted_routes [] rest i n h = absurd (omega arith)
counted_routes (q ∷ qs) rest zero n h = refl
counted_routes (q ∷ qs) rest (suc i) n h =
    let k : 19 * suc i + 11 ≡ 19 + (19 * i + 11) = omega arith in
    ap (λ (j : ℕ). set (routes_words (q ∷ qs) rest) j n) k
    ∙ set_past (route_words q []) (routes_words qs rest) (19 * i + 11) n
    ∙ ap (route_words q) (counted_routes qs rest i n (omega arith))

-- among the state's, behind the node's eight
module _ (m : Manager) (i : ℕ) (h : i < length m.routes) where
  abbrev node : List ℕ
  node = node_words (node_of m) m.count (m.last ∷ m.unrouted ∷ [])

  behind : 19 + 19 * i ≡ 8 + (19 * i + 11)
  behind = omega arith

  pub unrouted_word : get_or (words_of m) (19 + 19 * i) 0 ≡ (route_at m i).unrouted
  unfolding words_of
  unrouted_word =
      ap (λ (j : ℕ). get_or (node ++ routes_words m.routes m.set_times) j 0) behind
      ∙ get_or-append-add node (routes_words m.routes m.set_times) (19 * i + 11) 0
      ∙ unrouted_routes m.routes m.set_times i h

  pub counted_word : (n : ℕ) → set (words_of m) (19 + 19 * i) n ≡ words_of (with_route m i (with_unrouted (route_at m i) n))
  unfolding words_of
  counted_word n =
      ap (λ (j : ℕ). set (node ++ routes_words m.routes m.set_times) j n) behind
      ∙ set_past node (routes_words m.routes m.set_times) (19 * i + 11) n
      ∙ ap (λ (l : List ℕ). node ++ l) (counted_routes m.routes m.set_times i n h)

-- in any words of a state
pub unrouted_at : (xs : List ℕ) → length xs ≡ 360 → (i : ℕ) → i < 8 → get_or xs (19 + 19 * i) 0 ≡ (route_at (manager_in xs) i).unrouted
unrouted_at xs e i h =
    ap (λ (l : List ℕ). get_or l (19 + 19 * i) 0) (sym (words_words xs e)) ∙ unrouted_word (manager_in xs) i (omega (arith, routes_eight xs))
