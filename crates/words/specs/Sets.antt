-- The words of the set minutes (Words: from 160 on how many, from 168 on which): what stands there, and another number put there. Assumes nothing.
use Rattle.std.specs.Prelude.{◌≡◌, List, [], ◌∷◌, ◌++◌, ℕ, suc, ◌+◌, ◌*◌, length, set}
use Rattle.std.proofs.Math.Path.{sym, ap}
use Rattle.std.proofs.Common.{◌∙◌, zero-add, get_or-drop}
use native.Mathlib.Omega.{arith}
use Rattle.std.proofs.Math.ListN.{get_or}
use Rattle.state.specs.declared.Route.{Route}
use Rattle.state.specs.Manager.{Manager}
use Rattle.state.specs.Manager.{node_of}
use Rattle.state.specs.SetTimes.{set_count, set_minute}
use Rattle.words.specs.Words.{manager_in, route_words, routes_words, node_words, words_of}
use Rattle.words.specs.Unrouted.{set_past}

module _ (xs : List ℕ) (i : ℕ) where
  pub set_count_in : get_or xs (160 + i) 0 ≡ set_count (manager_in xs).set_times i
  unfolding manager_in
  set_count_in = sym (get_or-drop 160 xs i 0)

  pub set_minute_in : (j : ℕ) → get_or xs (168 + 24 * i + j) 0 ≡ set_minute (manager_in xs).set_times i j
  unfolding manager_in
  set_minute_in j =
      let e : 168 + 24 * i + j ≡ 160 + (8 + 24 * i + j) = omega arith in
      ap (λ (k : ℕ). get_or xs k 0) e ∙ sym (get_or-drop 160 xs (8 + 24 * i + j) 0)

-- Words of eight routes, and a number put behind them.
abbrev pub with_sets : Manager → List ℕ → Manager
with_sets m sets =
    record { routes = m.routes; count = m.count; address = m.address; bias = m.bias; last = m.last; unrouted = m.unrouted; set_times = sets }

put_behind : (rs : List Route) (rest : List ℕ) (q n : ℕ) → set (routes_words rs rest) (19 * length rs + q) n ≡ routes_words rs (set rest q n)
put_behind [] rest q n = ap (λ (k : ℕ). set rest k n) (zero-add q)
put_behind (r ∷ rs) rest q n =
    let k : 19 * suc (length rs) + q ≡ 19 + (19 * length rs + q) = omega arith in
    ap (λ (j : ℕ). set (route_words r (routes_words rs rest)) j n) k
    ∙ set_past (route_words r []) (routes_words rs rest) (19 * length rs + q) n
    ∙ ap (route_words r) (put_behind rs rest q n)

pub set_put : (m : Manager) → length m.routes ≡ 8 → (q n : ℕ) → set (words_of m) (160 + q) n ≡ words_of (with_sets m (set m.set_times q n))
unfolding words_of
set_put m e q n =
    let node : List ℕ = node_words (node_of m) m.count (m.last ∷ m.unrouted ∷ []) in
    let k : 160 + q ≡ 8 + (19 * length m.routes + q) = omega arith in
    ap (λ (j : ℕ). set (node ++ routes_words m.routes m.set_times) j n) k
    ∙ set_past node (routes_words m.routes m.set_times) (19 * length m.routes + q) n
    ∙ ap (λ (l : List ℕ). node ++ l) (put_behind m.routes m.set_times q n)
