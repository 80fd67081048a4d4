-- RECEIVE leaves the work of routing as it was (document 02, ask 7): on any words, accepted or refused, the words that it leaves have the same number
-- of routes, and as many octets of filters are compared with each key. So a record of a packet costs what it would cost on the words that the
-- packet was lent. RECEIVE changes no route's filter and no filter's length, whatever the words hold.
use Rattle.std.specs.Prelude.{◌≡◌, ℕ, zero, suc, ◌+◌, ◌*◌, ◌<◌, ◌≤◌, Bool, true, false, cond, not, List, [], ◌∷◌, length, drop, ◌==◌, nat_lt, slice_index, slice_index_or}
use Rattle.std.proofs.Math.Path.{refl, ap}
use Rattle.std.proofs.Common.{sym, ◌∙◌, arith, drop-drop, eqb-true}
use Rattle.refusals.specs.Refusal.{◌when◌, first}
use Rattle.state.specs.declared.RouteSettings.{RouteSettings}
use Rattle.state.specs.declared.Route.{Route}
use Rattle.state.specs.Manager.{Manager}
use Rattle.state.specs.Manager.{no_release, no_route, route_at, settings_at, regions, effective}
use Rattle.state.specs.Bounds.{state_right}
use Rattle.state.specs.Within.{within}
use Rattle.state.specs.Compared.{compared_with, compared_among, compared_for}
use Rattle.words.specs.Words.{octet1, filter_in, settings_in, route_in, manager_in, with_release, four_at, route_words, routes_words, words_of}
use Rattle.words.specs.Laws.{packed_word, words_words, routes_eight, route_in_lem, count_in}
use Rattle.events.specs.declared.Arrival.{Arrival}
use Rattle.events.specs.Rules.{wrong_fields}
use Rattle.events.specs.Events.{After, settled}
use Rattle.events.specs.Receive.{counters_full, needed, taken, receive_of}
use Rattle.events.specs.Lent.{worded, unlike, receive_on}
use Rattle.events.specs.Stays.{receive_stays}

-- m' has as many routes as m, and as many octets of filters are compared with each key
pub record SameWork (m m' : Manager) : Type 0 where
  pub count : m'.count ≡ m.count
  pub compared : (key : List ℕ) → compared_for m' key ≡ compared_for m key

-- The settings of a route that is written as words and read again.
abbrev again : Route → RouteSettings
again r = settings_in (route_words r [])

-- A filter and its length that were read from words come back: the four octets of a word are all of it, whatever its size.
module _ (r : Route) (ys : List ℕ) (e : r.settings ≡ settings_in ys) where
  again_filter : (again r).filter ≡ (settings_in ys).filter
  again_filter =
      ap (λ (s : RouteSettings). filter_in (four_at s.filter 0) (four_at s.filter 4) (four_at s.filter 8) (four_at s.filter 12) (four_at s.filter 16)) e
      ∙ (λ i. filter_in (packed_word (slice_index ys 0) i) (packed_word (slice_index ys 1) i) (packed_word (slice_index ys 2) i) (packed_word (slice_index ys 3) i) (packed_word (slice_index ys 4) i))

  again_octets : (again r).octets ≡ (settings_in ys).octets
  again_octets = ap (λ (s : RouteSettings). octet1 (with_release s.octets s.release)) e ∙ ap octet1 (packed_word (slice_index ys 5))

  again_costs : (key : List ℕ) → compared_with (again r) key ≡ compared_with (settings_in ys) key
  again_costs key =
      λ i. compared_with (record { filter = again_filter i; octets = again_octets i; limit = 0; age = 0; most = 0; flag = 0; release = no_release }) key

-- a route's settings, read from the words of routes
settings_at_lem : (rs : List Route) (rest : List ℕ) (i : ℕ) → i < length rs → settings_in (drop (19 * i) (routes_words rs rest)) ≡ again (slice_index_or rs i no_route)
settings_at_lem [] rest i h = absurd (omega arith)
settings_at_lem (r ∷ rs) rest zero h = refl
settings_at_lem (r ∷ rs) rest (suc i) h =
    let k : 19 * suc i ≡ 19 + 19 * i = omega arith in
    let xs = routes_words (r ∷ rs) rest in
    ap settings_in (ap (λ (n : ℕ). drop n xs) k ∙ sym (drop-drop (19 * i) 19 xs)) ∙ settings_at_lem rs rest i (omega arith)

-- and from those of a state
settings_again : (m : Manager) → length m.routes ≡ 8 → (i : ℕ) → i < 8 → settings_at (manager_in (words_of m)) i ≡ again (route_at m i)
unfolding words_of route_in
settings_again m eight i h =
    ap (λ (r : Route). r.settings) (route_in_lem (words_of m) i h)
    ∙ ap settings_in (sym (drop-drop (19 * i) 8 (words_of m)))
    ∙ settings_at_lem m.routes m.set_times i (omega (arith, eight))

settings_in_lem : (words : List ℕ) (i : ℕ) → i < 8 → settings_at (manager_in words) i ≡ settings_in (drop (8 + 19 * i) words)
unfolding route_in
settings_in_lem words i h = ap (λ (r : Route). r.settings) (route_in_lem words i h)

-- A state with the number of routes and the settings that some words stand for: its words cost what those cost.
module _ (words : List ℕ) (m : Manager) (eight : length m.routes ≡ 8) (same : (j : ℕ) → settings_at m j ≡ settings_at (manager_in words) j) where
  among_same : (key : List ℕ) (n : ℕ) → n ≤ 8 → compared_among (manager_in (words_of m)) key n ≡ compared_among (manager_in words) key n
  among_same key zero h = refl
  among_same key (suc n) h =
      let s = settings_in_lem words n (omega arith) in
      let one = again_costs (route_at m n) (drop (8 + 19 * n) words) (same n ∙ s) key in
      let with : compared_with (settings_at (manager_in (words_of m)) n) key ≡ compared_with (settings_at (manager_in words) n) key =
      ap (λ (t : RouteSettings). compared_with t key) (settings_again m eight n (omega arith)) ∙ one ∙ ap (λ (t : RouteSettings). compared_with t key) (sym s) in
      λ i. among_same key n (omega arith) i + with i

  state_same : m.count ≡ (manager_in words).count → m.count ≤ 8 → SameWork (manager_in words) (manager_in (words_of m))
  unfolding compared_for
  state_same number few =
      record {
        count = count_in m ∙ number;
        compared = λ key.
            ap (compared_among (manager_in (words_of m)) key) (count_in m) ∙ among_same key m.count few ∙ ap (compared_among (manager_in words) key) number;
      }

-- RECEIVE.
module _ (words store output : List ℕ) (time : ℕ) (a : Arrival) (key body : List ℕ) where
  abbrev m : Manager
  m = manager_in words

  abbrev done : After
  done = receive_of m store output time a key body

  -- the words are as they were
  unchanged_same : {words' : List ℕ} → words' ≡ words → SameWork m (manager_in words')
  unchanged_same p = record { count = ap (λ (l : List ℕ). (manager_in l).count) p; compared = λ k. ap (λ (l : List ℕ). compared_for (manager_in l) k) p }

  -- a state outside its bounds: refusal 18
  outside : state_right m ≡ false → done.outcome.manager ≡ m
  unfolding receive_of
  outside e =
      let others = (16 when nat_lt (length store) (regions m)) ∷ (4 when nat_lt 52595999 time) ∷ (5 when wrong_fields a (length key)) ∷ (19 when counters_full m a key (length body))
      ∷ (17 when nat_lt (length output) (needed m a key (length body) (effective m time))) ∷ [] in
      ap (λ (b : Bool). (settled (first ((18 when not b) ∷ others)) (needed m a key (length body) (effective m time)) m store output
      (taken m store output (effective m time) a key body)).outcome.manager) e

  pub receive_same_work : SameWork m (manager_in (receive_on words store output time a key body).words)
  unfolding receive_on
  receive_same_work = go (length words == 360) refl
    where
      by : (b : Bool) → state_right m ≡ b → length words ≡ 360 → SameWork m (manager_in (words_of done.outcome.manager))
      by true e number =
          let s = receive_stays m store output time a key body (routes_eight words) e in
          state_same words done.outcome.manager (s.routes ∙ routes_eight words) s.settings s.count (omega (arith, s.count, (within m e).few))
      by false e number = unchanged_same (ap words_of (outside e) ∙ words_words words number)

      go : (b : Bool) → (length words == 360) ≡ b → SameWork m (manager_in (cond b (worded done) (unlike words store output)).words)
      go true e = by (state_right m) refl (eqb-true (length words) 360 e)
      go false e = unchanged_same refl
