-- What RECEIVE tells of a record that is not placed, and leaves of the state's words (document 01, Routing and loss): the outcomes of
-- Cases, as words; and the loop that counts an unrouted record on one route after another. Assumes nothing.
use Rattle.std.specs.Prelude.{◌≡◌, refl, Bool, true, false, cond, not, List, [], ℕ, zero, suc, ◌+◌, ◌*◌, ◌≤◌, ◌<◌, eqb, length, get_or, set}
use Rattle.std.proofs.Common.{sym, ap, ◌∙◌, arith, add-one, length-set, get_or-set_other, eq-eqb, ne_eqb}
use Rattle.std.proofs.lemmas.Bool.{false≢true}
use Rattle.refusals.specs.Below.{all_below, below_each}
use Rattle.octets.specs.Splice.{splice}
use Rattle.state.specs.declared.Route.{Route}
use Rattle.state.specs.Manager.{Manager}
use Rattle.state.specs.Manager.{no_route, route_at, with_route, with_time}
use Rattle.words.specs.Words.{manager_in, words_of, changing_words}
use Rattle.words.specs.Laws.{words_words, routes_eight, left_words}
use Rattle.words.specs.Unrouted.{with_unrouted, unrouted_word, counted_word}
use Rattle.events.specs.declared.Answer.{Answer}
use Rattle.events.specs.Rules.{lost_route, noted_route}
use Rattle.events.specs.Events.{Outcome, After, after, refusal_of, refused, answered}
use Rattle.events.specs.Lent.{left, lent}
use Rattle.events.specs.Ways.{right_number}
use Rattle.events.specs.Receive.{can_note, unrouted_full, noted, unrouted, lost_at}
use Rattle.receiving.specs.Cases.{unrouted_or, lost_or}

-- an answer, and the words behind it
pub record Told : Type 0 where
  pub answer : Answer
  pub words : List ℕ

abbrev pub told : Answer → List ℕ → Told
told answer words = record { answer = answer; words = words }

abbrev pub told_words : Outcome → Told
told_words o = told o.answer (words_of o.manager)

-- a route of the state's words, as it was read
pub record ReadAt (xs : List ℕ) (i : ℕ) (r : Route) : Type 0 where
  pub number : length xs ≡ 360
  pub there : i < 8
  pub route : r ≡ route_at (manager_in xs) i
  pub opened : r.file.opened < 2147483648

-- the state with an unrouted record counted on the routes below n
abbrev pub noted_to : Manager → ℕ → Manager
noted_to m n = record { routes = noted m n; count = m.count; address = m.address; bias = m.bias; last = m.last; unrouted = m.unrouted; set_times = m.set_times }

module _ (m : Manager) where
  noted_eight : (n : ℕ) → length (noted m n) ≡ length m.routes
  noted_eight zero = refl
  noted_eight (suc n) = length-set (noted m n) n (noted_route (route_at m n)) ∙ noted_eight n

  noted_later : (n j : ℕ) → n ≤ j → route_at (noted_to m n) j ≡ route_at m j
  noted_later zero j h = refl
  noted_later (suc n) j h = get_or-set_other (noted m n) n j (noted_route (route_at m n)) no_route (λ e. omega arith) ∙ noted_later n j (omega arith)

-- The loop's invariant: zs are the words that it began with.
pub record Noting (zs : List ℕ) (n : ℕ) (xs : List ℕ) (i : ℕ) : Type 0 where
  pub below : i ≤ n
  pub words : xs ≡ words_of (noted_to (manager_in zs) i)
  pub number : length xs ≡ 360

module _ (zs : List ℕ) (n : ℕ) where
  pub noting_begins : length zs ≡ 360 → Noting zs n zs 0
  noting_begins e = record { below = omega arith; words = sym (words_words zs e); number = e }

  module _ {xs : List ℕ} {i : ℕ} (v : Noting zs n xs i) (more : i < n) (few : n ≤ 8) where
    there : i < length (noted (manager_in zs) i)
    there = omega (arith, noted_eight (manager_in zs) i, routes_eight zs)

    still : route_at (noted_to (manager_in zs) i) i ≡ route_at (manager_in zs) i
    still = noted_later (manager_in zs) i i (omega arith)

    -- the route's word has its count
    pub noting_at : get_or xs (19 + 19 * i) 0 ≡ (route_at (manager_in zs) i).unrouted
    noting_at =
        ap (λ (l : List ℕ). get_or l (19 + 19 * i) 0) v.words
        ∙ unrouted_word (noted_to (manager_in zs) i) i there
        ∙ ap (λ (r : Route). r.unrouted) still

    -- which can rise
    pub noting_room : all_below (can_note (manager_in zs)) n ≡ true → get_or xs (19 + 19 * i) 0 ≡ 4294967295 → ⊥
    noting_room all e =
        let room : not (eqb (route_at (manager_in zs) i).unrouted 4294967295) ≡ true = below_each (can_note (manager_in zs)) n all i more in
        false≢true (sym (ap not (eq-eqb _ _ (sym noting_at ∙ e))) ∙ room)

    pub noting_turn : {ys : List ℕ} → ys ≡ set xs (19 + 19 * i) (get_or xs (19 + 19 * i) 0 + 1) → Noting zs n ys (i + 1)
    noting_turn e =
        let m = manager_in zs in
        record {
          below = omega arith;
          words =
              e
              ∙ (λ j. set (v.words j) (19 + 19 * i) (noting_at j + 1))
              ∙ counted_word (noted_to m i) i there ((route_at m i).unrouted + 1)
              ∙ ap (λ (r : Route). words_of (with_route (noted_to m i) i (with_unrouted r ((route_at m i).unrouted + 1)))) still
              ∙ ap (λ (k : ℕ). words_of (noted_to m k)) (sym (add-one i));
          number = ap length e ∙ length-set xs (19 + 19 * i) _ ∙ v.number;
        }

-- and then the time and the count of unrouted records
pub noted_words : (m : Manager) (t : ℕ) → set (set (words_of (noted_to m m.count)) 6 t) 7 (m.unrouted + 1)
    ≡ words_of (record { routes = noted m m.count; count = m.count; address = m.address; bias = m.bias; last = t; unrouted = m.unrouted + 1; set_times = m.set_times })
unfolding words_of
noted_words m t = refl

-- The ways out of a lost record: 19, or one more known loss.
module _ {xs : List ℕ} {i : ℕ} {r : Route} (at : ReadAt xs i r) (t compared : ℕ) where
  abbrev m : Manager
  m = manager_in xs

  pub lost_refused : r.losses ≡ 4294967295 → {o : Answer} → o ≡ refusal_of 19 0 → told o xs ≡ told_words (lost_or m t i compared)
  lost_refused z eo =
      let full : eqb (route_at m i).losses 4294967295 ≡ true = eq-eqb _ _ (ap (λ (q : Route). q.losses) (sym at.route) ∙ z) in
      (λ j. told (eo j) (sym (words_words xs at.number) j))
      ∙ ap (λ (b : Bool). told_words (cond b (refused 19 0 m) (lost_at m [] [] t i compared).outcome)) (sym full)

  pub lost_done : (r.losses ≡ 4294967295 → ⊥) → {c : Route} {o : Answer} {ys : List ℕ} → c ≡ lost_route r → o ≡ answered 3 i 0 0 compared
      → ys ≡ set (splice xs (17 + 19 * i) (changing_words c [])) 6 t → told o ys ≡ told_words (lost_or m t i compared)
  lost_done z {c} ec eo ey =
      let rises : eqb (route_at m i).losses 4294967295 ≡ false = ne_eqb _ _ (λ p. z (ap (λ (q : Route). q.losses) at.route ∙ p)) in
      let route : c ≡ lost_route (route_at m i) = ec ∙ ap lost_route at.route in
      (λ j. told (eo j) ((ey ∙ left_words xs at.number i at.there c (ap (λ (q : Route). q.settings) route) t) j))
      ∙ ap (λ (q : Route). told (answered 3 i 0 0 compared) (words_of (with_time (with_route m i q) t))) route
      ∙ ap (λ (b : Bool). told_words (cond b (refused 19 0 m) (lost_at m [] [] t i compared).outcome)) (sym rises)

-- And of an unrouted one: 19, or counted on every route and in all.
module _ (xs : List ℕ) (number : length xs ≡ 360) (t compared : ℕ) where
  pub unrouted_refused : unrouted_full (manager_in xs) ≡ true → {o : Answer} → o ≡ refusal_of 19 0 → told o xs ≡ told_words (unrouted_or (manager_in xs) t compared)
  unrouted_refused z eo =
      let n = manager_in xs in
      (λ j. told (eo j) (sym (words_words xs number) j))
      ∙ ap (λ (b : Bool). told_words (cond b (refused 19 0 n) (unrouted n [] [] t compared).outcome)) (sym z)

  pub unrouted_done : unrouted_full (manager_in xs) ≡ false → {k : ℕ} {o : Answer} {ys : List ℕ} → k ≡ (manager_in xs).count
      → o ≡ answered 4 255 0 0 compared → ys ≡ words_of (noted_to (manager_in xs) k) → told o (set (set ys 6 t) 7 ((manager_in xs).unrouted + 1)) ≡ told_words (unrouted_or (manager_in xs) t compared)
  unrouted_done z {k} {o} {ys} ek eo ey =
      let n = manager_in xs in
      (λ j. told (eo j) (set (set ((ey ∙ ap (λ (x : ℕ). words_of (noted_to n x)) ek) j) 6 t) 7 (n.unrouted + 1)))
      ∙ ap (told (answered 4 255 0 0 compared)) (noted_words n t)
      ∙ ap (λ (b : Bool). told_words (cond b (refused 19 0 n) (unrouted n [] [] t compared).outcome)) (sym z)

-- What is told of such a record is a way out of the event.
pub way_told : (xs store output : List ℕ) (event : Manager → After) → length xs ≡ 360 → {r : Answer} {ys : List ℕ} (o : Outcome) → told r ys ≡ told_words o
    → after o store output ≡ event (manager_in xs) → left r ys store output ≡ lent xs store output event
way_told xs store output event e o p q = (λ i. left (p i).answer (p i).words store output) ∙ right_number xs store output event e q
