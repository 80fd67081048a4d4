-- A refused event leaves every word, the store and the output as they were (document 01, Refusals; demand 1): of any words, of another number
-- than a state has too. Of the right number the definitions (Lent) have the state's words there, which are these words (words, Laws:
-- words-words). Assumes nothing.
use Rattle.std.specs.Prelude.{◌≡◌, ℕ, zero, suc, Bool, true, false, cond, List, length, ◌==◌, ◌≢◌}
use Rattle.std.proofs.Math.Path.{refl}
use Rattle.std.proofs.Common.{◌∙◌, eqb-true}
use Rattle.refusals.specs.Refusal.{first}
use Rattle.state.specs.Manager.{Manager}
use Rattle.state.specs.Manager.{effective, route_at}
use Rattle.filing.specs.Closing.{closed_size}
use Rattle.words.specs.Words.{manager_in, words_of}
use Rattle.words.specs.Laws.{words_words}
use Rattle.events.specs.declared.Arrival.{Arrival}
use Rattle.events.specs.Rules.{routed_to, compared_to}
use Rattle.events.specs.Events.{After, settled, open_rules, opened, open_of, close_rules, closed, close_of, due_size, tick_rules, ticked, tick_of}
use Rattle.events.specs.Receive.{is_lost, needed, receive_rules, lost_at, placed_at, unrouted, taken, receive_of}
use Rattle.events.specs.Lent.{Left, left, worded, unlike, lent, open_on, close_on, tick_on, receive_on}

-- refused, and nothing is another
abbrev pub Unchanged : List ℕ → List ℕ → List ℕ → Left → Type 0
Unchanged words store output l = (l.answer.refusal ≢ 0) → l ≡ left l.answer words store output

-- an event on a state, in the same sense
abbrev Kept : Manager → List ℕ → List ℕ → After → Type 0
Kept m store output a = (a.outcome.answer.refusal ≢ 0) → (a.outcome.manager ≡ m) × (a.store ≡ store) × (a.output ≡ output)

-- what an accepted event leaves has refusal 0
kept : (n needed : ℕ) (m : Manager) (store output : List ℕ) (done : After) → done.outcome.answer.refusal ≡ 0 → Kept m store output (settled n needed m store output done)
kept zero needed m store output done e h = absurd (h e)
kept (suc n) needed m store output done e h = (refl, refl, refl)

-- on words
unchanged : (words store output : List ℕ) (event : Manager → After) → Kept (manager_in words) store output (event (manager_in words)) → Unchanged words store output (lent words store output event)
unchanged words store output event k = go (length words == 360) refl
  where
    go : (b : Bool) → (length words == 360) ≡ b → Unchanged words store output (cond b (worded (event (manager_in words))) (unlike words store output))
    go true e h =
        let t = k h in
        let same = words_words words (eqb-true (length words) 360 e) in
        let a = event (manager_in words) in
        (λ i. left a.outcome.answer (words_of (t.0 i)) (t.1 i) (t.2 i)) ∙ (λ i. left a.outcome.answer (same i) store output)
    go false e h = refl

either_zero : (b : Bool) (x y : After) → x.outcome.answer.refusal ≡ 0 → y.outcome.answer.refusal ≡ 0 → (cond b x y).outcome.answer.refusal ≡ 0
either_zero true x y p q = p
either_zero false x y p q = q

module _ (words store output : List ℕ) (time : ℕ) where
  abbrev m : Manager
  m = manager_in words

  pub open_unchanged : (route : ℕ) → Unchanged words store output (open_on words store output time route)
  unfolding open_on open_of
  open_unchanged route =
      unchanged words store output (λ (q : Manager). open_of q store output time route)
      (kept (first (open_rules m (length store) time route)) 0 m store output (opened m store output time route) refl)

  pub close_unchanged : (route reason : ℕ) → Unchanged words store output (close_on words store output time route reason)
  unfolding close_on close_of
  close_unchanged route reason =
      unchanged words store output (λ (q : Manager). close_of q store output time route reason)
      (kept (first (close_rules m (length store) (length output) time route reason)) (closed_size (route_at m route)) m store output (closed m store output time route reason) refl)

  pub tick_unchanged : Unchanged words store output (tick_on words store output time)
  unfolding tick_on tick_of
  tick_unchanged =
      unchanged words store output (λ (q : Manager). tick_of q store output time)
      (kept (first (tick_rules m (length store) (length output) time)) (due_size m (effective m time) m.count) m store output (ticked m store output time) refl)

  pub receive_unchanged : (a : Arrival) (key body : List ℕ) → Unchanged words store output (receive_on words store output time a key body)
  unfolding receive_on receive_of
  receive_unchanged a key body =
      let t = effective m time in
      let i = (routed_to m a key).at in
      let n = compared_to m a key in
      let found = cond (is_lost m a i (length body)) (lost_at m store output t i n) (placed_at m store output t a body i n) in
      let zero = either_zero (is_lost m a i (length body)) (lost_at m store output t i n) (placed_at m store output t a body i n) refl refl in
      unchanged words store output (λ (q : Manager). receive_of q store output time a key body)
      (kept (first (receive_rules m (length store) (length output) time a key (length body))) (needed m a key (length body) t) m store output (taken m store output t a key body)
      (either_zero (routed_to m a key).found found (unrouted m store output t n) zero refl))
