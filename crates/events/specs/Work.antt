-- What one RECEIVE compares and what it writes, whatever the state, the store, the output and the arguments are. `receive_compared` is what document 02, ask 7
-- says of the octets of filters in the answer of the call, on any words: a refused RECEIVE has 0, one with mark 2 has 0, every other has the
-- count of its key (state, Compared), and none has more than the number of routes times the key's length. `receive_room`: the octets that an
-- accepted RECEIVE writes are no more than those of the output that it was lent (document 01, Refusals 17).
use Rattle.std.specs.Prelude.{◌≡◌, ℕ, zero, suc, ◌*◌, ◌≤◌, Bool, true, false, cond, not, ◌&&◌, ltb, List, [], ◌∷◌, length, ◌==◌, ◌≢◌, nat_lt}
use Rattle.std.proofs.Math.Path.{refl}
use Rattle.std.proofs.Common.{ap, ◌∙◌, arith, ltb-false, eq-eqb, ne_eqb}
use Rattle.refusals.specs.Refusal.{Rule, ◌when◌, first, passed}
use Rattle.state.specs.Manager.{Manager}
use Rattle.state.specs.Manager.{route_at, regions, effective}
use Rattle.state.specs.Bounds.{state_right}
use Rattle.state.specs.Compared.{compared_for, compared_most}
use Rattle.words.specs.Words.{manager_in}
use Rattle.events.specs.declared.Answer.{Answer}
use Rattle.events.specs.declared.Arrival.{Arrival}
use Rattle.events.specs.Rules.{wrong_fields, routed_to, compared_to}
use Rattle.events.specs.Events.{After, refusal_of, settled}
use Rattle.events.specs.Receive.{is_lost, placed_size, counters_full, lost_at, placed_at, unrouted, needed, receive_rules, taken, receive_of}
use Rattle.events.specs.Lent.{worded, unlike, receive_on}

-- The answer to a RECEIVE of this arrival and key, on this state, has the count of compared octets that ask 7 wants.
pub record ComparedRight (m : Manager) (a : Arrival) (key : List ℕ) (answer : Answer) : Type 0 where
  -- refused, whatever the number
  pub refused : (answer.refusal ≢ 0) → answer.compared ≡ 0
  -- mark 2: nothing is to be trusted, and nothing is compared
  pub marked : a.mark ≡ 2 → answer.compared ≡ 0
  -- every other
  pub counted : answer.refusal ≡ 0 → (a.mark ≢ 2) → answer.compared ≡ compared_for m key
  -- what a record costs at most
  pub most : answer.compared ≤ m.count * length key

module _ (m : Manager) (a : Arrival) (key : List ℕ) where
  refused_right : (n needed : ℕ) → ComparedRight m a key (refusal_of (suc n) needed)
  refused_right n needed = record { refused = λ h. refl; marked = λ two. refl; counted = λ z two. absurd (omega arith); most = omega arith }

  to_most : compared_to m a key ≤ m.count * length key
  to_most = go (a.mark == 2)
    where
      go : (b : Bool) → cond b 0 (compared_for m key) ≤ m.count * length key
      go true = omega arith
      go false = compared_most m key

  counted_right : (x : Answer) → (x.refusal ≡ 0) × (x.compared ≡ compared_to m a key) → ComparedRight m a key x
  counted_right x e =
      record {
        refused = λ h. absurd (h e.0);
        marked = λ two. e.1 ∙ ap (λ (b : Bool). cond b 0 (compared_for m key)) (eq-eqb a.mark 2 two);
        counted = λ z two. e.1 ∙ ap (λ (b : Bool). cond b 0 (compared_for m key)) (ne_eqb a.mark 2 two);
        most = omega (arith, e.1, to_most);
      }

module _ (m : Manager) (store output : List ℕ) (time : ℕ) (a : Arrival) (key body : List ℕ) where
  abbrev done : After
  done = taken m store output (effective m time) a key body

  -- unrouted, lost or placed: the count is that of the key
  taken_is : (done.outcome.answer.refusal ≡ 0) × (done.outcome.answer.compared ≡ compared_to m a key)
  taken_is = go (routed_to m a key).found (is_lost m a (routed_to m a key).at (length body))
    where
      by : (found lost : Bool) → After
      by found lost =
          cond found
          (cond lost
          (lost_at m store output (effective m time) (routed_to m a key).at (compared_to m a key))
          (placed_at m store output (effective m time) a body (routed_to m a key).at (compared_to m a key)))
          (unrouted m store output (effective m time) (compared_to m a key))

      go : (found lost : Bool) → ((by found lost).outcome.answer.refusal ≡ 0) × ((by found lost).outcome.answer.compared ≡ compared_to m a key)
      go true true = (refl, refl)
      go true false = (refl, refl)
      go false lost = (refl, refl)

  -- the refusal in its answer is the first rule's that applies
  pub receive_first : (receive_of m store output time a key body).outcome.answer.refusal ≡ first (receive_rules m (length store) (length output) time a key (length body))
  unfolding receive_of
  receive_first = go (first (receive_rules m (length store) (length output) time a key (length body)))
    where
      go : (n : ℕ) → (settled n (needed m a key (length body) (effective m time)) m store output done).outcome.answer.refusal ≡ n
      go zero = taken_is.0
      go (suc n) = refl

  -- on a state
  state_compared : ComparedRight m a key (receive_of m store output time a key body).outcome.answer
  unfolding receive_of
  state_compared = go (first (receive_rules m (length store) (length output) time a key (length body)))
    where
      go : (n : ℕ) → ComparedRight m a key (settled n (needed m a key (length body) (effective m time)) m store output done).outcome.answer
      go zero = counted_right m a key done.outcome.answer taken_is
      go (suc n) = refused_right m a key n (needed m a key (length body) (effective m time))

  -- the bound alone
  pub receive_most : (receive_of m store output time a key body).outcome.answer.compared ≤ m.count * length key
  receive_most = state_compared.most

-- Of the call: on any words. Words of another number than a state has get 18, a refusal like the others.
pub receive_compared : (words store output : List ℕ) (time : ℕ) (a : Arrival) (key body : List ℕ)
    → ComparedRight (manager_in words) a key (receive_on words store output time a key body).answer
unfolding receive_on
receive_compared words store output time a key body = go (length words == 360)
  where
    go : (b : Bool)
        → ComparedRight (manager_in words) a key (cond b (worded (receive_of (manager_in words) store output time a key body)) (unlike words store output)).answer
    go true = state_compared (manager_in words) store output time a key body
    go false = refused_right (manager_in words) a key 17 0

-- An accepted RECEIVE wrote no more than the output that it was lent: 17 does not apply.
module _ (m : Manager) (store output : List ℕ) (time : ℕ) (a : Arrival) (key body : List ℕ) where
  abbrev octets_in : After → ℕ
  octets_in x = x.outcome.answer.octets

  abbrev t : ℕ
  t = effective m time

  -- what is written is what is needed
  taken_octets : octets_in (taken m store output t a key body) ≡ needed m a key (length body) t
  taken_octets = go (routed_to m a key).found (is_lost m a (routed_to m a key).at (length body))
    where
      go : (found lost : Bool)
          → octets_in
          (cond found
          (cond lost (lost_at m store output t (routed_to m a key).at (compared_to m a key)) (placed_at m store output t a body (routed_to m a key).at (compared_to m a key)))
          (unrouted m store output t (compared_to m a key)))
          ≡ cond (found && not lost) (placed_size (route_at m (routed_to m a key).at) a (length body) t) 0
      go true true = refl
      go true false = refl
      go false lost = refl

  pub receive_room : (receive_of m store output time a key body).outcome.answer.refusal ≡ 0 → octets_in (receive_of m store output time a key body) ≤ length output
  unfolding receive_of
  receive_room z = go (first (receive_rules m (length store) (length output) time a key (length body))) refl z
    where
      last : List Rule
      last = (17 when ltb (length output) (needed m a key (length body) t)) ∷ []

      go : (n : ℕ) → first (receive_rules m (length store) (length output) time a key (length body)) ≡ n
          → (settled n (needed m a key (length body) t) m store output (taken m store output t a key body)).outcome.answer.refusal ≡ 0
          → octets_in (settled n (needed m a key (length body) t) m store output (taken m store output t a key body)) ≤ length output
      go zero e q =
          let r19 : Rule = 19 when counters_full m a key (length body) in
          let r5 : Rule = 5 when wrong_fields a (length key) in
          let r4 : Rule = 4 when ltb 52595999 time in
          let p18 = passed 17 (not (state_right m)) ((16 when ltb (length store) (regions m)) ∷ r4 ∷ r5 ∷ r19 ∷ last) e in
          let p16 = passed 15 (nat_lt (length store) (regions m)) (r4 ∷ r5 ∷ r19 ∷ last) p18.1 in
          let p4 = passed 3 (nat_lt 52595999 time) (r5 ∷ r19 ∷ last) p16.1 in
          let p5 = passed 4 (wrong_fields a (length key)) (r19 ∷ last) p4.1 in
          let p19 = passed 18 (counters_full m a key (length body)) last p5.1 in
          let p17 = passed 16 (nat_lt (length output) (needed m a key (length body) t)) [] p19.1 in
          omega (arith, taken_octets, ltb-false (length output) (needed m a key (length body) t) p17.0)
      go (suc n) e q = absurd (omega arith)
