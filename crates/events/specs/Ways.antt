-- The ways out of an event on words (Lent): words of another number, a refusal, and a change of one route and the time. Assumes
-- nothing.
use Rattle.std.specs.Prelude.{◌≡◌, ℕ, ◌+◌, ◌*◌, ◌<◌, cond, List, [], length, ◌≢◌, slice_set}
use Rattle.std.proofs.Common.{sym, ap, ◌∙◌, eq-eqb, ne_eqb}
use Rattle.octets.specs.Splice.{splice}
use Rattle.state.specs.declared.Route.{Route}
use Rattle.state.specs.Manager.{Manager}
use Rattle.state.specs.Manager.{settings_at}
use Rattle.words.specs.Words.{manager_in, changing_words}
use Rattle.words.specs.Laws.{words_words, left_words}
use Rattle.events.specs.declared.Answer.{Answer}
use Rattle.events.specs.Events.{After, after, refusal_of, refused, answered, changed}
use Rattle.events.specs.Lent.{left, worded, unlike, lent}

module _ (words store output : List ℕ) (event : Manager → After) where
  pub other_number : (length words ≢ 360) → {r : Answer} → r ≡ refusal_of 18 0 → left r words store output ≡ lent words store output event
  other_number n e =
      ap (λ (r : Answer). left r words store output) e
      ∙ sym (λ i. cond (ne_eqb (length words) 360 n i) (worded (event (manager_in words))) (unlike words store output))

  module _ (e : length words ≡ 360) where
    -- what the event leaves on the state, as words
    pub right_number : {a : After} → a ≡ event (manager_in words) → worded a ≡ lent words store output event
    right_number p = ap worded p ∙ sym (λ i. cond (eq-eqb (length words) 360 e i) (worded (event (manager_in words))) (unlike words store output))

    -- refused: the words are as they were
    pub way_refused : (n needed : ℕ) {r : Answer} {store' output' : List ℕ} → r ≡ refusal_of n needed
        → after (refused n needed (manager_in words)) store' output' ≡ event (manager_in words) → left r words store' output' ≡ lent words store output event
    way_refused n needed {store' = store'} {output' = output'} p q = (λ i. left (p i) (sym (words_words words e) i) store' output') ∙ right_number q

    -- accepted: one route and the time are others
    pub way_changed : (i : ℕ) → i < 8 → (r : Route) → r.settings ≡ settings_at (manager_in words) i → (t outcome files octets compared : ℕ)
        → {answer : Answer} {words' store' output' : List ℕ} → answer ≡ answered outcome i files octets compared
        → words' ≡ slice_set (splice words (17 + 19 * i) (changing_words r [])) 6 t
        → after (changed (manager_in words) t i r outcome files octets compared) store' output' ≡ event (manager_in words)
        → left answer words' store' output' ≡ lent words store output event
    way_changed i h r s t outcome files octets compared {store' = store'} {output' = output'} p q z =
        (λ j. left (p j) ((q ∙ left_words words e i h r s t) j) store' output') ∙ right_number z
