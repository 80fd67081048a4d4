-- The events on a state that is lent as words (words, Words.antt), of any content and length: what the four calls promise. Words of
-- another number than a state has are outside its bounds (document 01, Refusals: 18), and stay as they are, as store and output do. Of
-- the right number they stand for a state, the event is carried out on it (Events, Receive), and its words are left: the same words
-- where it is refused, since words and state determine each other (words, Laws). Assumes nothing.
use Rattle.std.specs.Prelude.{ℕ, cond, List, length, ◌==◌}
use Rattle.state.specs.Manager.{Manager}
use Rattle.words.specs.Words.{manager_in, words_of}
use Rattle.events.specs.declared.Answer.{Answer}
use Rattle.events.specs.declared.Arrival.{Arrival}
use Rattle.events.specs.Events.{After, refusal_of, open_of, close_of, tick_of}
use Rattle.events.specs.Receive.{receive_of}

-- what an event answers, and leaves of what it was lent
pub record Left : Type 0 where
  pub answer : Answer
  pub words : List ℕ
  pub store : List ℕ
  pub output : List ℕ

abbrev pub left : Answer → List ℕ → List ℕ → List ℕ → Left
left answer words store output = record { answer = answer; words = words; store = store; output = output }

abbrev pub worded : After → Left
worded a = left a.outcome.answer (words_of a.outcome.manager) a.store a.output

-- 18, and everything stays
abbrev pub unlike : List ℕ → List ℕ → List ℕ → Left
unlike words store output = left (refusal_of 18 0) words store output

abbrev pub lent : List ℕ → List ℕ → List ℕ → (Manager → After) → Left
lent words store output event = cond (length words == 360) (worded (event (manager_in words))) (unlike words store output)

unfoldable pub open_on : List ℕ → List ℕ → List ℕ → ℕ → ℕ → Left
open_on words store output time route = lent words store output (λ m. open_of m store output time route)

unfoldable pub close_on : List ℕ → List ℕ → List ℕ → ℕ → ℕ → ℕ → Left
close_on words store output time route reason = lent words store output (λ m. close_of m store output time route reason)

unfoldable pub tick_on : List ℕ → List ℕ → List ℕ → ℕ → Left
tick_on words store output time = lent words store output (λ m. tick_of m store output time)

unfoldable pub receive_on : List ℕ → List ℕ → List ℕ → ℕ → Arrival → List ℕ → List ℕ → Left
receive_on words store output time a key body = lent words store output (λ m. receive_of m store output time a key body)
