-- What an event answers where it may refuse (document 01, Refusals): an accepted event's own answer, or its refusal's. And the ways out of an event
-- on words (Ways) by such a refusal. Assumes nothing.
use Rattle.std.specs.Prelude.{◌≡◌, ℕ, Bool, true, false, cond, List, length, ◌==◌, ◌≢◌, nat_eq, Result, Ok, Err}
use Rattle.std.proofs.Common.{sym, ap, ◌∙◌, arith}
use Rattle.refusals.specs.declared.Refusal.{Refusal}
use Rattle.refusals.specs.Refusal.{Rule, first}
use Rattle.refusals.specs.Number.{number, needed, number_positive}
use Rattle.state.specs.Manager.{Manager}
use Rattle.words.specs.Words.{manager_in}
use Rattle.events.specs.declared.Answer.{Answer}
use Rattle.events.specs.Events.{After, after, refusal_of, refused}
use Rattle.events.specs.Lent.{left, lent}
use Rattle.events.specs.Ways.{way_refused}
use Rattle.events.specs.Cases.{plain, first_other}

abbrev pub answer_of : Result Answer Refusal → Answer
answer_of (Ok answer) = answer
answer_of (Err r) = refusal_of (number r) (needed r)

-- a refusal's number is not 0
pub number_some : (r : Refusal) → number r ≢ 0
number_some r z = omega (arith, number_positive r)

-- one of a list without 17 needs no octets
pub no_octets : (rs : List Rule) → plain rs ≡ true → (r : Refusal) → number r ≡ first rs → refusal_of (number r) (needed r) ≡ refusal_of (number r) 0
no_octets rs p r e =
    let other : (number r == 17) ≡ false = ap (λ (k : ℕ). nat_eq k 17) e ∙ first_other rs p in
    λ i. record { refusal = number r; outcome = 0; route = 0; files = 0; compared = 0; octets = (ap (λ (b : Bool). cond b (needed r) 0) other ∙ sym (ap (λ (b : Bool). cond b 0 0) other)) i }

-- the event refuses by one of a list without 17: the words are as they were
pub way_judged : (words store output : List ℕ) (event : Manager → After) → length words ≡ 360 → (rs : List Rule) → plain rs ≡ true → (r : Refusal) → number r ≡ first rs
    → after (refused (number r) 0 (manager_in words)) store output ≡ event (manager_in words) → left (refusal_of (number r) (needed r)) words store output ≡ lent words store output event
way_judged words store output event e rs p r q z = way_refused words store output event e (number r) 0 (no_octets rs p r q) z
