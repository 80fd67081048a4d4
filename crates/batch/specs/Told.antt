-- What a packet answers, as the call hands it back (document 02, ask 8): 64 answers by value, zeros behind those of the tried records. Assumes
-- nothing.
use Rattle.std.specs.Prelude.{List, ◌++◌, ℕ, ◌-◌, length, replicate}
use Rattle.events.specs.declared.Answer.{Answer}
use Rattle.packets.specs.Fold.{Taken}
use Rattle.batch.specs.declared.Answers.{Answers}

abbrev pub no_answer : Answer
no_answer = record { refusal = 0; outcome = 0; route = 0; files = 0; compared = 0; octets = 0 }

-- answers, and zeros behind them up to 64
abbrev pub padded : List Answer → List Answer
padded tried = tried ++ replicate (64 - length tried) no_answer

abbrev pub answers_of : ℕ → ℕ → List Answer → Answers
answers_of refusal accepted tried = record { refusal = refusal; accepted = accepted; answers = padded tried }

-- an answer, and what is left of what was lent
pub record Told : Type 0 where
  pub answers : Answers
  pub words : List ℕ
  pub store : List ℕ
  pub output : List ℕ

abbrev pub told : Answers → List ℕ → List ℕ → List ℕ → Told
told answers words store output = record { answers = answers; words = words; store = store; output = output }

abbrev pub told_of : Taken → Told
told_of t = told (answers_of t.refusal t.accepted t.answers) t.words t.store t.output
