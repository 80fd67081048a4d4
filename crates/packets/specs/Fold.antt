-- A packet taken (document 02, ask 8): one RECEIVE after another on the words, the store and the output, each lent what its predecessors left of
-- the output, up to the first that is refused; what was accepted before it stands. 11 for the whole packet comes first; a packet without
-- records tests 18, then 16, and changes nothing. Assumes nothing.
use Rattle.std.specs.Prelude.{cond, not, ◌||◌, List, [], ◌∷◌, ◌++◌, ℕ, zero, suc, ltb, eqb, length, take, drop}
use Rattle.refusals.specs.Refusal.{◌when◌, first}
use Rattle.state.specs.Manager.{regions}
use Rattle.state.specs.Bounds.{state_right}
use Rattle.words.specs.Words.{manager_in}
use Rattle.events.specs.declared.Answer.{Answer}
use Rattle.events.specs.Lent.{Left, receive_on}
use Rattle.packets.specs.Packet.{Delivered, wrong_packet, delivered}

-- what a packet answers and leaves: the refusal that stopped it or 0, how many were accepted, and each tried record's own answer
pub record Taken : Type 0 where
  pub refusal : ℕ
  pub accepted : ℕ
  pub answers : List Answer
  pub words : List ℕ
  pub store : List ℕ
  pub output : List ℕ

-- no record was tried
abbrev pub untried : ℕ → List ℕ → List ℕ → List ℕ → Taken
untried refusal words store output = record { refusal = refusal; accepted = 0; answers = []; words = words; store = store; output = output }

-- a record, by its refusal, before what comes of the others: refused it is the last; else they are lent the output behind its octets
abbrev pub before : ℕ → Left → Taken → Taken
before zero x rest =
    record {
      refusal = rest.refusal;
      accepted = suc rest.accepted;
      answers = x.answer ∷ rest.answers;
      words = rest.words;
      store = rest.store;
      output = take x.answer.octets x.output ++ rest.output;
    }
before (suc n) x rest =
    record { refusal = suc n; accepted = 0; answers = x.answer ∷ []; words = x.words; store = x.store; output = x.output }

abbrev pub received : Delivered → List ℕ → List ℕ → List ℕ → Left
received d words store output = receive_on words store output d.time d.arrival d.key d.body

abbrev pub take_all : List Delivered → List ℕ → List ℕ → List ℕ → Taken
take_all [] words store output = untried 0 words store output
take_all (d ∷ ds) words store output =
    before (received d words store output).answer.refusal (received d words store output)
    (take_all ds (received d words store output).words (received d words store output).store
    (drop (received d words store output).answer.octets (received d words store output).output))

-- without records: 18, then 16
abbrev pub empty_refusal : List ℕ → ℕ → ℕ
empty_refusal words store =
    first ((18 when (not (eqb (length words) 360) || not (state_right (manager_in words)))) ∷ (16 when ltb store (regions (manager_in words))) ∷ [])

abbrev pub listed_on : List Delivered → List ℕ → List ℕ → List ℕ → Taken
listed_on [] words store output = untried (empty_refusal words (length store)) words store output
listed_on (d ∷ ds) words store output = take_all (d ∷ ds) words store output

unfoldable pub packet_on : List ℕ → List ℕ → List ℕ → List ℕ → Taken
packet_on words store output packet = cond (wrong_packet packet) (untried 11 words store output) (listed_on (delivered packet) words store output)
