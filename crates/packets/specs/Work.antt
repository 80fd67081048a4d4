-- What the records of a packet compare (document 02, asks 7 and 8). Each answer of a packet counts octets of filters as the answer of a single RECEIVE
-- does (events, Work: `ComparedRight`), by the words that the packet was lent, whatever the records before it did: a refused record has 0, one
-- with mark 2 has 0, every other has the count of its key, and none has more than the number of routes times the key's length.
-- The answers belong to the first records of the packet, in order, one to each that was tried.
use Rattle.std.specs.Prelude.{refl, Bool, true, false, cond, List, [], ◌∷◌, ℕ, zero, suc, ◌*◌, ◌≤◌, length, drop}
use Rattle.std.proofs.Common.{◌∙◌, subst}
use Rattle.state.specs.Manager.{Manager}
use Rattle.words.specs.Words.{manager_in}
use Rattle.events.specs.declared.Answer.{Answer}
use Rattle.events.specs.declared.Arrival.{Arrival}
use Rattle.events.specs.Lent.{Left}
use Rattle.events.specs.Work.{ComparedRight, receive_compared}
use Rattle.events.specs.SameWork.{SameWork, receive_same_work}
use Rattle.packets.specs.Packet.{Delivered, wrong_packet, delivered}
use Rattle.packets.specs.Fold.{Taken, untried, before, received, take_all, listed_on, packet_on}

-- the answers belong to the first records of the list, one to each, and each has the right count on this state; there is no answer without a record
abbrev pub AllCompared : Manager → List Delivered → List Answer → Type 0
AllCompared m ds [] = Unit {0}
AllCompared m [] (x ∷ answers) = ⊥
AllCompared m (d ∷ ds) (x ∷ answers) = ComparedRight m d.arrival d.key x × AllCompared m ds answers

-- A count that is right on a state is right on one with the same work.
module _ {m m' : Manager} (s : SameWork m m') where
  compared_on_lem : {a : Arrival} {key : List ℕ} {x : Answer} → ComparedRight m' a key x → ComparedRight m a key x
  compared_on_lem {key = key} {x = x} c =
      record {
        refused = c.refused;
        marked = c.marked;
        counted = λ z two. c.counted z two ∙ s.compared key;
        most = subst (λ (n : ℕ). x.compared ≤ n * length key) s.count c.most;
      }

  same_on : {m'' : Manager} → SameWork m' m'' → SameWork m m''
  same_on t = record { count = t.count ∙ s.count; compared = λ key. t.compared key ∙ s.compared key }

all_compared : (m : Manager) (ds : List Delivered) (words store output : List ℕ) → SameWork m (manager_in words) → AllCompared m ds (take_all ds words store output).answers
all_compared m [] words store output s = tt
all_compared m (d ∷ ds) words store output s =
    let x = received d words store output in
    let rest = take_all ds x.words x.store (drop x.answer.octets x.output) in
    let one = receive_compared words store output d.time d.arrival d.key d.body in
    let next = receive_same_work words store output d.time d.arrival d.key d.body in
    go x.answer.refusal x rest (compared_on_lem s one) (all_compared m ds x.words x.store (drop x.answer.octets x.output) (same_on s next))
  where
    go : (n : ℕ) (x : Left) (rest : Taken) → ComparedRight m d.arrival d.key x.answer → AllCompared m ds rest.answers → AllCompared m (d ∷ ds) (before n x rest).answers
    go zero x rest one others = (one, others)
    go (suc n) x rest one others = (one, tt)

pub packet_compared : (words store output xs : List ℕ) → AllCompared (manager_in words) (delivered xs) (packet_on words store output xs).answers
unfolding packet_on
packet_compared words store output xs = go (wrong_packet xs) (delivered xs)
  where
    go : (b : Bool) (ds : List Delivered) → AllCompared (manager_in words) ds (cond b (untried 11 words store output) (listed_on ds words store output)).answers
    go true ds = tt
    go false [] = tt
    go false (d ∷ ds) = all_compared (manager_in words) (d ∷ ds) words store output (record { count = refl; compared = λ key. refl })
