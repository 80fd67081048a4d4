-- The ledger's part in a packet (document 02, ask 8): its records are booked one after another as RECEIVEs, each fed the length of what its
-- predecessors' files left of the output; the first that is refused is the last that is tried, and what was booked before it stands.
-- First of all 11, by the packet's octets alone; a packet without records is judged by the store's length (16) and changes nothing. 18
-- never applies. What a packet's octets say is shared with the manager's side (packets, Packet.antt). Assumes nothing.
use Rattle.std.specs.Prelude.{cond, List, [], ◌∷◌, ◌++◌, ℕ, zero, suc, ◌-◌, ltb}
use Rattle.refusals.specs.Refusal.{◌when◌, first}
use Rattle.events.specs.declared.Answer.{Answer}
use Rattle.packets.specs.Packet.{Delivered, wrong_packet, delivered}
use Rattle.ledger.specs.Event.{as_receive}
use Rattle.ledger.specs.Ledger.{Ledger, Entry, lengths, regions, refusal, answer_of, entry_of}

-- what the ledger says of a packet: the refusal that stopped it or 0, how many records were accepted, the answer of each that was tried, and
-- the ledger behind them with all files that they closed
pub record Packed : Type 0 where
  pub refusal : ℕ
  pub accepted : ℕ
  pub answers : List Answer
  pub entry : Entry

-- no record is tried, and the ledger stays
abbrev pub nothing : ℕ → Ledger → Packed
nothing n l = record { refusal = n; accepted = 0; answers = []; entry = record { ledger = l; closings = [] } }

-- a record, by its refusal, and behind it, if it is accepted, the others
abbrev pub and_then : ℕ → Answer → Entry → Packed → Packed
and_then zero answer e others =
    record {
      refusal = others.refusal;
      accepted = suc others.accepted;
      answers = answer ∷ others.answers;
      entry = record { ledger = others.entry.ledger; closings = e.closings ++ others.entry.closings };
    }
and_then (suc n) answer e others = record { refusal = suc n; accepted = 0; answers = answer ∷ []; entry = e }

abbrev pub receives_each : Ledger → ℕ → ℕ → List Delivered → Packed
receives_each l store output [] = nothing 0 l
receives_each l store output (d ∷ ds) =
    and_then (refusal l store output (as_receive d)) (answer_of l store output (as_receive d)) (entry_of l store output (as_receive d))
    (receives_each (entry_of l store output (as_receive d)).ledger store (output - lengths (entry_of l store output (as_receive d)).closings) ds)

abbrev pub receives_list : Ledger → ℕ → ℕ → List Delivered → Packed
receives_list l store output [] = nothing (first ((16 when ltb store (regions l.lines)) ∷ [])) l
receives_list l store output (d ∷ ds) = receives_each l store output (d ∷ ds)

abbrev pub packet_of : Ledger → ℕ → ℕ → List ℕ → Packed
packet_of l store output xs = cond (wrong_packet xs) (nothing 11 l) (receives_list l store output (delivered xs))
