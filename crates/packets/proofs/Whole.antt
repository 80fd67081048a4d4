-- When a packet is refused with 11 (document 02, ask 8): exactly when it is not the octets of at most 64 records. `packet_right` says it of the packet
-- alone, and `packet_eleven` of what the call answers, on any words, store and output: nothing else gets a packet an 11, since no RECEIVE is
-- refused with it, and a packet without records tests only 18 and 16. A packet's numbers are octets, as those that the call is lent are.
use Rattle.std.specs.Prelude.{◌≡◌, refl, Bool, cond, not, ◌||◌, List, [], ◌∷◌, ◌↔◌, ℕ, zero, suc, ◌+◌, ◌≤◌, ltb, eqb, length, drop}
use Rattle.std.proofs.Common.{sym, ap, ◌∙◌, length-take}
use Rattle.std.proofs.Math.Bool.{true, false}
use native.Mathlib.Omega.{arith}
use Rattle.std.proofs.lemmas.Bool.{not-false}
use Rattle.refusals.specs.Refusal.{◌when◌, first}
use Rattle.octets.specs.Number.{Octets, num_lt, octets_drop}
use Rattle.state.specs.Manager.{regions, effective}
use Rattle.state.specs.Bounds.{state_right}
use Rattle.words.specs.Words.{manager_in}
use Rattle.events.specs.Rules.{wrong_fields}
use Rattle.events.specs.Receive.{counters_full, needed, receive_of}
use Rattle.events.specs.Lent.{worded, unlike, receive_on}
use Rattle.events.specs.Work.{receive_first}
use Rattle.packets.specs.Packet.{Delivered, key_length, body_length, size_of, first_of, whole, records_in, wrong_packet, delivered, packet_octets}
use Rattle.packets.specs.Laws.{Roomy, AllRoomy, read_back, packet_whole}
use Rattle.packets.proofs.Walk.{records_few}
use Rattle.packets.specs.Fold.{Taken, untried, before, received, take_all, listed_on, packet_on}

-- xs are the octets of at most 64 records, each of which has room in a packet
pub record OfRecords (xs : List ℕ) : Type 0 where
  pub records : List Delivered
  pub roomy : AllRoomy records
  pub few : length records ≤ 64
  pub octets : packet_octets records ≡ xs

-- What is read out of octets has room in a packet.
first_roomy : {xs : List ℕ} → Octets xs → Roomy (first_of xs)
first_roomy {xs} o =
    record {
      time = num_lt o 4 0;
      key = omega (arith, length-take (key_length xs) (drop 15 xs), o.at 5);
      body = omega (arith, length-take (body_length xs) (drop (15 + key_length xs) xs), num_lt o 4 11);
    }

records_roomy : (n : ℕ) {xs : List ℕ} → Octets xs → AllRoomy (records_in n xs)
records_roomy zero o = tt
records_roomy (suc n) {xs} o = go (eqb (length xs) 0) (records_roomy n (octets_drop (size_of xs) o))
  where
    go : (b : Bool) → AllRoomy (records_in n (drop (size_of xs) xs)) → AllRoomy (cond b [] (first_of xs ∷ records_in n (drop (size_of xs) xs)))
    go true rest = tt
    go false rest = (first_roomy o, rest)

-- The packet alone.
pub packet_right : {xs : List ℕ} → Octets xs → (wrong_packet xs ≡ false) ↔ OfRecords xs
unfolding wrong_packet
packet_right {xs} o = (there, back)
  where
    there : not (whole 64 xs) ≡ false → OfRecords xs
    there e = record { records = records_in 64 xs; roomy = records_roomy 64 o; few = records_few 64 xs; octets = packet_whole 64 o (not-false (whole 64 xs) e) }

    back : OfRecords xs → not (whole 64 xs) ≡ false
    back r = ap (λ (l : List ℕ). not (whole 64 l)) (sym r.octets) ∙ ap not (read_back r.records r.roomy 64 r.few).0

-- No RECEIVE is refused with 11, nor is a packet without records: their rules have other numbers.
others : (a b c d e f : Bool) → first ((18 when a) ∷ (16 when b) ∷ (4 when c) ∷ (5 when d) ∷ (19 when e) ∷ (17 when f) ∷ []) ≡ 11 → ⊥
others true b c d e f n = omega arith
others false true c d e f n = omega arith
others false false true d e f n = omega arith
others false false false true e f n = omega arith
others false false false false true f n = omega arith
others false false false false false true n = omega arith
others false false false false false false n = omega arith

module _ (words store output : List ℕ) where
  receive_other : (d : Delivered) → (received d words store output).answer.refusal ≡ 11 → ⊥
  unfolding receive_on
  receive_other d = go (eqb (length words) 360)
    where
      go : (b : Bool)
          → (cond b (worded (receive_of (manager_in words) store output d.time d.arrival d.key d.body)) (unlike words store output)).answer.refusal ≡ 11 → ⊥
      go true e =
          let m = manager_in words in
          let room = needed m d.arrival d.key (length d.body) (effective m d.time) in
          others (not (state_right m)) (ltb (length store) (regions m)) (ltb 52595999 d.time) (wrong_fields d.arrival (length d.key))
          (counters_full m d.arrival d.key (length d.body)) (ltb (length output) room)
          (sym (receive_first m store output d.time d.arrival d.key d.body) ∙ e)
      go false e = omega arith

all_other : (ds : List Delivered) (words store output : List ℕ) → (take_all ds words store output).refusal ≡ 11 → ⊥
all_other [] words store output e = omega arith
all_other (d ∷ ds) words store output e =
    let x = received d words store output in
    let rest = take_all ds x.words x.store (drop x.answer.octets x.output) in
    go x.answer.refusal rest (receive_other words store output d) (all_other ds x.words x.store (drop x.answer.octets x.output)) e
  where
    go : (n : ℕ) (rest : Taken) → (n ≡ 11 → ⊥) → (rest.refusal ≡ 11 → ⊥) → (before n (received d words store output) rest).refusal ≡ 11 → ⊥
    go zero rest h k e = k e
    go (suc n) rest h k e = h e

listed_other : (ds : List Delivered) (words store output : List ℕ) → (listed_on ds words store output).refusal ≡ 11 → ⊥
listed_other [] words store output =
    others (not (eqb (length words) 360) || not (state_right (manager_in words))) (ltb (length store) (regions (manager_in words))) false false false false
listed_other (d ∷ ds) words store output = all_other (d ∷ ds) words store output

-- The call's answer.
pub packet_eleven : (words store output : List ℕ) {xs : List ℕ} → Octets xs → ((packet_on words store output xs).refusal ≡ 11) ↔ (OfRecords xs → ⊥)
unfolding packet_on
packet_eleven words store output {xs} o = (λ e r. there ((packet_right o).1 r) e, λ none. go (wrong_packet xs) refl none)
  where
    by : Bool → Taken
    by b = cond b (untried 11 words store output) (listed_on (delivered xs) words store output)

    there : wrong_packet xs ≡ false → (by (wrong_packet xs)).refusal ≡ 11 → ⊥
    there p e = listed_other (delivered xs) words store output (sym (ap (λ (b : Bool). (by b).refusal) p) ∙ e)

    go : (b : Bool) → wrong_packet xs ≡ b → (OfRecords xs → ⊥) → (by b).refusal ≡ 11
    go true p none = refl
    go false p none = absurd (none ((packet_right o).0 p))
