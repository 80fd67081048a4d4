-- `batch::take` meets its contract: each way out is a case of the definition. Assumes nothing.
use Rattle.std.proofs.Common.{◌≡◌, ◌≢◌, ℕ, [], Result, Ok, Err, sym, ap, ◌∙◌, refl, arith}
use Rattle.refusals.specs.declared.Refusal.{Refusal}
use Rattle.packets.specs.Packet.{counted}
use Rattle.batch.specs.Told.{answers_of}
use Rattle.batch.specs.Cases.{count_wrong, count_right, packet_wrong, packet_refused, other_words}
use Rattle.batch.proofs.take.Goals as goal

-- where a packet's records were not counted, it is 65
uncounted : (r : Result ℕ Refusal) → ((n : ℕ) → r ≢ Ok n) → counted r ≡ 65
uncounted (Ok n) h = absurd (h n refl)
uncounted (Err refusal) h = refl

pub returns-in_default : goal.returns-in_default
returns-in_default c =
    let a = c.args in
    let k : 65 ≡ counted c.count_of.result = sym (uncounted c.count_of.result c.in_default.not-Ok) in
    packet_wrong a.words.now a.store.now a.output.now a.packet.now (count_wrong a.packet.now (k ∙ c.count_of.ensures.count) refl) (c.untried.ensures ∙ ap (λ (k : ℕ). answers_of k 0 []) c.number.ensures)

pub returns-in_default-as_mut_array : goal.returns-in_default-as_mut_array
returns-in_default-as_mut_array c =
    let a = c.args in
    let other : c.in-Ok.n ≢ 65 = λ z. omega (arith, c.in-Ok.ensures.few) in
    let right = count_right a.packet.now c.in-Ok.ensures.count other in
    let o = other_words a.words.now a.store.now a.output.now (λ z. omega (arith, c.in_default-as_mut_array.ensures.cases)) in
    packet_refused a.words.now a.store.now a.output.now a.packet.now right.0 18 (λ z. omega arith) o.0 o.1 right.1 c.refused.ensures

pub take_in-requires : goal.take_in-requires
take_in-requires c =
    let other : c.in-Ok.n ≢ 65 = λ z. omega (arith, c.in-Ok.ensures.few) in
    count_right c.args.packet.now c.in-Ok.ensures.count other
