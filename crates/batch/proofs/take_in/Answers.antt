-- `batch::take_in` meets its contract: 18 and 16 are refused, and what was judged is taken. Assumes nothing.
use Rattle.std.proofs.Common.{◌≡◌, [], ◌∷◌, ltb, cond, length, sym, ap, ◌∙◌, refl}
use Rattle.refusals.specs.Refusal.{first}
use Rattle.refusals.specs.Number.{number}
use Rattle.state.specs.Common.{judged}
use Rattle.words.specs.Words.{manager_in}
use Rattle.events.specs.declared.Answer.{Answer}
use Rattle.events.specs.Answering.{number_some, no_octets}
use Rattle.batch.specs.Told.{answers_of}
use Rattle.batch.specs.Cases.{packet_refused, packet_taken, judged_words, judged_passed}
use Rattle.batch.proofs.take_in.Goals as goal

pub take_all-requires : goal.take_all-requires
take_all-requires c = (sym c.in-Ok.ensures, c.requires.0, c.requires.1)

pub returns-in-Ok : goal.returns-in-Ok
returns-in-Ok c =
    let a = c.args in
    c.take_all.ensures
    ∙ packet_taken a.words.now a.store.now a.output.now a.packet.now c.requires.0
    (judged_passed a.words.now a.store.now a.output.now c.told-words c.in-Ok.ensures refl)

pub returns-in-Err : goal.returns-in-Err
returns-in-Err c =
    let a = c.args in
    let r = c.in-Err.refusal in
    let rules = judged (manager_in a.words.now) (length a.store.now) [] in
    let n : number r ≡ first rules = c.in-Err.ensures in
    let o = judged_words a.words.now a.store.now a.output.now c.told-words n (number_some r) in
    packet_refused a.words.now a.store.now a.output.now a.packet.now c.requires.0 (number r) (number_some r) o.0 o.1 c.requires.1
    (c.refused.ensures ∙ ap (λ (x : Answer). answers_of (number r) 0 (cond (ltb 0 a.n) (x ∷ []) [])) (no_octets rules refl r n))
