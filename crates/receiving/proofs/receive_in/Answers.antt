-- `receiving::receive_in` meets its contract: 18 and 16 are refused, and what was judged is taken. Assumes nothing.
use Rattle.std.proofs.Common.{rules, ◌≡◌, [], length, Err, refl}
use Rattle.refusals.specs.Refusal.{first}
use Rattle.refusals.specs.Number.{number}
use Rattle.state.specs.Common.{judged, judged_common}
use Rattle.words.specs.Words.{manager_in}
use Rattle.events.specs.Receive.{receive_of}
use Rattle.events.specs.Lent.{receive_on}
use Rattle.events.specs.Answering.{number_some, way_judged}
use Rattle.receiving.specs.Cases.{receive_common}
use Rattle.receiving.proofs.receive_in.Goals as goal

pub returns-in_err-judge_state : goal.returns-in_err-judge_state
unfolding receive_on
returns-in_err-judge_state c =
    let a = c.args in
    let m = manager_in a.words.now in
    let r = c.in_err-judge_state.field-0.0 in
    let q : c.from_residual.result ≡ Err r = search rules in
    let n : number r ≡ first (judged m (length a.store.now) []) = c.in_err-judge_state.ensures in
    rw q (way_judged a.words.now a.store.now a.output.now (λ k. receive_of k a.store.now a.output.now a.time a.a a.key.now a.body.now) c.told-words (judged m (length a.store.now) []) refl r n
    (receive_common m a.store.now a.output.now a.time a.a a.key.now a.body.now (judged_common m (length a.store.now) a.time n (number_some r)) (number_some r)))
