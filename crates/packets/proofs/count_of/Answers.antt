-- `packets::count_of` meets its contract: the walk is the definition's, from record to record. Assumes nothing.
use Rattle.std.proofs.Common.{◌≡◌, ℕ, Result, Ok, Err, IsErr, refl, ◌∙◌, arith}
use Rattle.std.proofs.lemmas.Bool.{false≢true}
use Rattle.refusals.specs.declared.Refusal.{Refusal}
use Rattle.packets.specs.Packet.{counted}
use Rattle.packets.proofs.Walk.{rest_begins, rest_ends, rest_many, rest_cut, rest_on}
use Rattle.packets.proofs.count_of.Goals as goal

-- a refusal counts as 65
refused : (r : Result ℕ Refusal) → IsErr r → counted r ≡ 65
refused (Ok n) e = absurd (false≢true e)
refused (Err r) e = refl

pub loop-n-init : goal.loop-n-init
loop-n-init c = rest_begins c.args.packet.now

pub returns-then-is_empty-clause-count : goal.returns-then-is_empty-clause-count
returns-then-is_empty-clause-count c = rest_ends c.loop-n.invariant c.if-is_empty.ensures

pub returns-in_err-rest-clause-count : goal.returns-in_err-rest-clause-count
returns-in_err-rest-clause-count c =
    refused c.from_residual.result c.from_residual.ensures.0
    ∙ rest_cut c.loop-n.invariant c.if-is_empty.ensures c.loop-n-test.true c.in_err-rest.ensures.cut.1

pub loop-n-preserved : goal.loop-n-preserved
loop-n-preserved c =
    let whole = c.in_ok-rest.ensures.whole in
    rest_on c.loop-n.invariant c.if-is_empty.ensures c.loop-n-test.true whole.0 whole.1

pub returns-then-is_empty-2-clause-count : goal.returns-then-is_empty-2-clause-count
returns-then-is_empty-2-clause-count c =
    let all : 64 ≡ c.loop-n.n = omega (arith, c.loop-n-test.false, c.loop-n.auto.n-end) in
    all ∙ rest_ends c.loop-n.invariant c.if-is_empty-2.ensures

pub returns-else-is_empty-2-clause-count : goal.returns-else-is_empty-2-clause-count
returns-else-is_empty-2-clause-count c =
    rest_many c.loop-n.invariant c.if-is_empty-2.ensures (omega (arith, c.loop-n-test.false, c.loop-n.auto.n-end))
