-- `filename::reading::name_in` meets its contract: node identifier, running count and the rest are taken from the places of the definition. Assumes nothing.
use Rattle.std.proofs.Common.{◌≡◌, ◌∙◌, subst, ℕ, ◌+◌, ◌<◌, false, Some, Result, Ok, Err, arith}
use Rattle.std.specs.Result.{OkIff, is_ok, result_ok}
use Rattle.std.proofs.lemmas.Bool.{false≢true}
use Rattle.filename.specs.Reading.{before, value_at, count_place, count_length}
use Rattle.filename.specs.Cases.{read_beyond, read_made}
use Rattle.filename.proofs.reading.name_in.Goals as goal
use Rattle.filename.proofs.reading.name_in.Goals.{After-value_at}

-- what a narrower number says, and what one that does not fit
held : {E : Type 0} (r : Result ℕ E) (n k : ℕ) → OkIff r (n < 4294967296) n → Some k ≡ result_ok r → k ≡ n
held (Ok x) n k e s = cc
held (Err d) n k e s = cc

beyond : {E : Type 0} (r : Result ℕ E) (n : ℕ) → OkIff r (n < 4294967296) n → false ≡ is_ok r → 4294967295 < n
beyond (Ok x) n e s = absurd (false≢true s)
beyond (Err d) n e s = omega (arith, e)

digits_are : (c : goal.After-value_at) → c.before_stop-digits.result ≡ count_length c.args.name.now
digits_are c = c.before_stop-digits.ensures.0 ∙ (λ i. before 46 c.args.name.now (c.before_stop-node.ensures.0 i + 3) 10)

counted : (c : goal.After-value_at) → c.value_at.result ≡ value_at (count_length c.args.name.now) c.args.name.now (count_place c.args.name.now)
counted c = c.value_at.ensures.0 ∙ (λ i. value_at (digits_are c i) c.args.name.now (c.before_stop-node.ensures.0 i + 3))

pub returns-in_err-count : goal.returns-in_err-count
returns-in_err-count c = rw c.from_residual.ensures (read_beyond c.args.name.now
    (subst (λ (n : ℕ). 4294967295 < n) (counted (goal.at.returns-in_err-count c).After-value_at) (beyond c.try_from.result c.value_at.result c.try_from.ensures c.in_err-count.ensures.variant)))

pub returns : goal.returns
returns c =
    let v = (goal.at.returns c).After-value_at in
    read_made c.args.name.now _ c.fields_at-f.result c.before_stop-node.result c.before_stop-digits.result c.in_ok-count.count
    c.min-start.result c.min-end.result c.before_stop-node.ensures.0 (digits_are v)
    (held c.try_from.result c.value_at.result c.in_ok-count.count c.try_from.ensures c.in_ok-count.ensures.value ∙ counted v)
    c.fields_at-f.ensures c.min-start.ensures c.min-end.ensures c.judge.ensures
