-- `timestamp::octets_of` meets its contract: each way out is a case of the definition.
-- The timestamp that is packed fits its bits, since it is right. Assumes nothing.
use mathlib.Core.Path.{sym, ap, subst, ◌∙◌}
use native.Mathlib.Omega.{arith}
use Rattle.octets.specs.Number.{be, be_bytes}
use Rattle.timestamp.specs.declared.Timestamp.{Timestamp}
use Rattle.timestamp.specs.Timestamp.{Narrow, word_of}
use Rattle.timestamp.specs.LocalTime.{timestamp_narrow}
use Rattle.timestamp.specs.Stamp.{stamp_late, stamp_beyond, stamp_done}
use Rattle.timestamp.proofs.octets_of.Goals as goal

pub returns-then-minutes-gt52595999 : goal.returns-then-minutes-gt52595999
returns-then-minutes-gt52595999 c = sym (stamp_late c.args.minutes c.args.bias (omega arith))

pub returns-then-bias-gt2878 : goal.returns-then-bias-gt2878
returns-then-bias-gt2878 c = sym (stamp_beyond c.args.minutes c.args.bias (omega arith) (omega arith))

pub pack-requires : goal.pack-requires
pack-requires c =
    let a = c.args in
    subst (λ (t : Timestamp). Narrow t) (sym c.at.ensures) (timestamp_narrow a.minutes a.bias (omega arith) (omega arith))

pub returns : goal.returns
returns c =
    let a = c.args in
    let octets = c.to_be_bytes.ensures ∙ be_bytes c.pack.result ∙ ap (be 4) (c.pack.ensures ∙ ap word_of c.at.ensures) in
    (λ i. record { refusal = 0; octets = octets i }) ∙ sym (stamp_done a.minutes a.bias (omega arith) (omega arith))
