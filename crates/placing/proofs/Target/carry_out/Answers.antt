-- `placing::Target::carry_out` meets its contract: where nothing closes, nothing is written over the output. Assumes nothing.
use Rattle.std.proofs.Common.{sym, ◌∙◌, true≢false}
use Rattle.octets.specs.Splice.{splice_nil}
use Rattle.placing.proofs.Target.carry_out.Goals as goal
use Rattle.placing.proofs.Target.carry_out.Goals.{then-is_some, else-is_some}

pub returns-else-taker : goal.returns-else-taker
returns-else-taker c =
    elim c.if-is_some.branch [
      | then-is_some w ↦ absurd (true≢false (sym w.if-is_some.true ∙ sym w.value-is ∙ c.if-taker.false))
      | else-is_some w ↦
          let turns = sym w.if-is_some.ensures in
          let fills = sym w.value-is ∙ c.if-taker.false in
          (c.append.ensures, rw (turns, fills) (sym (splice_nil _ _)))
    ]
