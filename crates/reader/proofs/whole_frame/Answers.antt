-- `reader::whole_frame` meets its contract: each way out is a case of refusal 8, or the header's frame. Assumes nothing.
use mathlib.Core.Path.{◌∙◌, sym}
use Rattle.reader.specs.Frame.{frame_short, frame_long, frame_unlike, frame_on}
use Rattle.reader.proofs.whole_frame.Goals as goal

pub returns-then-file-lt50 : goal.returns-then-file-lt50
returns-then-file-lt50 c = sym (frame_short _ c.if-file-lt50.true)

pub returns-then-file-gt1048576 : goal.returns-then-file-gt1048576
returns-then-file-gt1048576 c = sym (frame_long _ c.if-file-gt1048576.true)

pub returns-then-num-file : goal.returns-then-num-file
returns-then-num-file c = sym (frame_unlike _ (λ e. c.if-num-file.true (c.num.ensures ∙ e)))

pub returns : goal.returns
returns c =
    c.header_frame.ensures ∙ sym (frame_on _ c.if-file-lt50.false c.if-file-gt1048576.false (sym c.num.ensures ∙ c.if-num-file.false))
