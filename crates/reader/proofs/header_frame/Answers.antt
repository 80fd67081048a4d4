-- `reader::header_frame` meets its contract: each way out is a case of refusal 9 or the whole frame. Assumes nothing.
use mathlib.Core.Path.{◌≡◌, ◌∙◌, sym}
use Prim.Native.Nat.{◌+◌}
use native.Mathlib.Omega.{arith}
use Rattle.reader.specs.Places.{plain_length}
use Rattle.reader.specs.Frame.{over, under, plain_taken}
use Rattle.reader.proofs.header_frame.Goals as goal
use Rattle.reader.proofs.header_frame.Goals.{After-extensions_of-2}

-- the header's length without a private extension, as the code and as the definition add it
plain : (c : goal.After-extensions_of-2)
    → 50 + c.num-filter.result + (c.extensions_of.result + c.extensions_of-2.result) ≡ plain_length c.args.file.now
plain c = λ i. 50 + c.num-filter.ensures i + (c.extensions_of.ensures.0 i + c.extensions_of-2.ensures.0 i)

pub returns-then-file-header : goal.returns-then-file-header
returns-then-file-header c =
    let h = c.num-header.ensures in
    sym (over _ (omega (arith, c.if-file-header.true)))

pub returns-then-header-plain : goal.returns-then-header-plain
returns-then-header-plain c =
    let h = c.num-header.ensures in
    let p = plain (goal.at.returns-then-header-plain c).After-extensions_of-2 in
    sym (under _ (omega (arith, c.if-header-plain.true)))

pub returns : goal.returns
returns c =
    let h = c.num-header.ensures in
    let f = c.num-filter.ensures in
    let p = plain (goal.at.returns c).After-extensions_of-2 in
    (λ i. record { refusal = 0; header = h i; filter = f i; statement = 0; private = record { start = 50 + f i; octets = 0 } })
    ∙ sym (plain_taken _ (omega (arith, c.if-file-header.false)) (omega (arith, c.if-plain-header.false, c.if-header-plain.false)))
