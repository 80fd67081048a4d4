-- `filename::writing::put_name` meets its contract: each way out is a case of the definition. Assumes nothing.
use Rattle.std.proofs.Common.{◌≡◌, sym, ◌∙◌, true, arith}
use Rattle.filename.specs.Name.{right}
use Rattle.filename.specs.Writing.{after, answered}
use Rattle.filename.specs.Cases.{right_node, right_private, node_short, private_short, write_wrong, write_short, write_done}
use Rattle.filename.proofs.writing.put_name.Goals as goal
use Rattle.filename.proofs.writing.put_name.Goals.{Else-not-is_right}

-- behind the first test the fields are right
passed : (c : goal.Else-not-is_right) → right c.args.f c.args.node.now c.args.private.now ≡ true
passed c = sym c.is_right.ensures ∙ c.if-not-is_right.false

pub returns-then-not-is_right : goal.returns-then-not-is_right
returns-then-not-is_right c =
    let a = c.args in
    write_wrong a.f a.node.now a.private.now a.output.now (sym c.is_right.ensures ∙ c.if-not-is_right.true)

pub length_of-octets-requires : goal.length_of-octets-requires
length_of-octets-requires c =
    let a = c.args in
    let e = passed c in
    (node_short a.node.now (right_node a.f a.node.now a.private.now e), private_short a.f.has a.private.now (right_private a.f a.node.now a.private.now e))

pub returns-then-output-octets : goal.returns-then-output-octets
returns-then-output-octets c =
    let a = c.args in
    write_short a.f a.node.now a.private.now a.output.now (passed (goal.at.returns-then-output-octets c).Else-not-is_right) (omega (arith, c.if-output-octets.true, c.length_of-octets.ensures.0))

pub returns : goal.returns
returns c =
    let a = c.args in
    let n = c.length_of-octets.ensures.0 in
    (λ i. after (answered 0 (n i)) (c.spell.ensures i))
    ∙ write_done a.f a.node.now a.private.now a.output.now (passed (goal.at.returns c).Else-not-is_right) (omega (arith, c.if-output-octets.false, n))
