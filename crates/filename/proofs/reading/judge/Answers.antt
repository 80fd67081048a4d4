-- `filename::reading::judge` meets its contract: each way out is a case of the definition. Assumes nothing.
use Rattle.std.proofs.Common.{◌≡◌, sym, ap, ◌∙◌, true, take}
use Rattle.std.proofs.lemmas.Slice.Eq.{slice_eq-Decides}
use Rattle.std.proofs.lemmas.Bool.Decides.{Decides-eqb}
use Rattle.filename.specs.Name.{right, spelled}
use Rattle.filename.specs.Reading.{same}
use Rattle.filename.specs.Cases.{right_node, right_private, node_short, private_short, spelled_there, same_told, judged_wrong, judged_other, judged_named}
use Rattle.filename.proofs.reading.judge.Goals as goal
use Rattle.filename.proofs.reading.judge.Goals.{After-eq, After-spell, Else-not-is_right}

-- behind the first test the fields are right
passed : (c : goal.Else-not-is_right) → right c.args.f c.args.node.now c.args.private.now ≡ true
passed c = sym c.is_right.ensures ∙ c.if-not-is_right.false

-- the first octets of the buffer are the spelling
there : (c : goal.After-spell) → take c.length_of-n.result c.spell.new.output ≡ spelled c.args.f c.args.node.now c.args.private.now
there c =
    let a = c.args in
    spelled_there a.f a.node.now a.private.now _ c.spell.new.output c.length_of-n.result c.spell.ensures c.length_of-n.ensures.0

-- so what was compared is the definition's comparison
compared : (c : goal.After-eq) → same c.args.name.now (spelled c.args.f c.args.node.now c.args.private.now) ≡ c.eq.result
compared c =
    let a = c.args in
    ap (same a.name.now) (sym (spelled_there a.f a.node.now a.private.now _ c.spell.new.output c.length_of-n.result c.spell.ensures c.length_of-n.ensures.0))
    ∙ same_told _ _ _ (slice_eq-Decides Decides-eqb _ _ _ c.eq.ensures)

pub returns-then-not-is_right : goal.returns-then-not-is_right
returns-then-not-is_right c =
    let a = c.args in
    judged_wrong a.name.now a.f a.node.now a.private.now (sym c.is_right.ensures ∙ c.if-not-is_right.true)

pub length_of-n-requires : goal.length_of-n-requires
length_of-n-requires c =
    let a = c.args in
    let e = passed c in
    (node_short a.node.now (right_node a.f a.node.now a.private.now e), private_short a.f.has a.private.now (right_private a.f a.node.now a.private.now e))

pub returns-then-eq : goal.returns-then-eq
returns-then-eq c =
    let a = c.args in
    judged_named a.name.now a.f a.node.now a.private.now (passed (goal.at.returns-then-eq c).Else-not-is_right) (compared (goal.at.returns-then-eq c).After-eq ∙ c.if-eq.true)

pub returns-else-eq : goal.returns-else-eq
returns-else-eq c =
    let a = c.args in
    judged_other a.name.now a.f a.node.now a.private.now (passed (goal.at.returns-else-eq c).Else-not-is_right) (compared (goal.at.returns-else-eq c).After-eq ∙ c.if-eq.false)
