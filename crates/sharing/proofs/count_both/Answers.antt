use Rattle.std.proofs.Common.{◌<◌, sym, arith, length, length-drop, length-take, rules}
use Rattle.recordorder.specs.At.{record_at}
use Rattle.sharing.specs.Counting.{counting_less, counting_greater, counting_equal, counting_end}
use Rattle.sharing.proofs.count_both.Goals as goal

pub loop-x-preserved-in-Less : goal.loop-x-preserved-in-Less
loop-x-preserved-in-Less c =
    let a = c.args in
    let l = c.loop-x in
    record {
      few = simp (length-take, length-drop) (omega arith);
      counting = counting_less (record_at a.f.now) (record_at a.g.now) l.n _ l.x.now l.y.now l.invariant.counting (search rules) (search rules) (sym c.in-Less.ensures);
    }

pub loop-x-preserved-in-Greater : goal.loop-x-preserved-in-Greater
loop-x-preserved-in-Greater c =
    let a = c.args in
    let l = c.loop-x in
    record {
      few = l.invariant.few;
      counting = counting_greater (record_at a.f.now) (record_at a.g.now) l.n _ l.x.now l.y.now l.invariant.counting (search rules) (search rules) (sym c.in-Greater.ensures);
    }

pub loop-x-preserved : goal.loop-x-preserved
loop-x-preserved c =
    let a = c.args in
    let l = c.loop-x in
    let some : 0 < length l.x.now = search rules in
    record {
      few = simp (length-take, length-drop) (omega arith);
      counting = counting_equal (record_at a.f.now) (record_at a.g.now) l.n _ l.x.now l.y.now l.invariant.counting (search rules) (search rules) (sym c.in-Equal.ensures);
    }

pub returns-in_default-2 : goal.returns-in_default-2
returns-in_default-2 c =
    let a = c.args in
    let l = c.loop-x in
    counting_end (record_at a.f.now) (record_at a.g.now) l.n _ l.x.now l.y.now l.invariant.counting (search rules)
