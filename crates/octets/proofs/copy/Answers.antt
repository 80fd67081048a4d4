use Rattle.std.proofs.Common.{◌≡◌, ◌+◌, length, sym, ap, ◌∙◌, add-one, arith}
use Rattle.std.proofs.Math.Seq.{paste, paste-zero, paste-suc}
use Rattle.std.specs.Prelude.{set}
use Rattle.octets.specs.Splice.{splice_paste}
use Rattle.octets.proofs.copy.Goals as goal

pub loop-i-init : goal.loop-i-init
loop-i-init g c = paste-zero c.args.dst.now c.args.at c.args.src.now

pub loop-i-preserved : goal.loop-i-preserved
loop-i-preserved g c =
    let a = c.args in
    let i = c.loop-i.i in
    let z = c.index-src-i.result in
    (λ k. set (c.loop-i.invariant k) (a.at + i) (c.index-src-i.is k))
    ∙ paste-suc a.dst.now a.at a.src.now i z (omega arith) c.loop-i-test.true
    ∙ ap (paste a.dst.now a.at a.src.now) (sym (add-one i))

pub returns : goal.returns
returns g c =
    let a = c.args in
    let e : c.loop-i.i ≡ length a.src.now = omega arith in
    c.loop-i.invariant ∙ ap (paste a.dst.now a.at a.src.now) e ∙ sym (splice_paste a.dst.now a.at a.src.now)
