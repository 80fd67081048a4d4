-- `reconcile::share_in` meets its contract: the two lists are arranged, and the walk counts what they share.
use Rattle.std.proofs.Common.{◌≡◌, length, take, length-take, arith}
use Rattle.reconcile.specs.Shares.{most_first, most_second, shares}
use Rattle.reconcile.proofs.share_in.Goals as goal

pub overflow_sub-result : goal.overflow_sub-result
overflow_sub-result g c =
    let a = c.args in
    let p = c.arrange-n in
    omega (arith, most_first a.f.file.now a.f.start a.g.file.now a.g.start _ _ p.ensures.1 c.arrange-m.ensures.1, c.count_both-both.ensures, length-take p.result p.new.out)

pub overflow_sub-result-2 : goal.overflow_sub-result-2
overflow_sub-result-2 g c =
    let a = c.args in
    let q = c.arrange-m in
    omega (arith, most_second a.f.file.now a.f.start a.g.file.now a.g.start _ _ c.arrange-n.ensures.1 q.ensures.1, c.count_both-both.ensures, length-take q.result q.new.out)

pub returns : goal.returns
returns g c =
    let a = c.args in
    let p = c.arrange-n in
    let q = c.arrange-m in
    let n : p.result ≡ length (take p.result p.new.out) = simp length-take (omega arith) in
    let m : q.result ≡ length (take q.result q.new.out) = simp length-take (omega arith) in
    shares a.f.file.now a.f.start a.g.file.now a.g.start _ _ p.ensures.1 q.ensures.1 p.result q.result c.count_both-both.result n m c.count_both-both.ensures
