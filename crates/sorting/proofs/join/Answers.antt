-- `sorting::join` meets its contract: the two parts that are lent are the first m and the rest.
use Rattle.std.proofs.Common.{◌≡◌, ◌-◌, ◌∙◌, arith, length, take, drop, length-drop, take_all}
use Rattle.recordorder.specs.At.{comes_before}
use Rattle.multisets.specs.Merge.{merge_of}
use Rattle.sorting.proofs.join.Goals as goal

pub returns : goal.returns
returns c =
    let a = c.args in
    let l = a.offsets.now in
    let n : a.m - 0 ≡ a.m = omega arith in
    let r : take (length l - a.m) (drop a.m l) ≡ drop a.m l = take_all (length l - a.m) (drop a.m l) (omega (arith, length-drop a.m l)) in
    c.copy.ensures ∙ c.merge.ensures ∙ (λ i. merge_of (comes_before a.file.now) (take (n i) l) (r i))
