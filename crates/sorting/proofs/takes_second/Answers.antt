-- `sorting::takes_second` meets its contract, by the cases of the choice.
use Rattle.std.proofs.Common.{sym, ◌∙◌, arith}
use Rattle.std.proofs.lemmas.Bool.{true≢false}
use Rattle.recordorder.specs.At.{comes_before}
use Rattle.multisets.specs.Merge.{second_none, second_only, second_less}
use Rattle.sorting.proofs.takes_second.Goals as goal

pub returns-then-y-j : goal.returns-then-y-j
returns-then-y-j c =
    let a = c.args in
    record {
      is = sym (second_none (comes_before a.file.now) a.x.now a.y.now a.i a.j (omega arith));
      second = λ e. absurd (true≢false (sym e));
      first = λ e. omega arith;
    }

pub returns-then-x-i : goal.returns-then-x-i
returns-then-x-i c =
    let a = c.args in
    record {
      is = sym (second_only (comes_before a.file.now) a.x.now a.y.now a.i a.j (omega arith) (omega arith));
      second = λ e. omega arith;
      first = λ e. absurd (true≢false e);
    }

pub returns : goal.returns
returns c =
    let a = c.args in
    record {
      is =
          c.is_before.ensures ∙ sym (second_less (comes_before a.file.now) a.x.now a.y.now a.i a.j (omega arith) (omega arith));
      second = λ e. omega arith;
      first = λ e. omega arith;
    }
