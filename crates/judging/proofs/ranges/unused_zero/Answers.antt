use mathlib.Core.Path.{◌≡◌, refl, sym, ap, ◌∙◌}
use mathlib.Core.List.{List}
use Prim.Native.Nat.{ℕ, zero, suc, ◌+◌, ◌-◌, ◌*◌, ◌≤◌, ◌<◌}
use native.Mathlib.Omega.{arith}
use lib.ListN.{get_or}
use Rattle.state.specs.Bounds.{zero_from}
use Rattle.words.specs.Words.{settings_in}
use Rattle.judging.specs.Unused.{rest_zero, one_more, word_decides, word_not_zero, word_zero}
use Rattle.judging.proofs.ranges.unused_zero.Goals as goal

abbrev filter : List ℕ → List ℕ
filter xs = (settings_in xs).filter

-- the octets up to those of word k, and those of word k
zero_more : (xs : List ℕ) (n k : ℕ) → k < 5 → zero_from (filter xs) n (4 * (k + 1)) ≡ one_more (zero_from (filter xs) n (4 * k)) (get_or xs k 0) (4 * k) n
zero_more xs n zero h = refl
zero_more xs n (suc zero) h = refl
zero_more xs n (suc (suc zero)) h = refl
zero_more xs n (suc (suc (suc zero))) h = refl
zero_more xs n (suc (suc (suc (suc zero)))) h = refl
zero_more xs n (suc (suc (suc (suc (suc k))))) h = absurd (omega arith)

-- which is the answer where the words behind them are 0
module _ (xs : List ℕ) (n k : ℕ) (most : k ≤ 5) (some : 1 ≤ k) (left : zero_from (filter xs) n (4 * k) ≡ zero_from (filter xs) n 20) where
  told : one_more (zero_from (filter xs) n (4 * (k - 1))) (get_or xs (k - 1) 0) (4 * (k - 1)) n ≡ zero_from (filter xs) n 20
  told =
      let e : 4 * (k - 1 + 1) ≡ 4 * k = omega arith in
      sym (zero_more xs n (k - 1) (omega arith)) ∙ ap (zero_from (filter xs) n) e ∙ left

pub loop-k-init : goal.loop-k-init
loop-k-init c = record { some = omega arith; most = omega arith; left = refl }

pub returns-then-k-n : goal.returns-then-k-n
returns-then-k-n c =
    let xs = c.args.part.now in
    let l = c.loop-k in
    c.rest_zero.ensures
    ∙ word_decides (get_or xs (l.k - 1) 0) (4 * (l.k - 1)) c.args.n (filter xs) c.if-k-n.true
    ∙ told xs c.args.n l.k l.invariant.most (omega arith) l.invariant.left

pub returns-then-part-k-ne0 : goal.returns-then-part-k-ne0
returns-then-part-k-ne0 c =
    let xs = c.args.part.now in
    let l = c.loop-k in
    let n = c.args.n in
    word_not_zero (get_or xs (l.k - 1) 0) (4 * (l.k - 1)) n (zero_from (filter xs) n (4 * (l.k - 1))) (omega arith) c.if-part-k-ne0.true
    ∙ told xs n l.k l.invariant.most (omega arith) l.invariant.left

pub loop-k-preserved : goal.loop-k-preserved
loop-k-preserved c =
    let xs = c.args.part.now in
    let l = c.loop-k in
    let n = c.args.n in
    record {
      some = omega arith;
      most = omega (arith, l.invariant.most);
      left = word_zero (get_or xs (l.k - 1) 0) (4 * (l.k - 1)) n (zero_from (filter xs) n (4 * (l.k - 1))) (omega arith) c.if-part-k-ne0.false ∙ told xs n l.k l.invariant.most (omega arith) l.invariant.left;
    }

pub returns : goal.returns
returns c =
    let xs = c.args.part.now in
    let l = c.loop-k in
    let n = c.args.n in
    let one : 4 * 1 ≡ 4 * l.k = omega (arith, l.invariant.some) in
    let e : n ≡ n - 0 = omega arith in
    c.rest_zero-2.ensures
    ∙ ap (rest_zero (get_or xs 0 0)) e
    ∙ word_decides (get_or xs 0 0) 0 n (filter xs) (omega arith)
    ∙ told xs n 1 (omega arith) (omega arith) (ap (zero_from (filter xs) n) one ∙ l.invariant.left)
