-- `numerals::digits` meets its contract: the digits are laid from the last on. Assumes nothing.
use Rattle.std.proofs.Common.{◌≡◌, sym, ap, ◌∙◌, ℕ, ◌+◌, ◌-◌, ◌/◌, ◌%◌, ◌^◌, ◌<◌, List, ◌∷◌, length, drop, set, add-one, arith, length-set}
use Rattle.std.proofs.Math.Nat.{mul_comm, pow-succ', div-div-eq-div-mul}
use Rattle.std.proofs.lemmas.List.{drop-set}
use Rattle.numerals.specs.Decimal.{digits}
use Rattle.numerals.proofs.digits.Goals as goal

-- a digit more, in front of those that are laid
laid : (xs : List ℕ) (N i n r : ℕ) → length xs ≡ N → i < N → drop (N - i) xs ≡ digits i n → r ≡ n / 10 ^ i
    → drop (N - (i + 1)) (set xs (N - 1 - i) (48 + r % 10)) ≡ digits (i + 1) n
laid xs N i n r len l d e =
    let at : N - (i + 1) ≡ N - 1 - i = omega arith in
    let next : N - 1 - i + 1 ≡ N - i = omega (arith, l) in
    ap (λ (k : ℕ). drop k (set xs (N - 1 - i) (48 + r % 10))) at
    ∙ drop-set xs (N - 1 - i) (48 + r % 10) (omega (arith, len, l))
    ∙ ap (λ (k : ℕ). (48 + r % 10) ∷ drop k xs) next
    ∙ (λ j. (48 + e j % 10) ∷ d j)
    ∙ ap (λ (w : ℕ). digits w n) (sym (add-one i))

left : (n r i : ℕ) → r ≡ n / 10 ^ i → r / 10 ≡ n / 10 ^ (i + 1)
left n r i e =
    ap (λ (q : ℕ). q / 10) e ∙ div-div-eq-div-mul n (10 ^ i) 10
    ∙ ap (λ (p : ℕ). n / p) (mul_comm (10 ^ i) 10 ∙ sym (pow-succ' 10 i) ∙ ap (λ (w : ℕ). 10 ^ w) (sym (add-one i)))

pub loop-i-preserved : goal.loop-i-preserved
loop-i-preserved g c =
    let l = c.loop-i in
    let v = l.invariant in (
      length-set _ _ _ ∙ v.0,
      laid l.digits g.row.N l.i c.args.n l.rest v.0 (omega (arith, c.loop-i-test.true)) v.1 v.2,
      left c.args.n l.rest l.i v.2,
    )
