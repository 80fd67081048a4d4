use Rattle.std.proofs.Common.{◌≡◌, sym, ap, ◌∙◌, ℕ, ◌+◌, ◌-◌, ◌/◌, ◌%◌, ◌^◌, ◌<◌, ◌≤◌, List, ◌∷◌, length, drop, set, add-one, arith, rules, length-set}
use Rattle.std.proofs.Math.Nat.{mul_comm, pow-succ', div-div-eq-div-mul, div-lt_iff_lt-mul, le-div_iff_mul-le}
use Rattle.std.proofs.lemmas.List.{drop-set}
use Rattle.numerals.specs.Decimal.{digits, ten_positive}
use Rattle.textlines.proofs.page.lay_number.Goals as goal

-- a digit more, in front of those that are laid
laid : (xs : List ℕ) (i n r : ℕ) → length xs ≡ 21 → i < 20 → drop (21 - i) xs ≡ digits i n → r ≡ n / 10 ^ i
    → drop (20 - i) (set xs (20 - i) (48 + r % 10)) ≡ digits (i + 1) n
laid xs i n r len l d e =
    let next : 20 - i + 1 ≡ 21 - i = omega (arith, l) in
    drop-set xs (20 - i) (48 + r % 10) (omega (arith, len, l))
    ∙ ap (λ (k : ℕ). (48 + r % 10) ∷ drop k xs) next
    ∙ (λ j. (48 + e j % 10) ∷ d j)
    ∙ ap (λ (w : ℕ). digits w n) (sym (add-one i))

-- what is left behind a digit more
left : (n r i : ℕ) → r ≡ n / 10 ^ i → r / 10 ≡ n / 10 ^ (i + 1)
left n r i e =
    ap (λ (q : ℕ). q / 10) e ∙ div-div-eq-div-mul n (10 ^ i) 10
    ∙ ap (λ (p : ℕ). n / p) (mul_comm (10 ^ i) 10 ∙ sym (pow-succ' 10 i) ∙ ap (λ (w : ℕ). 10 ^ w) (sym (add-one i)))

-- where nothing is left, so many digits are enough, and where something was, one less was not
enough : (n w : ℕ) → n / 10 ^ w ≡ 0 → n < 10 ^ w
enough n w e = omega (arith, (div-lt_iff_lt-mul {k = 10 ^ w} {x = n} {y = 1} (ten_positive w)).0 (omega (arith, e)))

needed : (n w : ℕ) → 0 < n / 10 ^ w → 10 ^ w ≤ n
needed n w h = omega (arith, (le-div_iff_mul-le {k = 10 ^ w} {x = 1} {y = n} (ten_positive w)).0 (omega (arith, h)))

pub returns-then-rest-eq0 : goal.returns-then-rest-eq0
returns-then-rest-eq0 c =
    let l = c.loop-i in
    let v = l.invariant in
    let n = c.args.number in
    let inside : l.i < 20 = omega (arith, c.loop-i-test.true) in
    let width : l.i + 1 ≡ 21 - (20 - l.i) = omega (arith, inside) in
    let before : l.i ≡ 20 - (20 - l.i) = omega (arith, inside) in
    let none : n / 10 ^ (l.i + 1) ≡ 0 = sym (left n l.rest l.i v.2) ∙ c.if-rest-eq0.true in (
      omega (arith, inside),
      omega arith,
      laid l.slip l.i n l.rest v.0 inside v.1 v.2 ∙ ap (λ (w : ℕ). digits w n) width,
      rw (sym width) (enough n (l.i + 1) none),
      λ h. rw (sym before) (needed n l.i (omega (arith, v.2, v.3 (omega (arith, h))))),
    )

pub loop-i-preserved : goal.loop-i-preserved
loop-i-preserved c =
    let l = c.loop-i in
    let v = l.invariant in
    let n = c.args.number in
    let inside : l.i < 20 = omega (arith, c.loop-i-test.true) in
    let at : 20 - l.i ≡ 21 - (l.i + 1) = omega arith in (
      length-set _ _ _ ∙ v.0,
      ap (λ (k : ℕ). drop k (set l.slip (20 - l.i) (48 + l.rest % 10))) (sym at) ∙ laid l.slip l.i n l.rest v.0 inside v.1 v.2,
      left n l.rest l.i v.2,
      λ h. search rules,
    )
