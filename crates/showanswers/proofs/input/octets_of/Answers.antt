use Rattle.std.proofs.Common.{◌≡◌, sym, ap, ◌∙◌, arith, rules, List, [], ℕ, ◌-◌, ◌/◌, ◌%◌, ◌<◌, length, length-drop, take, take_all, drop, get_or}
use Rattle.std.specs.Simd.{first_chunks}
use Rattle.showanswers.proofs.Pairs.{octet_more, all_octets, begins}
use Rattle.showanswers.proofs.input.octets_of.Goals as goal

-- the digits are what stands behind the space
digits_are : (xs : List ℕ) → take (length xs - 1) (drop 1 xs) ≡ drop 1 xs
digits_are xs = take_all (length xs - 1) (drop 1 xs) (omega (arith, length-drop 1 xs))

pub loop-i-preserved : goal.loop-i-preserved
loop-i-preserved c =
    let l = c.loop-i in
    let xs = c.args.rest.now in
    let ys = drop 1 xs in
    let n : length c.as_chunks.result.0.now ≡ length ys / 2 = c.as_chunks.ensures.front_len ∙ ap (λ (y : List ℕ). length y / 2) (digits_are xs) in
    let front : c.as_chunks.result.0.now ≡ first_chunks 2 (length ys / 2) ys = c.as_chunks.ensures.front ∙ ap (λ (y : List ℕ). first_chunks 2 (length y / 2) y) (digits_are xs) in
    let pairs = ap (λ (ps : List (List ℕ)). get_or ps l.i []) front in
    let one = ap (λ (p : List ℕ). get_or p 0 0) (sym pairs) ∙ c.in_ok-digit_of.ensures.1 in
    let other = ap (λ (p : List ℕ). get_or p 1 0) (sym pairs) ∙ c.in_ok-octets-2.ensures.1 in
    octet_more l.octets ys l.i c.in_ok-digit_of.field-0 c.in_ok-octets-2.field-0 (search rules) (omega (arith, n, c.loop-i-test.true)) c.in_ok-octets-2.ensures.0 one other l.invariant

pub returns : goal.returns
returns c =
    let l = c.loop-i in
    let xs = c.args.rest.now in
    let ys = drop 1 xs in
    let n : length c.as_chunks.result.0.now ≡ length ys / 2 = c.as_chunks.ensures.front_len ∙ ap (λ (y : List ℕ). length y / 2) (digits_are xs) in
    let odd : length c.as_chunks.result.1.now ≡ length ys % 2 = c.as_chunks.ensures.back_len ∙ ap (λ (y : List ℕ). length y % 2) (digits_are xs) in
    let even : length c.as_chunks.result.1.now ≡ 0 = search rules in
    let some : 0 < length c.as_chunks.result.0.now = search rules in
    let len : length l.octets ≡ length c.as_chunks.result.0.now = search rules in
    let space : get_or xs 0 0 ≡ 32 = search rules in
    (begins xs _ 32 c.in-32.len_at_least space (all_octets l.octets ys l.i (omega (arith, len, c.loop-i-test.false)) (omega (arith, n, odd, even, c.loop-i-test.false)) l.invariant), omega (arith, some, len))
