-- `filename::reading::value_at` meets its contract: each digit more puts the number one place up, and what is left counts so much less. Assumes nothing.
use Rattle.std.proofs.Common.{◌≡◌, sym, ap, ◌∙◌, ℕ, suc, ◌+◌, ◌-◌, ◌*◌, ◌^◌, ◌≤◌, ◌<◌, List, get_or, add_assoc, mul_assoc, add-one, arith}
use Rattle.std.proofs.Math.Nat.{add-mul, pow-succ'}
use Rattle.filename.specs.Reading.{value_at}
use Rattle.filename.proofs.reading.value_at.Goals as goal

-- with a digit more it comes to the same with those that are left
moved : (v w i k x : ℕ) (xs : List ℕ) → i < w → x ≡ get_or xs (k + i) 0 - 48
    → (v * 10 + x) * 10 ^ (w - (i + 1)) + value_at (w - (i + 1)) xs (k + (i + 1)) ≡ v * 10 ^ (w - i) + value_at (w - i) xs (k + i)
moved v w i k x xs l e =
    let m : ℕ = w - (i + 1) in
    let left : suc m ≡ w - i = omega (arith, l) in
    ap (λ (p : ℕ). p + value_at m xs (k + (i + 1))) (add-mul (v * 10) x (10 ^ m) ∙ ap (λ (p : ℕ). p + x * 10 ^ m) (mul_assoc v 10 (10 ^ m) ∙ ap (λ (p : ℕ). v * p) (sym (pow-succ' 10 m))))
    ∙ add_assoc (v * 10 ^ suc m) (x * 10 ^ m) (value_at m xs (k + (i + 1)))
    ∙ ap (λ (p : ℕ). v * 10 ^ suc m + (p * 10 ^ m + value_at m xs (k + (i + 1)))) e
    ∙ ap (λ (n : ℕ). v * 10 ^ suc m + ((get_or xs (k + i) 0 - 48) * 10 ^ m + value_at m xs n)) (sym (add_assoc k i 1))
    ∙ ap (λ (n : ℕ). v * 10 ^ n + value_at n xs (k + i)) left

-- however great the octets are
grows : (v i x : ℕ) → v + 23 ≤ 23 * 10 ^ i → x ≤ 207 → v * 10 + x + 23 ≤ 23 * 10 ^ (i + 1)
grows v i x h k = rw (add-one i, pow-succ' 10 i) (omega (arith, h, k))

pub loop-i-preserved : goal.loop-i-preserved
loop-i-preserved c =
    let a = c.args in
    let l = c.loop-i in
    let v = l.invariant in
    let digit : c.from.result ≡ get_or a.name.now (a.k + l.i) 0 - 48 = c.from.ensures ∙ c.saturating_sub-digit.ensures ∙ ap (λ (o : ℕ). o - 48) c.octet_at.ensures in
    let few : c.from.result ≤ 207 = omega (arith, c.from.ensures, c.saturating_sub-digit.ensures, c.octet_at.type_inv) in
    (moved l.value a.w l.i a.k c.from.result a.name.now (omega (arith, c.loop-i-test.true)) digit ∙ v.0, grows l.value l.i c.from.result v.1 few)
