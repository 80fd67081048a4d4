-- `octets::num` meets its contract: each octet more puts the number eight bits up, and what is left counts so much less. Assumes nothing.
use Rattle.std.proofs.Common.{◌≡◌, sym, ap, ◌∙◌, ℕ, suc, ◌+◌, ◌-◌, ◌*◌, ◌^◌, ◌<◌, List, get_or, add_assoc, mul_assoc, add-one, arith, lit<}
use Rattle.std.proofs.Math.Nat.{add-mul, pow-succ', pow-le-pow_right}
use Rattle.octets.specs.Number.{num}
use Rattle.octets.proofs.num.Goals as goal

-- with an octet more the number is below the next power
below : (n x i : ℕ) → n < 256 ^ i → x < 256 → n * 256 + x < 256 ^ (i + 1)
below n x i h o = rw (add-one i, pow-succ' 256 i) (omega (arith, h, o))

-- which 32 bits hold up to four octets
held : (n x i : ℕ) → n < 256 ^ i → x < 256 → i < 4 → n * 256 + x < 4294967296
held n x i h o l = omega (arith, below n x i h o, pow-le-pow_right {n = 256} (lit< tt) {i = i + 1} {j = 4} (omega (arith, l)))

-- and comes to the same with the octets that are left
moved : (n N i at x : ℕ) (s : List ℕ) → i < N → x ≡ get_or s (at + i) 0
    → (n * 256 + x) * 256 ^ (N - (i + 1)) + num (N - (i + 1)) s (at + (i + 1)) ≡ n * 256 ^ (N - i) + num (N - i) s (at + i)
moved n N i at x s l e =
    let m : ℕ = N - (i + 1) in
    let left : suc m ≡ N - i = omega (arith, l) in
    ap (λ (p : ℕ). p + num m s (at + (i + 1))) (add-mul (n * 256) x (256 ^ m) ∙ ap (λ (p : ℕ). p + x * 256 ^ m) (mul_assoc n 256 (256 ^ m) ∙ ap (λ (p : ℕ). n * p) (sym (pow-succ' 256 m))))
    ∙ add_assoc (n * 256 ^ suc m) (x * 256 ^ m) (num m s (at + (i + 1)))
    ∙ ap (λ (p : ℕ). n * 256 ^ suc m + (p * 256 ^ m + num m s (at + (i + 1)))) e
    ∙ ap (λ (k : ℕ). n * 256 ^ suc m + (get_or s (at + i) 0 * 256 ^ m + num m s k)) (sym (add_assoc at i 1))
    ∙ ap (λ (w : ℕ). n * 256 ^ w + num w s (at + i)) left

pub overflow_mul-n : goal.overflow_mul-n
overflow_mul-n g c =
    let l = c.loop-i in
    omega (arith, held l.n 0 l.i l.invariant.1 (lit< tt) (omega (arith, c.loop-i-test.true, c.requires.1)))

pub overflow_add-n : goal.overflow_add-n
overflow_add-n g c =
    let l = c.loop-i in
    let octet : c.from.result < 256 = omega (arith, c.from.ensures, c.type_inv.s (c.args.at + l.i)) in
    omega (arith, held l.n c.from.result l.i l.invariant.1 octet (omega (arith, c.loop-i-test.true, c.requires.1)))

pub loop-i-preserved : goal.loop-i-preserved
loop-i-preserved g c =
    let l = c.loop-i in
    let a = c.args in
    let octet : c.from.result < 256 = omega (arith, c.from.ensures, c.type_inv.s (a.at + l.i)) in (
      moved l.n g.row.N l.i a.at c.from.result a.s.now (omega (arith, c.loop-i-test.true)) c.from.ensures ∙ l.invariant.0,
      below l.n c.from.result l.i l.invariant.1 octet,
    )
