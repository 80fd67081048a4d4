-- A field pushed in from the right: a shift by k and an or with a number of k bits is a product and a sum, while the whole has at most 32 bits.
-- Assumes nothing.
use mathlib.Core.Path.{◌≡◌, ◌∙◌, ap}
use Prim.Native.Nat.{ℕ, ◌+◌, ◌*◌, ◌%◌, ◌^◌, ◌≤◌, ◌<◌}
use lib.Bits.{bit_or, or_shifted}
use lib.Pow.{shl_exact}

pub push : (j k : ℕ) {x a b : ℕ} → x ≡ a → a < 2 ^ j → b < 2 ^ k → j + k ≤ 32 → bit_or (x * 2 ^ k % 2 ^ 32) b ≡ a * 2 ^ k + b
push j k {x} {a} {b} e ha hb h =
    ap (λ (y : ℕ). bit_or (y * 2 ^ k % 2 ^ 32) b) e ∙ ap (λ (y : ℕ). bit_or y b) (shl_exact j k 32 ha h) ∙ or_shifted a k b hb
