-- A chunk of a list's beginning is a part of the list. Assumes nothing.
use Rattle.std.specs.Prelude.{◌≡◌, List, [], ℕ, zero, suc, ◌+◌, ◌-◌, ◌*◌, ◌≤◌, ◌<◌, get_or, take, drop}
use Rattle.std.specs.Simd.{first_chunks}
use Rattle.std.proofs.Common.{sym, ap, ◌∙◌, arith}
use Rattle.std.proofs.lemmas.List.{take-take, drop-take, drop-drop}

pub chunk_at : (n k m : ℕ) (xs : List ℕ) (i : ℕ) → n * k ≤ m → i < k
    → get_or (first_chunks n k (take m xs)) i [] ≡ take n (drop (n * i) xs)
chunk_at n zero m xs i h l = absurd (omega arith)
chunk_at n (suc k) m xs zero h l =
    let e : n * 0 ≡ 0 = omega arith in
    take-take n m xs (omega arith) ∙ ap (λ (j : ℕ). take n (drop j xs)) (sym e)
chunk_at n (suc k) m xs (suc i) h l =
    let e : n + (m - n) ≡ m = omega arith in
    let f : n + n * i ≡ n * suc i = omega arith in
    ap (λ (l : List ℕ). get_or (first_chunks n k l) i []) (ap (λ (j : ℕ). drop n (take j xs)) (sym e) ∙ drop-take n (m - n) xs)
    ∙ chunk_at n k (m - n) (drop n xs) i (omega arith) (omega arith)
    ∙ ap (take n) (drop-drop (n * i) n xs ∙ ap (λ (j : ℕ). drop j xs) f)
