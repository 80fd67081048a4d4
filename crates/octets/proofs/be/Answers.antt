-- `octets::be` meets its contract: the octets are laid from the last on. Assumes nothing.
use Rattle.std.proofs.Common.{◌≡◌, sym, ap, ◌∙◌, ℕ, ◌+◌, ◌-◌, ◌/◌, ◌%◌, ◌^◌, ◌<◌, List, ◌∷◌, length, drop, set, add-one, arith, length-set}
use Rattle.std.proofs.Math.Nat.{mul_comm, pow-succ', div-div-eq-div-mul}
use Rattle.std.proofs.lemmas.List.{drop-set}
use Rattle.octets.specs.Number.{be}
use Rattle.octets.proofs.be.Goals as goal

-- an octet more, in front of those that are laid
laid : (xs : List ℕ) (N i n r : ℕ) → length xs ≡ N → i < N → drop (N - i) xs ≡ be i n → r ≡ n / 256 ^ i
    → drop (N - (i + 1)) (set xs (N - 1 - i) (r % 256)) ≡ be (i + 1) n
laid xs N i n r len l d e =
    let at : N - (i + 1) ≡ N - 1 - i = omega arith in
    let next : N - 1 - i + 1 ≡ N - i = omega (arith, l) in
    ap (λ (k : ℕ). drop k (set xs (N - 1 - i) (r % 256))) at
    ∙ drop-set xs (N - 1 - i) (r % 256) (omega (arith, len, l))
    ∙ ap (λ (k : ℕ). r % 256 ∷ drop k xs) next
    ∙ (λ j. e j % 256 ∷ d j)
    ∙ ap (λ (w : ℕ). be w n) (sym (add-one i))

left : (n r i : ℕ) → r ≡ n / 256 ^ i → r / 256 ≡ n / 256 ^ (i + 1)
left n r i e =
    ap (λ (q : ℕ). q / 256) e ∙ div-div-eq-div-mul n (256 ^ i) 256
    ∙ ap (λ (p : ℕ). n / p) (mul_comm (256 ^ i) 256 ∙ sym (pow-succ' 256 i) ∙ ap (λ (w : ℕ). 256 ^ w) (sym (add-one i)))

pub loop-i-preserved : goal.loop-i-preserved
loop-i-preserved g c =
    let l = c.loop-i in
    let v = l.invariant in (
      length-set _ _ _ ∙ v.0,
      laid l.octets g.row.N l.i c.args.n l.rest v.0 (omega (arith, c.loop-i-test.true)) v.1 v.2,
      left c.args.n l.rest l.i v.2,
    )
