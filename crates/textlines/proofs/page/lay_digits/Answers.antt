use Rattle.std.proofs.Common.{◌≡◌, sym, ap, ◌∙◌, arith, add-one, rules, List, [], ◌∷◌, ◌++◌, ℕ, ◌+◌, ◌*◌, ◌/◌, ◌%◌, ◌<◌, length, length-set, set, take, take-suc-set, get_or, append_assoc}
use Rattle.numerals.specs.Hexadecimal.{hex_digit, hex_of, hex_more}
use Rattle.textlines.proofs.page.lay_digits.Goals as goal

-- one more value behind the first k
one_more : (xs : List ℕ) (k v : ℕ) → k < length xs → take (k + 1) (set xs k v) ≡ take k xs ++ (v ∷ [])
one_more xs k v h = ap (λ (n : ℕ). take n (set xs k v)) (add-one k) ∙ take-suc-set xs k v h

-- the two digits of one octet more
pair_more : (slip xs : List ℕ) (i h l : ℕ) → i < length xs → 2 * i + 1 < length slip → h ≡ hex_digit (get_or xs i 0 / 16) → l ≡ hex_digit (get_or xs i 0 % 16)
    → take (i + i) slip ≡ hex_of (take i xs) → take (i + 1 + (i + 1)) (set (set slip (2 * i) h) (2 * i + 1) l) ≡ hex_of (take (i + 1) xs)
pair_more slip xs i h l inside room high low w =
    let first = set slip (2 * i) h in
    let end : i + 1 + (i + 1) ≡ 2 * i + 1 + 1 = omega arith in
    let twice : 2 * i ≡ i + i = omega arith in
    ap (λ (n : ℕ). take n (set first (2 * i + 1) l)) end
    ∙ one_more first (2 * i + 1) l (omega (arith, length-set slip (2 * i) h, room))
    ∙ ap (λ (ys : List ℕ). ys ++ (l ∷ [])) (one_more slip (2 * i) h (omega (arith, room)))
    ∙ append_assoc (take (2 * i) slip) (h ∷ []) (l ∷ [])
    ∙ ap (λ (n : ℕ). take n slip ++ (h ∷ l ∷ [])) twice
    ∙ (λ j. w j ++ (high j ∷ low j ∷ []))
    ∙ sym (hex_more xs i inside)

pub loop-i-preserved : goal.loop-i-preserved
loop-i-preserved c =
    let l = c.loop-i in
    let xs = c.args.octets.now in
    (search rules, pair_more l.slip xs l.i c.hex_digit.result c.hex_digit-in-loop-i.result c.loop-i-test.true (search rules) c.hex_digit.ensures c.hex_digit-in-loop-i.ensures l.invariant.1)
