-- What the number of decimal digits is, as a loop over them finds it. Assumes nothing.
use Rattle.std.proofs.Common.{◌≡◌, refl, drop_of_length-le, lt-ltb, sym, ap, ◌∙◌, arith, Bool, true, false, cond, List, [], ◌∷◌, ℕ, ◌+◌, ◌-◌, ◌*◌, ◌^◌, ◌<◌, ◌≤◌, length, get_or, drop, None, Some}
use Rattle.std.proofs.lemmas.Bool.Decides.{nat_tests}
use Rattle.std.specs.Char.{digit_value}
use Rattle.std.proofs.lemmas.List.{drop_more}
use Rattle.textlines.specs.Decimal.{is_digit, value_behind, within_word, number_of}

-- std's digits are these
pub digit_is : (x : ℕ) → digit_value x < 10 → (is_digit x ≡ true) × (digit_value x ≡ x - 48)
digit_is x h = grind (arith, nat_tests)

-- a number that is too great stays so
pub too_great : (n : ℕ) (xs : List ℕ) → 2 ^ 32 ≤ n → within_word (value_behind n xs) ≡ None
too_great n [] h = grind (arith, nat_tests)
too_great n (x ∷ xs) h = more (is_digit x) (too_great (n * 10 + (x - 48)) xs (omega (arith, h)))
  where
    more : (b : Bool) → within_word (value_behind (n * 10 + (x - 48)) xs) ≡ None → within_word (cond b (value_behind (n * 10 + (x - 48)) xs) None) ≡ None
    more true e = e
    more false e = refl

-- one or more digits
pub of_some : (xs : List ℕ) → 0 < length xs → number_of xs ≡ within_word (value_behind 0 xs)
of_some [] h = absurd (omega (arith, h))
of_some (x ∷ xs) h = refl

-- a digit more makes it too great
pub digit_too_great : (n i x d : ℕ) (xs : List ℕ) → i < length xs → x ≡ get_or xs i 0 → digit_value x < 10 → d ≡ digit_value x → 2 ^ 32 ≤ n * 10 + d → value_behind n (drop i xs) ≡ value_behind 0 xs → number_of xs ≡ None
digit_too_great n i x d xs l e h v g w =
    let k = digit_is x h in
    let opened : value_behind n (drop i xs) ≡ value_behind (n * 10 + (x - 48)) (drop (i + 1) xs) =
    ap (value_behind n) (drop_more xs i 0 l) ∙ ap (λ (y : ℕ). value_behind n (y ∷ drop (i + 1) xs)) (sym e) ∙ ap (λ (b : Bool). cond b (value_behind (n * 10 + (x - 48)) (drop (i + 1) xs)) None) k.0 in
    of_some xs (omega (arith, l)) ∙ ap within_word (sym w ∙ opened) ∙ too_great (n * 10 + (x - 48)) (drop (i + 1) xs) (omega (arith, g, v, k.1))

-- no digits are left
pub none_left : (n i : ℕ) (xs : List ℕ) → 0 < length xs → length xs ≤ i → n < 2 ^ 32 → value_behind n (drop i xs) ≡ value_behind 0 xs → Some n ≡ number_of xs
none_left n i xs h l m w =
    sym (of_some xs h ∙ ap within_word (sym w ∙ ap (value_behind n) (drop_of_length-le xs l)) ∙ ap (λ (b : Bool). cond b (Some n) None) (lt-ltb n (2 ^ 32) m))
