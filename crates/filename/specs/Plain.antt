-- Letters and digits octet by octet from the first on, and as `plain` has them, from the last on: one answer. Assumes nothing.
use Rattle.std.specs.Prelude.{◌≡◌, refl, Bool, true, false, ◌&&◌, List, [], ◌∷◌, ℕ, zero, suc, length, get_or}
use Rattle.std.specs.List.{list_all}
use Rattle.std.proofs.Common.{sym, ap, ◌∙◌}
use Rattle.filename.specs.Name.{letter_or_digit, plain}

and_assoc : (a b c : Bool) → a && (b && c) ≡ (a && b) && c
and_assoc true b c = refl
and_assoc false b c = refl

and_true : (a : Bool) → a ≡ a && true
and_true true = refl
and_true false = refl

plain_front : (x : ℕ) (xs : List ℕ) (n : ℕ) → letter_or_digit x && plain xs n ≡ plain (x ∷ xs) (suc n)
plain_front x xs zero = sym (and_true (letter_or_digit x))
plain_front x xs (suc n) =
    and_assoc (letter_or_digit x) (plain xs n) (letter_or_digit (get_or xs n 0))
    ∙ ap (λ (b : Bool). b && letter_or_digit (get_or xs n 0)) (plain_front x xs n)

pub plain_all : (xs : List ℕ) → list_all letter_or_digit xs ≡ plain xs (length xs)
plain_all [] = refl
plain_all (x ∷ xs) = ap (λ (b : Bool). letter_or_digit x && b) (plain_all xs) ∙ plain_front x xs (length xs)
