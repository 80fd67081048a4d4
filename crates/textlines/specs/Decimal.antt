-- The number that decimal digits give. Assumes nothing.
use Rattle.std.specs.Prelude.{Bool, cond, ◌&&◌, List, [], ◌∷◌, ℕ, ◌+◌, ◌-◌, ◌*◌, ◌^◌, nat_le, nat_lt, Option, None, Some}

-- whether an octet is a digit, from 48 for 0 to 57 for 9
abbrev pub is_digit : ℕ → Bool
is_digit x = nat_le 48 x && nat_le x 57

-- the number that digits give behind those that give n; none where an octet is no digit
abbrev pub value_behind : ℕ → List ℕ → Option ℕ
value_behind n [] = Some n
value_behind n (x ∷ xs) = cond (is_digit x) (value_behind (n * 10 + (x - 48)) xs) None

-- a number, if it has no more than 32 bits
abbrev pub within_word : Option ℕ → Option ℕ
within_word None = None
within_word (Some n) = cond (nat_lt n (2 ^ 32)) (Some n) None

-- the number that one or more digits give, if it has no more than 32 bits
abbrev pub number_of : List ℕ → Option ℕ
number_of [] = None
number_of (x ∷ xs) = within_word (value_behind 0 (x ∷ xs))
