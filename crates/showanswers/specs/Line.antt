-- The words of a line of a replay, and the numbers that they print. Assumes nothing.
use Rattle.std.specs.Prelude.{cond, ◌&&◌, List, ℕ, zero, suc, ◌+◌, nat_eq, nat_lt, length, get_or, drop, Option, None}
use Rattle.textlines.specs.Decimal.{number_of}
use Rattle.textlines.specs.Words.{word_of}

-- what is left of a line behind its first k words
abbrev pub behind : ℕ → List ℕ → List ℕ
behind zero xs = xs
behind (suc k) xs = drop (1 + length (word_of (behind k xs))) (behind k xs)

-- the word with k words before it
abbrev pub word_at : ℕ → List ℕ → List ℕ
word_at k xs = word_of (behind k xs)

-- the number of a word as it is printed: no 0, 48, stands before other digits
abbrev pub printed_number : List ℕ → Option ℕ
printed_number xs = cond (nat_eq (get_or xs 0 0) 48 && nat_lt 1 (length xs)) None (number_of xs)
