-- The next word of a line: what stands behind the space in front, up to the next space. Assumes nothing.
use Rattle.std.specs.Prelude.{Bool, cond, List, [], ◌∷◌, ℕ, nat_eq}
use Rattle.std.specs.List.{before_first}

-- whether an octet is a space, 32
abbrev pub is_space : ℕ → Bool
is_space x = nat_eq x 32

-- no octets where no word stands next
abbrev pub word_of : List ℕ → List ℕ
word_of [] = []
word_of (x ∷ xs) = cond (is_space x) (before_first is_space xs) []
