-- The loss counts that every file of the manager's carries as its private extension (document 02, ask 3): 9 octets, kind 1, then the
-- known losses in 4 octets and the unrouted records of its time in 4. How they are written, and what any private octets say.
-- Assumes nothing.
use Rattle.std.specs.Prelude.{Bool, true, false, cond, ◌&&◌, List, ◌∷◌, ◌++◌, ℕ, eqb, length, get_or}
use Rattle.octets.specs.Number.{be, num}
use Rattle.counts.specs.declared.Counts.{Counts}

-- kind 1, and the two numbers
abbrev pub count_octets : ℕ → ℕ → List ℕ
count_octets losses unrouted = 1 ∷ (be 4 losses ++ be 4 unrouted)

-- private octets are such an extension exactly where they are nine and begin with kind 1
abbrev pub is_counts : List ℕ → Bool
is_counts xs = eqb (length xs) 9 && eqb (get_or xs 0 0) 1

-- one says its two numbers, and what is not one says so and no numbers
abbrev pub numbers_in : List ℕ → Counts
numbers_in xs = record { there = true; losses = num 4 xs 1; unrouted = num 4 xs 5 }

abbrev pub no_counts : Counts
no_counts = record { there = false; losses = 0; unrouted = 0 }

unfoldable pub counts_in : List ℕ → Counts
counts_in xs = cond (is_counts xs) (numbers_in xs) no_counts
