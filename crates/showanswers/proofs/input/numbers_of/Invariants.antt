use Rattle.std.proofs.Common.{◌≡◌, ◌<◌, ℕ, length, slice_get}
use Rattle.showanswers.specs.Line.{behind, word_at, printed_number}
use Rattle.showanswers.proofs.input.numbers_of.Given as goal

-- so many words were taken, and each gave its number
abbrev pub invariant-loop-number : goal.invariant-loop-number
invariant-loop-number g l =
    (l.words.rest.now ≡ behind l.number-index l.rest)
    × ((k : ℕ) → k < l.number-index → slice_get l.number-items k ≡ printed_number (word_at k l.rest))
    × (length l.number-items ≡ g.row.N)
