-- Refusals in words: the reader's of a file (../shared/CDRSHOW.md), and those of settings, events and packets (document 01, Refusals; document 02).
-- Assumes nothing.
use Rattle.std.specs.Prelude.{List, [], ◌∷◌, ℕ}
use Rattle.numerals.specs.Text.{ascii}
use Rattle.wording.specs.Numbered.{numbered}
use Rattle.reasons.specs.Rows.{Row, ◌is◌, words_for}

abbrev pub file_rows : List Row
file_rows =
    8 is "its length"
    ∷ 9 is "its header length"
    ∷ 10 is "a timestamp or a reserved length"
    ∷ 11 is "a record"
    ∷ 12 is "its count"
    ∷ 13 is "its high or low release"
    ∷ []

abbrev pub event_rows : List Row
event_rows =
    1 is "an entry that is unknown, cut or out of its place"
    ∷ 2 is "a value beyond its range"
    ∷ 3 is "two equal filters"
    ∷ 4 is "a time after 2099"
    ∷ 5 is "a field beyond its range"
    ∷ 6 is "no such route"
    ∷ 7 is "a reason that CLOSE may not give"
    ∷ 11 is "a cut record or a 65th"
    ∷ 14 is "the route has an open file"
    ∷ 15 is "the route has no open file"
    ∷ 16 is "the store is too short"
    ∷ 17 is "the output is too short"
    ∷ 18 is "the state is outside its bounds"
    ∷ 19 is "a loss counter is full"
    ∷ 22 is "a wrong set time of day"
    ∷ []

-- no number of theirs
abbrev pub unknown : List ℕ
unknown = ascii "unknown"

abbrev pub of_file : ℕ → List ℕ
of_file n = words_for n file_rows unknown

abbrev pub of_event : ℕ → List ℕ
of_event n = words_for n event_rows unknown

-- with the number before them
unfoldable pub file_refusal_words : ℕ → List ℕ
file_refusal_words n = numbered n (of_file n)

unfoldable pub refusal_words : ℕ → List ℕ
refusal_words n = numbered n (of_event n)
