-- The closure reason in words (000, 6.1.1.9; ../shared/CDRSHOW.md). Assumes nothing.
use Rattle.std.specs.Prelude.{cond, List, [], ◌∷◌, ℕ, ltb}
use Rattle.numerals.specs.Text.{ascii}
use Rattle.wording.specs.Numbered.{numbered}
use Rattle.reasons.specs.Rows.{Row, ◌is◌, words_for}

abbrev pub reason_rows : List Row
reason_rows =
    0 is "normal"
    ∷ 1 is "size limit"
    ∷ 2 is "open-time limit"
    ∷ 3 is "most records"
    ∷ 4 is "manual intervention"
    ∷ 5 is "change of release, version or encoding"
    ∷ 128 is "abnormal"
    ∷ 129 is "file system error"
    ∷ 130 is "storage exhausted"
    ∷ 131 is "integrity error"
    ∷ []

-- the others are reserved, normal ones up to 127
abbrev pub reserved : ℕ → List ℕ
reserved n = cond (ltb n 128) (ascii "reserved, normal") (ascii "reserved, abnormal")

abbrev pub why : ℕ → List ℕ
why n = words_for n reason_rows (reserved n)

-- with the number before them
unfoldable pub reason_words : ℕ → List ℕ
reason_words n = numbered n (why n)
