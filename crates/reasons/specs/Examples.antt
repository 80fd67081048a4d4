-- The words by evaluation, from ../shared/CDRSHOW.md. Assumes nothing.
use Rattle.std.specs.Prelude.{◌≡◌, refl}
use Rattle.numerals.specs.Text.{ascii}
use Rattle.reasons.specs.Closure.{reason_words}
use Rattle.reasons.specs.Refusals.{file_refusal_words}

-- closure reasons, and those that are reserved about them
pub reason_words_lem : (reason_words 0 ≡ ascii "0, normal")
    × (reason_words 5 ≡ ascii "5, change of release, version or encoding")
    × (reason_words 6 ≡ ascii "6, reserved, normal")
    × (reason_words 127 ≡ ascii "127, reserved, normal")
    × (reason_words 128 ≡ ascii "128, abnormal")
    × (reason_words 131 ≡ ascii "131, integrity error")
    × (reason_words 132 ≡ ascii "132, reserved, abnormal")
    × (reason_words 255 ≡ ascii "255, reserved, abnormal")
unfolding reason_words
reason_words_lem = (refl, refl, refl, refl, refl, refl, refl, refl)

pub refusal_words_lem : (file_refusal_words 8 ≡ ascii "8, its length")
    × (file_refusal_words 9 ≡ ascii "9, its header length")
    × (file_refusal_words 10 ≡ ascii "10, a timestamp or a reserved length")
    × (file_refusal_words 11 ≡ ascii "11, a record")
    × (file_refusal_words 12 ≡ ascii "12, its count")
    × (file_refusal_words 13 ≡ ascii "13, its high or low release")
unfolding file_refusal_words
refusal_words_lem = (refl, refl, refl, refl, refl, refl)
