-- The words by evaluation, from ../shared/CDRSHOW.md.
use Rattle.std.specs.Prelude.{◌≡◌, refl, List, [], ◌∷◌, ℕ}
use Rattle.numerals.specs.Text.{ascii}
use Rattle.wording.specs.Lost.{lost_words}
use Rattle.wording.specs.Private.{private_words}

-- a lost octet at each end of each phrase, and 3 and 131
pub lost_words_lem : (lost_words 0 ≡ ascii "0, none")
    × (lost_words 1 ≡ ascii "1, at least 1, maybe more")
    × (lost_words 3 ≡ ascii "3, at least 3, maybe more")
    × (lost_words 126 ≡ ascii "126, at least 126, maybe more")
    × (lost_words 127 ≡ ascii "127, at least 127, maybe more")
    × (lost_words 128 ≡ ascii "128, some, how many is unknown")
    × (lost_words 129 ≡ ascii "129, exactly 1")
    × (lost_words 131 ≡ ascii "131, exactly 3")
    × (lost_words 254 ≡ ascii "254, exactly 126")
    × (lost_words 255 ≡ ascii "255, 127 or more, all of them counted")
unfolding lost_words
lost_words_lem = (refl, refl, refl, refl, refl, refl, refl, refl, refl, refl)

-- none, empty, the loss counts, nine octets of another kind, and eight
abbrev counts : ℕ → List ℕ
counts kind = kind ∷ 0 ∷ 0 ∷ 156 ∷ 64 ∷ 0 ∷ 0 ∷ 0 ∷ 3 ∷ []

pub private_words_lem : (private_words 0 [] ≡ ascii "none")
    × (private_words 1 [] ≡ ascii "empty")
    × (private_words 2 (counts 1) ≡ ascii "9 octets, known losses 40000, unrouted records 3")
    × (private_words 2 (counts 2) ≡ ascii "9 octets, 0200009C4000000003")
    × (private_words 2 (1 ∷ 0 ∷ 0 ∷ 156 ∷ 64 ∷ 0 ∷ 0 ∷ 175 ∷ []) ≡ ascii "8 octets, 0100009C400000AF")
unfolding private_words Rattle.counts.specs.Counts.counts_in
private_words_lem = (refl, refl, refl, refl, refl)
