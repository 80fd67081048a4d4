-- The phrase for a lost octet tells the octet: no two octets have the same words, so that what the words mean is one thing. Shown by reading
-- each phrase back, of all 256 by evaluation.
use Rattle.std.specs.Prelude.{◌≡◌, refl, Bool, true, cond, List, [], ◌∷◌, ℕ, ◌+◌, ◌*◌, ◌-◌, ◌<◌, eqb, ltb, get_or, drop}
use Rattle.std.proofs.Common.{sym, ap, ◌∙◌, eqb-true}
use Prim.Native.String.{String}
use Rattle.refusals.specs.Below.{all_below, below_each}
use Rattle.numerals.specs.Text.{ascii}
use Rattle.wording.specs.Lost.{phrase_of, phrase_words}

-- the number that the digits in front make, after those that make n
abbrev number_from : ℕ → List ℕ → ℕ
number_from n [] = n
number_from n (d ∷ ds) = cond (ltb d 48) n (cond (ltb d 58) (number_from (n * 10 + (d - 48)) ds) n)

-- each phrase has a first letter of its own, but for that of 127, which is read as those of 1 to 126 are
abbrev begins : List ℕ → String → Bool
begins words text = eqb (get_or words 0 0) (get_or (ascii text) 0 0)

abbrev heard : List ℕ → ℕ
heard words =
    cond (begins words "none") 0
    (cond (begins words "at least ") (number_from 0 (drop 9 words))
    (cond (begins words "some") 128 (cond (begins words "exactly ") (128 + number_from 0 (drop 8 words)) 255)))

abbrev tells : ℕ → Bool
tells octet = eqb (heard (phrase_words (phrase_of octet))) octet

all_tell : all_below tells 256 ≡ true
all_tell = refl

heard_is : (octet : ℕ) → octet < 256 → heard (phrase_words (phrase_of octet)) ≡ octet
heard_is octet h = eqb-true (heard (phrase_words (phrase_of octet))) octet (below_each tells 256 all_tell octet h)

pub phrase_tells : (a b : ℕ) → a < 256 → b < 256 → phrase_words (phrase_of a) ≡ phrase_words (phrase_of b) → a ≡ b
phrase_tells a b ha hb e = sym (heard_is a ha) ∙ ap heard e ∙ heard_is b hb
