-- The lost octet in words (000, 6.1.1.11): a phrase for each of the clause's six cases, the words of each phrase, and what each phrase means of n,
-- the losses that were counted in the file's time, of t, the records truly lost in it, and of u, that an unrouted record came in it. The words mean
-- just what the octet says (`Says`, state), so that no two phrases hold at once: proofs/Meaning.antt.
use Rattle.std.specs.Prelude.{◌≡◌, Bool, true, false, cond, List, ◌++◌, ℕ, ◌-◌, ◌≤◌, ◌<◌, eqb, ltb}
use Rattle.std.proofs.Common.{ap, arith, ne_eqb, lt-ltb, le-ltb}
use Rattle.std.proofs.Math.Decide.{ℕ_discrete}
use Rattle.numerals.specs.Decimal.{decimal}
use Rattle.numerals.specs.Text.{ascii}
use Rattle.wording.specs.Numbered.{numbered}

pub data Phrase : Type 0 where
  none_lost : Phrase
  least_lost : (m : ℕ) → Phrase
  least_many_lost : Phrase
  unknown_lost : Phrase
  exactly_lost : (m : ℕ) → Phrase
  many_lost : Phrase

-- of an octet
abbrev pub phrase_of : ℕ → Phrase
phrase_of octet =
    cond (eqb octet 0) none_lost
    (cond (ltb octet 127) (least_lost octet)
    (cond (eqb octet 127) least_many_lost (cond (eqb octet 128) unknown_lost (cond (ltb octet 255) (exactly_lost (octet - 128)) many_lost))))

abbrev pub phrase_words : Phrase → List ℕ
phrase_words none_lost = ascii "none"
phrase_words (least_lost m) = ascii "at least " ++ (decimal m ++ ascii ", maybe more")
phrase_words least_many_lost = ascii "at least 127, maybe more"
phrase_words unknown_lost = ascii "some, how many is unknown"
phrase_words (exactly_lost m) = ascii "exactly " ++ decimal m
phrase_words many_lost = ascii "127 or more, all of them counted"

-- by where it lies
module _ (octet : ℕ) where
  phrase_least : (octet ≡ 0 → ⊥) → octet < 127 → phrase_of octet ≡ least_lost octet
  phrase_least h l = rw (ne_eqb octet 0 h, lt-ltb octet 127 l)

  -- 127 has the words of 1 to 126, and a meaning of its own
  pub words_least : (octet ≡ 0 → ⊥) → octet < 128 → phrase_words (phrase_of octet) ≡ ascii "at least " ++ (decimal octet ++ ascii ", maybe more")
  words_least h l = go (ℕ_discrete octet 127)
    where
      go : Dec (octet ≡ 127) → phrase_words (phrase_of octet) ≡ ascii "at least " ++ (decimal octet ++ ascii ", maybe more")
      go (yes e) = rw e
      go (no e) = ap phrase_words (phrase_least h (omega arith))

  pub phrase_exactly : (octet ≡ 128 → ⊥) → 128 ≤ octet → octet < 255 → phrase_of octet ≡ exactly_lost (octet - 128)
  phrase_exactly h g l =
      rw (ne_eqb octet 0 (λ z. omega arith), le-ltb octet 127 (omega arith), ne_eqb octet 127 (λ z. omega arith), ne_eqb octet 128 h, lt-ltb octet 255 l)

  pub phrase_many : 255 ≤ octet → phrase_of octet ≡ many_lost
  phrase_many g =
      rw (
        ne_eqb octet 0 (λ z. omega arith),
        le-ltb octet 127 (omega arith),
        ne_eqb octet 127 (λ z. omega arith),
        ne_eqb octet 128 (λ z. omega arith),
        le-ltb octet 255 g,
      )

-- the number, and the phrase
unfoldable pub lost_words : ℕ → List ℕ
lost_words octet = numbered octet (phrase_words (phrase_of octet))

-- how many were counted, how many were lost, and whether an unrouted record came
abbrev pub Means : Phrase → (n t : ℕ) → (u : Bool) → Type 0
Means none_lost n t u = (n ≡ 0) × (t ≡ 0) × (u ≡ false)
Means (least_lost m) n t u = (n ≡ m) × (m ≤ t) × (u ≡ true)
Means least_many_lost n t u = (127 ≤ n) × (n ≤ t) × (u ≡ true)
Means unknown_lost n t u = (n ≡ 0) × (u ≡ true)
Means (exactly_lost m) n t u = (n ≡ m) × (t ≡ m) × (u ≡ false)
Means many_lost n t u = (127 ≤ n) × (t ≡ n) × (u ≡ false)
