-- A private extension in words (../shared/CDRSHOW.md): none, empty, the loss counts of document 02, ask 3, or its octets. Assumes nothing.
use Rattle.std.specs.Prelude.{◌≡◌, true, false, cond, List, ◌++◌, ℕ, eqb, length}
use Rattle.std.proofs.Common.{ne_eqb}
use Rattle.numerals.specs.Decimal.{decimal}
use Rattle.numerals.specs.Hexadecimal.{hex_of}
use Rattle.counts.specs.declared.Counts.{Counts}
use Rattle.counts.specs.Counts.{counts_in}
use Rattle.numerals.specs.Text.{ascii}

-- the loss counts, or other words where they are none
abbrev pub counts_words : Counts → List ℕ → List ℕ
counts_words c others =
    cond c.there (ascii "known losses " ++ (decimal c.losses ++ (ascii ", unrouted records " ++ decimal c.unrouted))) others

pub counts_said : (c : Counts) (others : List ℕ) → c.there ≡ true
    → counts_words c others ≡ ascii "known losses " ++ (decimal c.losses ++ (ascii ", unrouted records " ++ decimal c.unrouted))
counts_said c others e = rw e

pub counts_none : (c : Counts) (others : List ℕ) → c.there ≡ false → counts_words c others ≡ others
counts_none c others e = rw e

-- how many octets there are, and what they say
abbrev pub some_words : List ℕ → List ℕ
some_words xs = decimal (length xs) ++ (ascii " octets, " ++ counts_words (counts_in xs) (hex_of xs))

-- by the header's statement: 0 none, 1 empty, else with octets (cdrfile, Statement.antt)
unfoldable pub private_words : ℕ → List ℕ → List ℕ
private_words statement xs = cond (eqb statement 0) (ascii "none") (cond (eqb statement 1) (ascii "empty") (some_words xs))

pub some_words_lem : (statement : ℕ) (xs : List ℕ) → (statement ≡ 0 → ⊥) → (statement ≡ 1 → ⊥) → private_words statement xs ≡ some_words xs
unfolding private_words
some_words_lem statement xs some full = rw (ne_eqb statement 0 some, ne_eqb statement 1 full)
