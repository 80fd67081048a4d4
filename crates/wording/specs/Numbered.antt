-- A number before its words. Assumes nothing.
use Rattle.std.specs.Prelude.{List, ◌++◌, ℕ}
use Rattle.numerals.specs.Decimal.{decimal}
use Rattle.numerals.specs.Text.{ascii}

abbrev pub start : ℕ → List ℕ
start n = decimal n ++ ascii ", "

abbrev pub numbered : ℕ → List ℕ → List ℕ
numbered n words = start n ++ words
