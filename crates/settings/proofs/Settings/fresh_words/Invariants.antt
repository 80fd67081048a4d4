-- `settings::Settings::fresh_words` meets its contract: before route i the words are those of a state with the routes below it, and then the
-- node is put before them. Assumes nothing.
use mathlib.Core.Path.{◌≡◌}
use Rattle.words.specs.Words.{words_of}
use Rattle.settings.specs.Cases.{blank}
use Rattle.settings.proofs.Settings.fresh_words.Given as goal

abbrev pub invariant-loop-i : goal.invariant-loop-i
invariant-loop-i l = l.words ≡ words_of (blank l.self.octets.now l.i)
