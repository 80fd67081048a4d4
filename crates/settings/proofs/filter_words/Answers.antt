-- `settings::filter_words` meets its contract: four octets of the filter are the word that they spell. Assumes nothing.
use Rattle.settings.specs.Written.{filter_made}
use Rattle.settings.proofs.filter_words.Goals as goal

pub returns : goal.returns
returns c =
    filter_made c.args.octets.now c.args.k c.num-a.ensures c.num-b.ensures c.num-c.ensures c.num-d.ensures c.num-e.ensures
