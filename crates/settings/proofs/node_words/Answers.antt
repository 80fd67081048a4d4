-- `settings::node_words` meets its contract: four octets of the address are the word that they spell. Assumes nothing.
use Rattle.settings.specs.Written.{node_made}
use Rattle.settings.proofs.node_words.Goals as goal

pub returns : goal.returns
returns c =
    node_made c.args.octets.now c.args.count c.num-a.ensures c.num-b.ensures c.num-c.ensures c.num-d.ensures c.num-bias.ensures
