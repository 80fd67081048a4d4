-- `settings::route_words` meets its contract: each of its words stands in the octets or is 0. Assumes nothing.
use Rattle.settings.specs.Written.{route_made}
use Rattle.settings.proofs.route_words.Goals as goal

pub returns : goal.returns
returns c =
    route_made c.args.octets.now c.args.k c.filter_words-f.ensures c.packed-configured.ensures c.num-limit.ensures c.num-age.ensures c.num-most.ensures c.num-next.ensures c.packed-flag.ensures
