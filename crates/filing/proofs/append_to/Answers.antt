-- `filing::append_to` meets its contract: the header's octets are written, and the body behind them. Assumes nothing.
use native.Mathlib.Omega.{arith}
use Rattle.filing.specs.Laws.{appended}
use Rattle.filing.proofs.append_to.Goals as goal

pub returns : goal.returns
returns c =
    let a = c.args in
    appended a.h a.body.now c.header_length_of-n.ensures c.header_octets-header.ensures a.part.now a.used (omega (arith, c.requires.room)) c.put_header.ensures c.copy.ensures
