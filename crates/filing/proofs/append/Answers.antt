-- `filing::append` meets its contract: what is written in the lent region is written in the store, from the region's start on.
-- Assumes nothing.
use mathlib.Core.Path.{◌∙◌, ap}
use Prim.Native.Nat.{◌+◌, ◌-◌}
use native.Mathlib.Omega.{arith}
use borrow.Rule.Slice.PartMut.{put_mid}
use Rattle.octets.specs.Splice.{splice_part}
use Rattle.record.specs.Record.{Record, record_octets}
use Rattle.record.specs.HeaderOctets.{record_length}
use Rattle.filing.proofs.append.Goals as goal

pub returns : goal.returns
returns c =
    let a = c.args in
    let r : Record = record { header = a.h; body = a.body.now } in
    let n = a.base + a.limit - a.base in
    ap (put_mid a.base n a.store.now) c.append_to.ensures
    ∙ splice_part a.store.now a.base n a.used (record_octets r) (omega (arith, c.requires.region)) (omega (arith, c.requires.room, record_length r))
