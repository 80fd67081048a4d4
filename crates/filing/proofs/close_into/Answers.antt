-- `filing::close_into` meets its contract: what is laid out over the lent output stands in the whole from `at` on. Assumes
-- nothing.
use mathlib.Core.Path.{◌≡◌}
use Prim.Native.Nat.{◌+◌, ◌-◌}
use native.Mathlib.Omega.{arith}
use lib.ListN.{length}
use Rattle.filing.specs.Laws.{layable, closed}
use Rattle.filing.proofs.close_into.Goals as goal

pub lay_out-requires : goal.lay_out-requires
lay_out-requires c =
    let a = c.args in
    let twenty : length a.r.settings.filter ≡ 20 = omega arith in
    let n : a.base + a.r.file.octets - a.base ≡ a.r.file.octets = omega arith in
    layable a.n a.r a.reason a.store.now a.base a.output.now a.at a.lost c.requires twenty c.header_for-h.ensures c.octets_of-counts.ensures n

pub returns : goal.returns
returns c =
    let a = c.args in
    let twenty : length a.r.settings.filter ≡ 20 = omega arith in
    let n : a.base + a.r.file.octets - a.base ≡ a.r.file.octets = omega arith in
    closed a.n a.r a.reason a.store.now a.base a.output.now a.at a.lost c.requires twenty c.header_for-h.ensures c.octets_of-counts.ensures n c.lay_out.ensures
