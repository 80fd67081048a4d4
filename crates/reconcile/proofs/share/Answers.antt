-- `reconcile::share` meets its contract: a file has not more records than a quarter of its octets.
use Rattle.std.proofs.Common.{◌≤◌, arith}
use Rattle.offsets.specs.Offsets.{offsets_most}
use Rattle.reconcile.proofs.share.Goals as goal

pub share_in-requires-2-clause-f_fits : goal.share_in-requires-2-clause-f_fits
share_in-requires-2-clause-f_fits c = let a = c.args.f in let h : a.count ≤ 262144 = omega (arith, a.short, a.counted, offsets_most a.file.now a.start) in h

pub share_in-requires-2-clause-g_fits : goal.share_in-requires-2-clause-g_fits
share_in-requires-2-clause-g_fits c = let a = c.args.g in let h : a.count ≤ 262144 = omega (arith, a.short, a.counted, offsets_most a.file.now a.start) in h
