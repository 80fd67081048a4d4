-- `cdrfile::lay_out` meets its contract: the pieces are written one behind another, and the file that fits leaves room for
-- each. Assumes nothing.
use mathlib.Core.Path.{◌∙◌, sym}
use Prim.Native.Nat.{◌+◌, ◌≤◌}
use native.Mathlib.Omega.{arith}
use lib.ListN.{length}
use Rattle.record.specs.Release.{extension_count}
use Rattle.cdrfile.specs.File.{header_length, private_octets, fixed_octets}
use Rattle.cdrfile.specs.Laws.{file_length, fifty, private_least, laid_file}
use Rattle.cdrfile.proofs.lay_out.Goals as goal
use Rattle.cdrfile.proofs.lay_out.Goals.{Start}

-- the whole file is short enough and fits the output
sizes : (s : goal.Start) →
    (header_length s.args.h s.args.filter.now s.args.private.now + length s.args.body.now ≤ 1048576)
    × (header_length s.args.h s.args.filter.now s.args.private.now + length s.args.body.now ≤ length s.args.output.now)
    × (length s.args.private.now ≤ length (private_octets s.args.h.statement s.args.private.now))
sizes s =
    let a = s.args in
    let n = file_length a.h a.filter.now a.private.now a.body.now a.count in
    (omega (arith, s.requires.size), omega (arith, s.requires.room), private_least a.h.statement a.private.now s.requires.stated)

pub header_length-header-requires : goal.header_length-header-requires
header_length-header-requires c = let z = sizes (goal.at.header_length-header-requires c).Start in omega (arith, z)

pub overflow_add-total : goal.overflow_add-total
overflow_add-total c = omega (arith, sizes (goal.at.overflow_add-total c).Start, c.header_length-header.ensures)

pub overflow_cast-total : goal.overflow_cast-total
overflow_cast-total c = omega (arith, sizes (goal.at.overflow_cast-total c).Start, c.header_length-header.ensures)

pub overflow_cast-header : goal.overflow_cast-header
overflow_cast-header c = omega (arith, sizes (goal.at.overflow_cast-header c).Start, c.header_length-header.ensures)

pub copy-requires : goal.copy-requires
copy-requires c = omega (arith, sizes (goal.at.copy-requires c).Start, fifty _ _ _ _ _ c.fixed_octets-fixed.ensures)

pub copy-requires-2 : goal.copy-requires-2
copy-requires-2 c = omega (arith, sizes (goal.at.copy-requires-2 c).Start, c.copy.auto.dst)

pub put_private-requires : goal.put_private-requires
put_private-requires c = omega (arith, sizes (goal.at.put_private-requires c).Start, c.copy.auto.dst, c.copy-2.auto.dst)

pub private_length-requires : goal.private_length-requires
private_length-requires c = let z = sizes (goal.at.private_length-requires c).Start in omega (arith, z)

pub put_extension-requires : goal.put_extension-requires
put_extension-requires c =
    omega (arith, sizes (goal.at.put_extension-requires c).Start, c.copy.auto.dst, c.copy-2.auto.dst, c.put_private.auto.output, c.private_length.ensures.0)

pub put_extension-requires-2 : goal.put_extension-requires-2
put_extension-requires-2 c =
    omega (arith, sizes (goal.at.put_extension-requires-2 c).Start, c.copy.auto.dst, c.copy-2.auto.dst, c.put_private.auto.output, c.put_extension.auto.output, c.private_length.ensures.0, c.extension_length.ensures.is, extension_count c.args.h.high)

pub copy-requires-3 : goal.copy-requires-3
copy-requires-3 c =
    omega (arith, sizes (goal.at.copy-requires-3 c).Start, c.copy.auto.dst, c.copy-2.auto.dst, c.put_private.auto.output, c.put_extension.auto.output, c.put_extension-2.auto.output, c.header_length-header.ensures)

pub returns : goal.returns
returns c =
    let a = c.args in
    let header = c.header_length-header.ensures in
    let private = c.private_length.ensures.0 in
    let high = c.extension_length.ensures.is ∙ sym (extension_count a.h.high) in
    laid_file a.h a.filter.now a.private.now a.body.now a.count a.output.now
    (c.fixed_octets-fixed.ensures ∙ (λ i. fixed_octets (header i + length a.body.now) (header i) a.count (length a.filter.now) a.h))
    c.copy.ensures
    c.copy-2.ensures
    c.put_private.ensures
    c.put_extension.ensures
    (λ i. 50 + length a.filter.now + private i)
    c.put_extension-2.ensures
    (λ i. 50 + length a.filter.now + private i + high i)
    c.copy-3.ensures
    header
