-- `cdrfile::put_extension` meets its contract: a store is a splice of one, and no store a splice of none. Assumes nothing.
use mathlib.Core.Path.{◌≡◌, ◌∙◌, ap, sym}
use native.Mathlib.Omega.{arith}
use lib.ListN.{length}
use Rattle.octets.specs.Splice.{splice, splice_nil, set_splice}
use Rattle.record.specs.Release.{extension_octets}
use Rattle.cdrfile.specs.Laws.{extension_none, extension_seven}
use Rattle.cdrfile.proofs.put_extension.Goals as goal

pub returns-then-r-eq7 : goal.returns-then-r-eq7
returns-then-r-eq7 c =
    let e = extension_seven c.args.r c.if-r-eq7.true in
    let n : length (extension_octets c.args.r) ≡ 1 = ap length e in
    set_splice c.args.output.now c.args.at c.args.r.extension (omega (arith, c.requires)) ∙ ap (splice c.args.output.now c.args.at) (sym e)

pub returns-else-r-eq7 : goal.returns-else-r-eq7
returns-else-r-eq7 c =
    sym (ap (splice c.args.output.now c.args.at) (extension_none c.args.r c.if-r-eq7.false) ∙ splice_nil c.args.output.now c.args.at)
