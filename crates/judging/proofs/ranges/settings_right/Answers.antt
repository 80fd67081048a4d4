-- `judging::ranges::settings_right` meets its contract: its six tests are the definition's. Assumes nothing.
use mathlib.Core.Path.{ap, ◌∙◌}
use mathlib.Core.Bool.{◌&&◌}
use Prim.Native.Nat.{ℕ}
use lib.Dec.{leb}
use lib.ListN.{get_or}
use Rattle.record.specs.Release.{narrow_release}
use Rattle.state.specs.Bounds.{zero_from, settings_right}
use Rattle.words.specs.Words.{settings_in}
use Rattle.judging.proofs.ranges.settings_right.Goals as goal

pub returns : goal.returns
unfolding settings_right
returns c =
    let xs = c.args.part.now in
    let octets = c.top_of-octets.ensures in
    let narrow = c.is_narrow_release-narrow.ensures ∙ ap narrow_release c.release_in-release.ensures in
    λ i.
    leb (octets i) 20
    && (c.unused_zero-unused.ensures ∙ ap (λ (n : ℕ). zero_from (settings_in xs).filter n 20) (c.from.ensures ∙ octets)) i
    && leb 128 (get_or xs 6 0)
    && leb (get_or xs 6 0) 1048576
    && leb (c.top_of-flag.ensures i) 1
    && narrow i
