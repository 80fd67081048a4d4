-- `routing::compare` meets its contract: how many octets are the same says whether the filter fits and how many were compared. Assumes nothing.
use mathlib.Core.Path.{◌≡◌, ap, ◌∙◌}
use Prim.Native.Nat.{◌≤◌, ◌<◌}
use native.Mathlib.Omega.{arith}
use lib.ListN.{length}
use Rattle.refusals.specs.Below.{leading}
use Rattle.octets.specs.Number.{Octets}
use Rattle.words.specs.Words.{settings_in}
use Rattle.routing.specs.Prefix.{same_in, few, differs_unfit, differs_compared, same_fits, same_compared, long_unfit, long_compared}
use Rattle.routing.proofs.compare.Goals as goal
use Rattle.routing.proofs.compare.Goals.{After-same_first-same}

-- the key's octets are octets
octets : (f : goal.After-same_first-same) → Octets f.args.key.now
octets f = record { at = λ i. omega (arith, f.type_inv.key i) }

-- so many are the same, in the words
same : (f : goal.After-same_first-same) → f.same_first-same.result ≡ leading (same_in f.args.part.now f.args.five.now) (settings_in f.args.part.now).octets
same f =
    f.same_first-same.ensures ∙ ap (leading (same_in f.args.part.now f.args.five.now)) f.top_of-octets.ensures

few_same : (f : goal.After-same_first-same) → f.same_first-same.result ≤ 20
few_same f =
    few f.args.part.now f.args.key.now f.args.five.now (octets f) f.requires.1 f.requires.0 (same f)

pub returns-then-key-octets : goal.returns-then-key-octets
returns-then-key-octets c =
    let long : length c.args.key.now < (settings_in c.args.part.now).octets = omega (arith, c.if-key-octets.true, c.top_of-octets.ensures) in
    (long_unfit (settings_in c.args.part.now) c.args.key.now long, long_compared (settings_in c.args.part.now) c.args.key.now long)

pub overflow_cast-result : goal.overflow_cast-result
overflow_cast-result c = omega (arith, few_same (goal.at.overflow_cast-result c).After-same_first-same)

pub overflow_add-result : goal.overflow_add-result
overflow_add-result c = omega (arith, few_same (goal.at.overflow_add-result c).After-same_first-same)

pub returns-then-same-octets : goal.returns-then-same-octets
returns-then-same-octets c =
    let xs = c.args.part.now in
    let key = c.args.key.now in
    let five = c.args.five.now in
    let o = octets (goal.at.returns-then-same-octets c).After-same_first-same in
    let room : (settings_in xs).octets ≤ length key = omega (arith, c.if-key-octets.false, c.top_of-octets.ensures) in
    let less : c.same_first-same.result < (settings_in xs).octets = omega (arith, c.if-same-octets.true, c.top_of-octets.ensures) in
    (differs_unfit xs key five o c.requires.1 c.requires.0 (same (goal.at.returns-then-same-octets c).After-same_first-same) less, differs_compared xs key five o c.requires.1 c.requires.0 (same (goal.at.returns-then-same-octets c).After-same_first-same) room less)

pub returns : goal.returns
returns c =
    let xs = c.args.part.now in
    let key = c.args.key.now in
    let five = c.args.five.now in
    let o = octets (goal.at.returns c).After-same_first-same in
    let room : (settings_in xs).octets ≤ length key = omega (arith, c.if-key-octets.false, c.top_of-octets.ensures) in
    let all : (settings_in xs).octets ≤ c.same_first-same.result = omega (arith, c.if-same-octets.false, c.top_of-octets.ensures) in
    (same_fits xs key five o c.requires.1 c.requires.0 (same (goal.at.returns c).After-same_first-same) room all, c.top_of-octets.ensures ∙ same_compared xs key five o c.requires.1 c.requires.0 (same (goal.at.returns c).After-same_first-same) room all)
