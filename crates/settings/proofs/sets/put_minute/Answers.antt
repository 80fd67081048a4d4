-- `settings::sets::put_minute` meets its contract: two stores, of which the second counts the minute. Assumes nothing.
use native.Mathlib.Omega.{arith}
use Prim.Native.Nat.{◌+◌, ◌*◌}
use lib.ListN.{set, length-set}
use Rattle.settings.proofs.sets.put_minute.Goals as goal

pub bounds-words-route-2 : goal.bounds-words-route-2
bounds-words-route-2 c =
    let a = c.args in
    omega (arith, c.requires.0, c.requires.1, length-set a.words.now (168 + 24 * a.route + c.set_count-count.result) a.minute)

pub returns : goal.returns
returns c =
    let a = c.args in
    λ i. set (set a.words.now (168 + 24 * a.route + c.set_count-count.ensures i) a.minute) (160 + a.route) (c.set_count-count.ensures i + 1)
