use Rattle.std.proofs.Common.{◌≡◌, ◌+◌, ◌-◌, ◌*◌, ◌^◌, ◌<◌}
use Rattle.octets.specs.Number.{num}
use Rattle.octets.proofs.num.Given as goal

-- the octets so far, above what the others come to
abbrev pub invariant-loop-i : goal.invariant-loop-i
invariant-loop-i g l =
    (l.n * 256 ^ (g.row.N - l.i) + num (g.row.N - l.i) l.s (l.at + l.i) ≡ num g.row.N l.s l.at)
    × (l.n < 256 ^ l.i)
