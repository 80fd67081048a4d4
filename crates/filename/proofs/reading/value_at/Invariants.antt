use Rattle.std.proofs.Common.{◌≡◌, ◌+◌, ◌-◌, ◌*◌, ◌^◌, ◌≤◌}
use Rattle.filename.specs.Reading.{value_at}
use Rattle.filename.proofs.reading.value_at.Given as goal

-- the digits so far, above what the others come to
abbrev pub invariant-loop-i : goal.invariant-loop-i
invariant-loop-i l =
    (l.value * 10 ^ (l.w - l.i) + value_at (l.w - l.i) l.name (l.k + l.i) ≡ value_at l.w l.name l.k)
    × (l.value + 23 ≤ 23 * 10 ^ l.i)
