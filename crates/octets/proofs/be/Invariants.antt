use Rattle.std.proofs.Common.{◌≡◌, ◌-◌, ◌/◌, ◌^◌, length, drop}
use Rattle.octets.specs.Number.{be}
use Rattle.octets.proofs.be.Given as goal

-- the last i octets are laid
abbrev pub invariant-loop-i : goal.invariant-loop-i
invariant-loop-i g l =
    (length l.octets ≡ g.row.N) × (drop (g.row.N - l.i) l.octets ≡ be l.i l.n) × (l.rest ≡ l.n / 256 ^ l.i)
