use Rattle.std.proofs.Common.{◌≡◌, ◌-◌, ◌/◌, ◌^◌, length, drop}
use Rattle.numerals.specs.Decimal.{digits}
use Rattle.numerals.proofs.digits.Given as goal

-- the last i digits are laid
abbrev pub invariant-loop-i : goal.invariant-loop-i
invariant-loop-i g l =
    (length l.digits ≡ g.row.N) × (drop (g.row.N - l.i) l.digits ≡ digits l.i l.n) × (l.rest ≡ l.n / 10 ^ l.i)
