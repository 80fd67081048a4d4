use Rattle.std.proofs.Common.{◌≡◌, ◌-◌, ◌/◌, ◌^◌, ◌<◌, length, drop}
use Rattle.numerals.specs.Decimal.{digits}
use Rattle.textlines.proofs.page.lay_number.Given as goal

-- the last i digits are laid, and more are left
abbrev pub invariant-loop-i : goal.invariant-loop-i
invariant-loop-i l =
    (length l.slip ≡ 21) × (drop (21 - l.i) l.slip ≡ digits l.i l.number) × (l.rest ≡ l.number / 10 ^ l.i) × (0 < l.i → 0 < l.rest)
