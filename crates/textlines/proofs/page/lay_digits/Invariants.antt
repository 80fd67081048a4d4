use Rattle.std.proofs.Common.{◌≡◌, ◌+◌, length, take}
use Rattle.numerals.specs.Hexadecimal.{hex_of}
use Rattle.textlines.proofs.page.lay_digits.Given as goal

-- the digits of the octets so far are laid
abbrev pub invariant-loop-i : goal.invariant-loop-i
invariant-loop-i l = (length l.slip ≡ 128) × (take (l.i + l.i) l.slip ≡ hex_of (take l.i l.octets))
