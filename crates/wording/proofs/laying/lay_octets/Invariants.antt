use Rattle.std.proofs.Common.{◌≡◌, length, take}
use Rattle.numerals.specs.Hexadecimal.{hex_of}
use Rattle.wording.specs.Laid.{Laid}
use Rattle.wording.proofs.laying.lay_octets.Given as goal

-- the digits of the octets so far are laid
abbrev pub invariant-loop-octet : goal.invariant-loop-octet
invariant-loop-octet l = (length l.page ≡ length l.initial.page) × Laid l.initial.page l.at (hex_of (take l.octet-index l.octets)) l.page l.end
