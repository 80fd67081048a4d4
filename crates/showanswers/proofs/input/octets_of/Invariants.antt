use Rattle.std.proofs.Common.{◌≡◌, ◌+◌, take, drop}
use Rattle.numerals.specs.Hexadecimal.{hex_of}
use Rattle.showanswers.proofs.input.octets_of.Given as goal

-- the octets so far are those of the digits so far
abbrev pub invariant-loop-i : goal.invariant-loop-i
invariant-loop-i l = hex_of (take l.i l.octets) ≡ take (l.i + l.i) (drop 1 l.rest)
