use Rattle.std.proofs.Common.{◌≡◌, ◌<◌, ◌^◌, drop}
use Rattle.textlines.specs.Decimal.{value_behind}
use Rattle.textlines.proofs.words.number_of.Given as goal

-- the digits so far, with those that are left, give what all give
abbrev pub invariant-loop-octet : goal.invariant-loop-octet
invariant-loop-octet l = (value_behind l.number (drop l.octet-index l.digits) ≡ value_behind 0 l.digits) × (l.number < 2 ^ 32)
