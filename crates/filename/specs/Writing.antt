-- The writer of names over any fields, node identifier, private part and output (document 02, ask 1): 20 where something is out
-- of range, then 21 where the output is shorter than the name, with the output unchanged; or the name over the start of the
-- output, and the octets behind it stay. Assumes nothing.
use Rattle.std.specs.Prelude.{not, Result, Ok, Err, List, [], ◌∷◌, ℕ, zero, suc, ltb, length}
use Rattle.octets.specs.Splice.{splice}
use Rattle.refusals.specs.declared.Refusal.{Refusal}
use Rattle.refusals.specs.Number.{number}
use Rattle.refusals.specs.Refusal.{◌when◌, first}
use Rattle.filename.specs.declared.Fields.{Fields}
use Rattle.filename.specs.declared.Written.{Written}
use Rattle.filename.specs.Name.{right, spelled}

-- what a call leaves: its answer and the output
pub record After : Type 0 where
  pub answer : Written
  pub output : List ℕ

abbrev pub after : Written → List ℕ → After
after answer output = record { answer = answer; output = output }

abbrev pub answered : ℕ → ℕ → Written
answered refusal octets = record { refusal = refusal; octets = octets }

-- what is answered where the name was written, and where it was refused
abbrev pub answer_of : Result ℕ Refusal → Written
answer_of (Ok octets) = answered 0 octets
answer_of (Err refusal) = answered (number refusal) 0

unfoldable pub verdict : Fields → List ℕ → List ℕ → List ℕ → ℕ
verdict f node private output =
    first ((20 when not (right f node private)) ∷ (21 when ltb (length output) (length (spelled f node private))) ∷ [])

abbrev pub settled : ℕ → List ℕ → After → After
settled zero output done = done
settled (suc n) output done = after (answered (suc n) 0) output

abbrev pub written : Fields → List ℕ → List ℕ → List ℕ → After
written f node private output =
    after (answered 0 (length (spelled f node private))) (splice output 0 (spelled f node private))

unfoldable pub write_of : Fields → List ℕ → List ℕ → List ℕ → After
write_of f node private output = settled (verdict f node private output) output (written f node private output)
