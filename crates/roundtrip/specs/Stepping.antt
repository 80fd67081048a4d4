-- The records of a file as a caller gets them: by stepping with record::step_at and record::body_at from an offset on, each time
-- from the end of the record before (document 01, Reader: "walks the rest of the file from each record's end"). `step_at` and
-- `body_at` are the definitions that the contracts of the two calls cite. Assumes nothing.
use Rattle.std.specs.Prelude.{◌≡◌, List, [], ◌∷◌, ℕ, zero, suc, ◌+◌}
use Rattle.record.specs.Record.{Record}
use Rattle.record.specs.Step.{step_at, body_at}

-- where the record at an offset ends
abbrev pub behind : List ℕ → ℕ → ℕ
behind x at = at + ((step_at x at).header + (step_at x at).body)

-- what n steps give: each record's header and body
abbrev pub stepped : List ℕ → ℕ → ℕ → List Record
stepped x at zero = []
stepped x at (suc n) = record { header = (step_at x at).fields; body = body_at x at } ∷ stepped x (behind x at) n

-- where they end
abbrev pub stepped_to : List ℕ → ℕ → ℕ → ℕ
stepped_to x at zero = at
stepped_to x at (suc n) = stepped_to x (behind x at) n

-- none of them is refused
abbrev pub NoneRefused : List ℕ → ℕ → ℕ → Type 0
NoneRefused x at zero = Unit {0}
NoneRefused x at (suc n) = ((step_at x at).refusal ≡ 0) × NoneRefused x (behind x at) n
