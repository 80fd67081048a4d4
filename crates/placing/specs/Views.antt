-- The code's plan and what it leaves, as the definitions see them (Plan, Made). Assumes nothing.
use Rattle.std.specs.Prelude.{◌≡◌, refl, ℕ, Bool, true, false, List, Option, None, Some, is_some, unwrap_or, Result, Ok, Err}
use Rattle.std.specs.Bool.{then_some}
use Rattle.std.specs.Option.{option_map}
use Rattle.std.proofs.Common.{ap}
use Rattle.refusals.specs.declared.Refusal.{Refusal}
use Rattle.refusals.specs.Number.{needed}
use Rattle.filing.specs.declared.Reason.{Reason}
use Rattle.filing.specs.declared.Reason.TheVariants.{MostRecords}
use Rattle.filing.specs.Reason.{reason_number}
use Rattle.state.specs.declared.Route.{Route}
use Rattle.placing.specs.declared.Plan.{Plan as Steps}
use Rattle.placing.specs.declared.Taker.{Taker}
use Rattle.placing.specs.declared.Done.{Done}
use Rattle.placing.specs.declared.Placed.{Placed}
use Rattle.state.specs.declared.Node.{Node}
use Rattle.placing.specs.Files.{closed_if}
use Rattle.placing.specs.Plan.{Plan}
use Rattle.placing.specs.Made.{too_long}

-- a file that the record does not close has the reason 1, which nothing asks for
abbrev pub reason_of : Option Reason → ℕ
reason_of None = 1
reason_of (Some reason) = reason_number reason

-- the file that the record fills closes with 3
pub filled : (b : Bool) {o : Option Reason} → o ≡ then_some b MostRecords → (n : Node) (r : Route) (store : List ℕ) (from : ℕ)
    → closed_if (is_some o) n r (reason_of o) store from ≡ closed_if b n r 3 store from
filled true e n r store from = ap (λ (o : Option Reason). closed_if (is_some o) n r (reason_of o) store from) e
filled false e n r store from = ap (λ (o : Option Reason). closed_if (is_some o) n r (reason_of o) store from) e

-- the same, where the reason is given by its number
pub filled_by_number : (b : Bool) {o : Option ℕ} → o ≡ then_some b 3 → (n : Node) (r : Route) (store : List ℕ) (from : ℕ)
    → closed_if (is_some o) n r (unwrap_or o 1) store from ≡ closed_if b n r 3 store from
filled_by_number true e n r store from = ap (λ (o : Option ℕ). closed_if (is_some o) n r (unwrap_or o 1) store from) e
filled_by_number false e n r store from = ap (λ (o : Option ℕ). closed_if (is_some o) n r (unwrap_or o 1) store from) e

-- a plan by its reason's number, if it has one
abbrev pub plan_in : Option ℕ → Taker → Plan
plan_in turn t = record { turns = is_some turn; reason = unwrap_or turn 1; used = t.used; holding = t.holding; fills = t.fills }

abbrev pub plan_of : Steps → Plan
plan_of p = record { turns = is_some p.turn; reason = reason_of p.turn; used = p.taker.used; holding = p.taker.holding; fills = p.taker.fills }

pub numbered : (p : Steps) → plan_in (option_map reason_number p.turn) p.taker ≡ plan_of p
numbered p = go p.turn
  where
    go : (o : Option Reason) → plan_in (option_map reason_number o) p.taker ≡ plan_of (record { turn = o; taker = p.taker })
    go None = refl
    go (Some reason) = refl

-- done, or refused with the octets that are needed
abbrev pub fitting : Done → Placed
fitting p = record { fits = true; route = p.route; files = p.files; octets = p.octets }

abbrev pub placed_of : Route → Result Done Refusal → Placed
placed_of r (Ok p) = fitting p
placed_of r (Err refusal) = too_long r (needed refusal)
