-- The number of each outcome in an event's answer (document 01, The events). Assumes nothing.
use Rattle.std.specs.Prelude.{ℕ}
use Rattle.events.specs.declared.Outcome.{Outcome}
use Rattle.events.specs.declared.Outcome.TheVariants.{Opened, Placed, Lost, Unrouted, Closed, Ticked}

abbrev pub outcome_number : Outcome → ℕ
outcome_number Opened = 1
outcome_number Placed = 2
outcome_number Lost = 3
outcome_number Unrouted = 4
outcome_number Closed = 5
outcome_number Ticked = 6
