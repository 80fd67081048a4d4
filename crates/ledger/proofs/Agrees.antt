-- When a manager and its store agree with a ledger: the relation that every event keeps. The state's counters are the ledger's,
-- and an open file's records stand in its region of the store, one behind another. Assumes nothing.
use Rattle.std.specs.Prelude.{◌≡◌, true, false, List, [], ◌∷◌, ℕ, ◌<◌, ◌^◌, length, get_or, take, drop}
use Rattle.octets.specs.Number.{Octets}
use Rattle.record.specs.Record.{Record, AllRight, records_octets}
use Rattle.state.specs.declared.RouteSettings.{RouteSettings}
use Rattle.state.specs.declared.Route.{Route}
use Rattle.state.specs.Manager.{Manager}
use Rattle.state.specs.Manager.{route_at, base}
use Rattle.state.specs.SetTimes.{set_count, set_minute}
use Rattle.state.specs.Bounds.{state_right}
use Rattle.ledger.specs.Ledger.{OpenFile, Current, none, some, Line, Ledger, line_at, minutes_at, highest, lowest}

-- every record of a file has the format
abbrev pub Formats : ℕ → List Record → Type 0
Formats format [] = Unit {0}
Formats format (r ∷ rs) = (r.header.format ≡ format) × Formats format rs

-- an open file: the state's counters are those of the ledger's records, and the store holds their octets from `base` on
pub record AgreesOpen (store : List ℕ) (base : ℕ) (r : Route) (f : OpenFile) : Type 0 where
  pub live : r.«open» ≡ true
  pub sequence : r.file.sequence ≡ f.sequence
  pub opened : r.file.opened ≡ f.opened
  pub appended : r.file.appended ≡ f.appended
  pub high : r.file.high ≡ highest r.settings.release f.records
  pub low : r.file.low ≡ lowest r.settings.release f.records
  pub count : r.file.count ≡ length f.records
  pub octets : r.file.octets ≡ length (records_octets f.records)
  pub formats : Formats r.file.format f.records
  pub stands : take r.file.octets (drop base store) ≡ records_octets f.records
  pub right : AllRight f.records
  pub held : f.sequence < 2 ^ 32

abbrev pub AgreesFile : List ℕ → ℕ → Route → Current → Type 0
AgreesFile store base r none = r.«open» ≡ false
AgreesFile store base r (some f) = AgreesOpen store base r f

-- settings as the machine holds them
pub record HeldSettings (s : RouteSettings) : Type 0 where
  pub filter : length s.filter ≡ 20
  pub octets : Octets s.filter
  pub extension : s.release.extension < 256

pub record AgreesLine (store : List ℕ) (base : ℕ) (r : Route) (x : Line) : Type 0 where
  pub settings : r.settings ≡ x.settings
  pub next : r.next ≡ x.next
  pub losses : r.losses ≡ x.losses
  pub unrouted : r.unrouted ≡ x.unrouted
  pub file : AgreesFile store base r x.current
  pub held : HeldSettings r.settings
  pub held_next : r.next < 2 ^ 32

-- set minutes: as many, and the same
pub record AgreesSets (sets : List ℕ) (i : ℕ) (minutes : List ℕ) : Type 0 where
  pub count : set_count sets i ≡ length minutes
  pub each : (j : ℕ) → j < length minutes → set_minute sets i j ≡ get_or minutes j 0

pub record Agrees (store : List ℕ) (m : Manager) (l : Ledger) : Type 0 where
  pub right : state_right m ≡ true
  pub eight : length m.routes ≡ 8
  pub count : m.count ≡ length l.lines
  pub address : m.address ≡ l.address
  pub sixteen : (length m.address ≡ 16) × Octets m.address
  pub bias : m.bias ≡ l.bias
  pub time : m.last ≡ l.time
  pub unrouted : m.unrouted ≡ l.unrouted
  pub sets : (i : ℕ) → i < m.count → AgreesSets m.set_times i (minutes_at l i)
  pub lines : (i : ℕ) → i < m.count → AgreesLine store (base m i) (route_at m i) (line_at l i)
