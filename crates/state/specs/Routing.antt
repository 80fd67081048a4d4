-- Routing (document 01, Routing and loss): a key goes to the route with the longest filter that is a prefix of it; where no
-- filter fits the record is *unrouted*. Filters of a manager differ, so the longest is one. Assumes nothing.
use Rattle.std.specs.Prelude.{Bool, true, false, cond, not, ◌&&◌, ◌||◌, Option, None, Some, List, ℕ, zero, suc, ◌≤◌, ◌<◌, ltb, leb, length}
use Rattle.octets.specs.Alike.{alike}
use Rattle.state.specs.declared.RouteSettings.{RouteSettings}
use Rattle.state.specs.Manager.{Manager}
use Rattle.state.specs.declared.Found.{Found}
use Rattle.state.specs.Manager.{settings_at}

-- the filter is a prefix of the key
unfoldable pub fits : RouteSettings → List ℕ → Bool
fits s key = leb s.octets (length key) && alike s.filter key s.octets

-- what routing found: whether a route fits, which one, and how many octets its filter has
pub record Routed : Type 0 where
  pub found : Bool
  pub at : ℕ
  pub octets : ℕ

abbrev pub nobody : Routed
nobody = record { found = false; at = 0; octets = 0 }

-- as the program has it
abbrev pub routed_of : Option Found → Routed
routed_of None = nobody
routed_of (Some f) = record { found = true; at = f.at; octets = f.octets }

-- a route that fits takes the key from one with a shorter filter
abbrev pub chosen : Routed → ℕ → ℕ → Bool → Routed
chosen b i octets fit = cond (fit && (not b.found || ltb b.octets octets)) (record { found = true; at = i; octets = octets }) b

abbrev pub better : Routed → ℕ → RouteSettings → List ℕ → Routed
better b i s key = chosen b i s.octets (fits s key)

-- among the routes below n
abbrev pub among : Manager → List ℕ → ℕ → Routed
among m key zero = nobody
among m key (suc n) = better (among m key n) n (settings_at m n) key

-- the route that a key goes to
unfoldable pub route_of : Manager → List ℕ → Routed
route_of m key = among m key m.count

-- what a state must have for its filters to be compared: at most eight routes, and no filter longer than its 20 octets
pub record Routable (m : Manager) : Type 0 where
  pub few : m.count ≤ 8
  pub short : (i : ℕ) → i < m.count → (settings_at m i).octets ≤ 20
