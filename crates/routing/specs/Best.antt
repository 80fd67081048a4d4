-- The best route so far as the definitions have it; where none of the routes below n fits it is `nobody`. Assumes nothing.
use Rattle.std.specs.Prelude.{◌≡◌, refl, Bool, true, false, cond, not, ◌&&◌, ◌||◌, List, ℕ, zero, suc, ltb}
use Rattle.std.proofs.Common.{true≢false}
use Rattle.state.specs.Manager.{Manager, settings_at}
use Rattle.state.specs.Routing.{Routed, nobody, fits, among}
use Rattle.routing.specs.declared.Best.{Best}

abbrev pub best_of : Best → Routed
best_of b = record { found = b.found; at = b.at; octets = b.octets }

pub none_among : (m : Manager) (key : List ℕ) (n : ℕ) → (among m key n).found ≡ false → among m key n ≡ nobody
none_among m key zero e = refl
none_among m key (suc n) e = go (fits (settings_at m n) key && (not (among m key n).found || ltb (among m key n).octets (settings_at m n).octets)) e (none_among m key n)
  where
    go : (t : Bool) → (cond t (record { found = true; at = n; octets = (settings_at m n).octets }) (among m key n)).found ≡ false
        → ((among m key n).found ≡ false → among m key n ≡ nobody)
        → cond t (record { found = true; at = n; octets = (settings_at m n).octets }) (among m key n) ≡ nobody
    go true e none = absurd (true≢false e)
    go false e none = none e
