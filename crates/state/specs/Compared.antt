-- The work of routing (document 02, ask 7): how many octets of filters are compared with a key. Routes are taken in order; a filter that is
-- longer than the key costs nothing; another costs one for each octet up to and including the first that differs, or its whole length.
-- `compared_most`: that is at most the number of routes times the key's length. Assumes nothing.
use Rattle.std.specs.Prelude.{◌≡◌, refl, Bool, true, false, cond, List, ℕ, zero, suc, ◌+◌, ◌*◌, ◌≤◌, ◌<◌, ltb, leb, length}
use Rattle.std.proofs.Common.{arith, leb-true, ltb-true}
use Rattle.refusals.specs.Below.{leading}
use Rattle.octets.specs.Alike.{same_at}
use Rattle.state.specs.declared.RouteSettings.{RouteSettings}
use Rattle.state.specs.Manager.{Manager}
use Rattle.state.specs.Manager.{settings_at}

-- of n octets of which so many are the same, from the first on
abbrev pub up_to_differing : ℕ → ℕ → ℕ
up_to_differing same n = cond (ltb same n) (same + 1) n

-- a filter's
abbrev pub compared_with : RouteSettings → List ℕ → ℕ
compared_with s key = cond (leb s.octets (length key)) (up_to_differing (leading (same_at s.filter key) s.octets) s.octets) 0

-- those of the routes below n
abbrev pub compared_among : Manager → List ℕ → ℕ → ℕ
compared_among m key zero = 0
compared_among m key (suc n) = compared_among m key n + compared_with (settings_at m n) key

-- those of all
unfoldable pub compared_for : Manager → List ℕ → ℕ
compared_for m key = compared_among m key m.count

-- None costs more than its length, nor than the key's.
up_to_most : (same n : ℕ) → up_to_differing same n ≤ n
up_to_most same n = go (ltb same n) refl
  where
    go : (b : Bool) → ltb same n ≡ b → cond b (same + 1) n ≤ n
    go true e = omega (arith, ltb-true same n e)
    go false e = omega arith

module _ (s : RouteSettings) (key : List ℕ) where
  within : (cost k : ℕ) → cost ≤ s.octets → (s.octets ≤ length key → s.octets ≤ k) → cond (leb s.octets (length key)) cost 0 ≤ k
  within cost k few fits = go (leb s.octets (length key)) refl
    where
      go : (b : Bool) → leb s.octets (length key) ≡ b → cond b cost 0 ≤ k
      go true e = omega (arith, few, fits (leb-true s.octets (length key) e))
      go false e = omega arith

  abbrev cost : ℕ
  cost = up_to_differing (leading (same_at s.filter key) s.octets) s.octets

  few : cost ≤ s.octets
  few = up_to_most (leading (same_at s.filter key) s.octets) s.octets

  pub with_octets : compared_with s key ≤ s.octets
  with_octets = within cost s.octets few (λ h. omega arith)

  pub with_key : compared_with s key ≤ length key
  with_key = within cost (length key) few (λ h. h)

-- So the routes together cost at most their number times what none of them exceeds.
pub among_most : (m : Manager) (key : List ℕ) (k n : ℕ) → ((i : ℕ) → i < n → compared_with (settings_at m i) key ≤ k) → compared_among m key n ≤ n * k
among_most m key k zero each = omega arith
among_most m key k (suc n) each = omega (arith, among_most m key k n (λ i h. each i (omega arith)), each n (omega arith))

pub compared_most : (m : Manager) (key : List ℕ) → compared_for m key ≤ m.count * length key
unfolding compared_for
compared_most m key = among_most m key (length key) m.count (λ i h. with_key (settings_at m i) key)
