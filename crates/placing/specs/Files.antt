-- The files that a placed record closes (document 01, The events), as the code writes them: what a closing that may not take
-- place writes, how long that is, and the file of a route that the record has changed. Assumes nothing.
use Rattle.std.specs.Prelude.{◌≡◌, refl, Bool, true, false, cond, List, [], ℕ, ◌+◌, ◌≤◌, ◌<◌, length}
use Rattle.std.proofs.Common.{sym}
use Rattle.state.specs.declared.Route.{Route}
use Rattle.state.specs.declared.Node.{Node}
use Rattle.state.specs.Manager.{Manager}
use Rattle.state.specs.Manager.{settings_at, base, with_route, node_of}
use Rattle.state.specs.Keep.{base_kept, route_set, settings_kept}
use Rattle.filing.specs.Closing.{closed_file, closed_size}
use Rattle.filing.specs.Closed.{closed_from, closed_is, closed_from_length}

-- a route's file and its length, where it closes
abbrev pub closed_if : Bool → Node → Route → ℕ → List ℕ → ℕ → List ℕ
closed_if b n r reason store from = cond b (closed_from n r reason store from) []

abbrev pub size_if : Bool → Route → ℕ
size_if b r = cond b (closed_size r) 0

pub length_if : (n : Node) (r : Route) (reason : ℕ) (store : List ℕ) (from : ℕ) → length r.settings.filter ≡ 20 → (b : Bool)
    → (b ≡ true → (from + r.file.octets ≤ length store) × (r.settings.octets ≤ 20)) → length (closed_if b n r reason store from) ≡ size_if b r
length_if n r reason store from twenty true h = closed_from_length n r reason store from (h refl).0 (h refl).1 twenty
length_if n r reason store from twenty false h = refl

-- the file of a route that takes another's place with the same settings, from the state where it does
pub closed_behind : (m : Manager) (q : Route) (store : List ℕ) (i reason : ℕ) → i < length m.routes → q.settings ≡ settings_at m i
    → closed_from (node_of m) q reason store (base m i) ≡ closed_file (with_route m i q) store i reason
closed_behind m q store i reason there kept =
    closed_is (with_route m i q) store i reason (sym (route_set m i q there)) (sym (base_kept m (with_route m i q) (settings_kept m i q there kept) i))
