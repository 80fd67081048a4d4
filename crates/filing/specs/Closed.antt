-- The octets of a closed file (document 01, File header, The events) from its route and the place of its records in the store,
-- as the code has them: it is the file of the closing, and as long as the state says. Assumes nothing.
use Rattle.std.specs.Prelude.{◌≡◌, refl, List, ℕ, ◌+◌, ◌≤◌, length, take, drop}
use Rattle.std.proofs.Common.{sym, ap, ◌∙◌, arith, length-drop, length-take-le}
use Rattle.cdrfile.specs.File.{file_octets}
use Rattle.cdrfile.specs.Laws.{file_length}
use Rattle.state.specs.declared.Route.{Route}
use Rattle.state.specs.declared.Node.{Node}
use Rattle.state.specs.Manager.{Manager}
use Rattle.state.specs.Manager.{route_at, filter_of, base, node_of}
use Rattle.filing.specs.Closing.{header_for, counts_of, closed_file, closed_size}

-- the file of a route whose records stand in the store from a place on
abbrev pub closed_from : Node → Route → ℕ → List ℕ → ℕ → List ℕ
closed_from n r reason store from =
    file_octets (header_for n r reason) (filter_of r.settings) (counts_of r) (take r.file.octets (drop from store)) r.file.count

-- from the start of its region it is the file that a closing writes
pub closed_from_lem : (m : Manager) (store : List ℕ) (i reason : ℕ) → closed_file m store i reason ≡ closed_from (node_of m) (route_at m i) reason store (base m i)
unfolding closed_file
closed_from_lem m store i reason = refl

-- the same, of a route and a place that are those of a route's number
pub closed_is : (m : Manager) (store : List ℕ) (i reason : ℕ) {r : Route} {from : ℕ} → r ≡ route_at m i → from ≡ base m i
    → closed_from (node_of m) r reason store from ≡ closed_file m store i reason
closed_is m store i reason er ef = (λ k. closed_from (node_of m) (er k) reason store (ef k)) ∙ sym (closed_from_lem m store i reason)

-- it is as long as the state says, where the records lie in the store and the filter has its 20 octets
module _ (n : Node) (r : Route) (reason : ℕ) (store : List ℕ) (from : ℕ) where
  pub closed_from_length : from + r.file.octets ≤ length store → r.settings.octets ≤ 20 → length r.settings.filter ≡ 20
      → length (closed_from n r reason store from) ≡ closed_size r
  closed_from_length records few twenty =
      let f = length-take-le r.settings.octets r.settings.filter (omega arith) in
      let d = length-drop from store in
      let b = length-take-le r.file.octets (drop from store) (omega arith) in
      let l = file_length (header_for n r reason) (filter_of r.settings) (counts_of r) (take r.file.octets (drop from store)) r.file.count in
      omega arith

pub closed_length : (m : Manager) (store : List ℕ) (i reason : ℕ) → base m i + (route_at m i).file.octets ≤ length store → (route_at m i).settings.octets ≤ 20
    → length (route_at m i).settings.filter ≡ 20
    → length (closed_file m store i reason) ≡ closed_size (route_at m i)
closed_length m store i reason records few twenty =
    ap length (closed_from_lem m store i reason) ∙ closed_from_length (node_of m) (route_at m i) reason store (base m i) records few twenty
