-- What placing a record puts together (document 01, The events): what the steps need of state, store and output, and that the
-- route, the store and the output that they leave are those of the definition. Assumes nothing.
use Rattle.std.specs.Prelude.{◌≡◌, refl, Bool, true, false, cond, List, [], ◌++◌, ℕ, ◌+◌, ◌≤◌, ◌<◌, ltb, length}
use Rattle.std.proofs.Common.{sym, ap, subst, ◌∙◌, arith, lt-ltb, le-ltb}
use Rattle.octets.specs.Splice.{splice, splice_then}
use Rattle.record.specs.declared.RecordHeader.{RecordHeader}
use Rattle.record.specs.Record.{record_octets}
use Rattle.record.specs.Order.{in_width}
use Rattle.state.specs.declared.RouteSettings.{RouteSettings}
use Rattle.state.specs.declared.Route.{Route}
use Rattle.state.specs.declared.Node.{Node}
use Rattle.state.specs.Manager.{Manager}
use Rattle.state.specs.Manager.{route_at, node_of, base}
use Rattle.state.specs.Within.{SettingsWithin, RouteWithin}
use Rattle.filing.specs.Closing.{lost_octet, closed_size}
use Rattle.filing.specs.Closed.{closed_from_lem}
use Rattle.filing.specs.Needs.{Appendable, Closable}
use Rattle.events.specs.declared.Arrival.{Arrival}
use Rattle.events.specs.Rules.{opened_route, closed_route, header_for, record_size, appended_route, full}
use Rattle.events.specs.Receive.{turns, turn_reason, ready, holding, finished, record_of, placed_size, placed_files, store_with, turned_file, filled_file}
use Rattle.placing.specs.declared.Placed.{Placed}
use Rattle.placing.specs.Plan.{Plan, planned, finished_by, Placeable, Roomy, ready_roomy}
use Rattle.placing.specs.Files.{closed_if, size_if, length_if, closed_behind}

-- what placing a record leaves
pub record Left : Type 0 where
  pub placed : Placed
  pub store : List ℕ
  pub output : List ℕ

abbrev pub left : Placed → List ℕ → List ℕ → Left
left p store output = record { placed = p; store = store; output = output }

-- nothing is done where the files that would close are longer than the output
abbrev pub too_long : Route → ℕ → Placed
too_long r octets = record { fits = false; route = r; files = 0; octets = octets }

-- the store with the record behind the file's other records, which stand from a place on
abbrev pub store_from : ℕ → Route → List ℕ → Arrival → List ℕ → ℕ → List ℕ
store_from from r store a body t = splice store (from + (ready r a (length body) t).file.octets) (record_octets (record_of a body))

-- else the record is in the store, and the files that it closes are in the output
abbrev pub place_of : Node → ℕ → Route → List ℕ → List ℕ → ℕ → Arrival → List ℕ → Left
place_of n from r store output t a body =
    cond (ltb (length output) (placed_size r a (length body) t))
    (left (too_long r (placed_size r a (length body) t)) store output)
    (left
    (record {
      fits = true;
      route = finished r a (length body) t;
      files = placed_files r a (length body) t;
      octets = placed_size r a (length body) t;
    })
    (store_from from r store a body t)
    (splice output 0
    (closed_if (turns r a (length body)) n r (turn_reason r a) store from
    ++ closed_if (full (holding r a (length body) t)) n (holding r a (length body) t) 3 (store_from from r store a body t) from)))

-- what the steps of a plan need: the record fits its region, and each file that closes fits the output, the second behind the first
pub record Carried (n : Node) (from : ℕ) (store output : List ℕ) (r : Route) (p : Plan) (h : RecordHeader) (body : List ℕ) : Type 0 where
  pub append : Appendable store from r.settings.limit p.used h body
  pub before : p.turns ≡ true → Closable n r (lost_octet r) store from output 0
  pub behind : p.fills ≡ true
      → Closable n p.holding (lost_octet p.holding) store from output (size_if p.turns r)

-- what they leave: the record in the store, and in the output the files that close, one behind the other
abbrev pub CarriedOut : Node → ℕ → List ℕ → List ℕ → Route → Plan → RecordHeader → List ℕ → List ℕ → List ℕ → Type 0
CarriedOut n from store output r p h body store' output' =
    (store' ≡ splice store (from + p.used) (record_octets (record { header = h; body = body })))
    × (output' ≡ splice output 0 (closed_if p.turns n r p.reason store from ++ closed_if p.fills n p.holding 3 store' from))

-- only the lengths of store and output matter to a closing, so what is written before it does not
pub closable_kept : {n : Node} {r : Route} {octet from at : ℕ} {store store' output output' : List ℕ} {at' : ℕ}
    → at' ≡ at → length store' ≡ length store → length output' ≡ length output
    → Closable n r octet store from output at → Closable n r octet store' from output' at'
closable_kept ea es eu c =
    record {
      headed = c.headed;
      high = c.high;
      high_version = c.high_version;
      low = c.low;
      low_version = c.low_version;
      filter = c.filter;
      count = c.count;
      records = omega (arith, c.records);
      size = c.size;
      room = omega (arith, c.room);
    }

-- what the steps leave: the second file stands behind the first, whose length is known
module _ (n : Node) (from : ℕ) (store output : List ℕ) (r : Route) (p : Plan) (h : RecordHeader) (body : List ℕ) where
  pub carried_made : Carried n from store output r p h body → length r.settings.filter ≡ 20 → {at : ℕ} (store' : List ℕ) {o₁ o₂ : List ℕ}
      → at ≡ size_if p.turns r
      → o₁ ≡ splice output 0 (closed_if p.turns n r p.reason store from)
      → o₂ ≡ splice o₁ at (closed_if p.fills n p.holding 3 store' from)
      → o₂ ≡ splice output 0 (closed_if p.turns n r p.reason store from ++ closed_if p.fills n p.holding 3 store' from)
  carried_made c twenty {at} store' {o₁} {o₂} ea e₁ e₂ =
      let one = closed_if p.turns n r p.reason store from in
      let two = closed_if p.fills n p.holding 3 store' from in
      let l : length one ≡ size_if p.turns r =
      length_if n r p.reason store from twenty p.turns (λ e. ((c.before e).records, (c.before e).filter)) in
      e₂ ∙ ap (λ (o : List ℕ). splice o at two) e₁ ∙ splice_then output 0 one (omega arith) two at (omega arith)

-- what a plan leaves of its route, with the number and the octets of the files that it closes
abbrev pub placed_by : Plan → ℕ → Placed
placed_by p octets = record { fits = true; route = finished_by p; files = cond p.turns 1 0 + cond p.fills 1 0; octets = octets }

-- what the plan says of the octets that are needed
pub needed_made : (r : Route) (a : Arrival) (body t : ℕ) {p : Plan} {before behind : ℕ} → p ≡ planned r a body t → before ≡ size_if p.turns r
    → behind ≡ size_if p.fills p.holding → before + behind ≡ placed_size r a body t
needed_made r a body t ep eb ee = (λ i. eb i + ee i) ∙ (λ i. size_if (ep i).turns r + size_if (ep i).fills (ep i).holding)

-- each of the two files has its part of the octets that are needed
first_part : {b : Bool} (x y : ℕ) {n : ℕ} → cond b x 0 + y ≤ n → b ≡ true → 0 + x ≤ n
first_part {b} x y {n} h e = let k : x + y ≤ n = rw e at h in omega arith

both_parts : {b : Bool} (x y : ℕ) {n : ℕ} → x + cond b y 0 ≤ n → b ≡ true → x + y ≤ n
both_parts x y h e = rw e at h

-- only an open file closes before the record
turns_open : (r : Route) (a : Arrival) (body : ℕ) → turns r a body ≡ true → r.«open» ≡ true
turns_open r a body e = go r.«open» refl
  where
    go : (b : Bool) → r.«open» ≡ b → b ≡ true
    go true p = refl
    go false p = rw p at e

module _ (n : Node) (store output : List ℕ) (from at : ℕ) (bias : n.bias ≤ 2878) where
  -- an open file of a state within its bounds can close
  open_closable : (r : Route) → RouteWithin 52595999 r → r.«open» ≡ true → from + r.settings.limit ≤ length store → at + closed_size r ≤ length output
      → Closable n r (lost_octet r) store from output at
  open_closable r w o region room =
      let f = w.file o in
      let s = w.settings in
      let high = in_width r.file.high f.high in
      let low = in_width r.file.low f.low in
      let size : closed_size r ≤ r.settings.limit = f.size in
      record {
        headed = record { opened = omega (arith, f.opened, f.appended); appended = f.appended; bias = bias; lost = refl };
        high = high.release;
        high_version = high.version;
        low = low.release;
        low_version = low.version;
        filter = s.octets;
        count = omega (arith, f.records, s.limit_most);
        records = omega arith;
        size = omega (arith, s.limit_most);
        room = room;
      }

  -- and so can a file with the record in it
  held_closable : (s : RouteSettings) (q : Route) (h : RecordHeader) (octets t : ℕ) → SettingsWithin s → Roomy s q h octets → t ≤ 52595999
      → from + s.limit ≤ length store → at + closed_size (appended_route q h octets t) ≤ length output
      → Closable n (appended_route q h octets t) (lost_octet q) store from output at
  held_closable s q h octets t w y time region room =
      let e : q.settings.octets ≡ s.octets = ap (λ (x : RouteSettings). x.octets) y.settings in
      let size : closed_size (appended_route q h octets t) ≤ s.limit = omega (arith, y.size) in
      record {
        headed = record { opened = y.opened; appended = time; bias = bias; lost = refl };
        high = y.high.release;
        high_version = y.high.version;
        low = y.low.release;
        low_version = y.low.version;
        filter = omega (arith, w.octets);
        count = omega (arith, y.count, y.size, w.limit_most);
        records = omega (arith, y.size);
        size = omega (arith, w.limit_most);
        room = room;
      }

module _ (n : Node) (from : ℕ) (r : Route) (store output : List ℕ) (t : ℕ) (a : Arrival) (body : List ℕ) where
  abbrev p : Plan
  p = planned r a (length body) t

  -- the files are too long
  pub place_refused : {octets : ℕ} → octets ≡ placed_size r a (length body) t → length output < octets
      → left (too_long r octets) store output ≡ place_of n from r store output t a body
  place_refused {octets} en less =
      let k : length output < placed_size r a (length body) t = omega arith in
      let b : ltb (length output) (placed_size r a (length body) t) ≡ true = lt-ltb _ _ k in
      ap (λ (x : ℕ). left (too_long r x) store output) en ∙ sym (rw b)

  module _ (l : Placeable n from r (length store) t a (length body)) where
    roomy : Roomy r.settings (ready r a (length body) t) (header_for a) (record_size a (length body))
    roomy = ready_roomy r a (length body) t l.suitable

    appendable : Appendable store from r.settings.limit p.used (header_for a) body
    appendable =
        let u = l.suitable.usable in
        record {
          narrow = record { release = u.release; version = u.version; format = u.format; ts = u.ts };
          short = l.suitable.short;
          region = l.region;
          room = omega (arith, roomy.size);
        }

    -- the plan can be carried out
    pub carried : placed_size r a (length body) t ≤ length output → {p' : Plan} {h : RecordHeader} → p' ≡ p → h ≡ header_for a → Carried n from store output r p' h body
    carried fits {p'} {h} ep eh =
        let s = l.suitable in
        let c : Carried n from store output r p (header_for a) body =
        record {
          append = appendable;
          before = λ e. open_closable n store output from 0 l.bias r s.within (turns_open r a (length body) e) l.region (first_part (closed_size r) (size_if p.fills p.holding) fits e);
          behind = λ e. held_closable n store output from (size_if p.turns r) l.bias r.settings (ready r a (length body) t) (header_for a)
              (record_size a (length body)) t s.within.settings roomy s.time l.region (both_parts (size_if p.turns r) (closed_size p.holding) fits e);
        } in
        subst (λ (x : Plan). Carried n from store output r x h body) (sym ep)
        (subst (λ (g : RecordHeader). Carried n from store output r p g body) (sym eh) c)

    -- and what it leaves is what the definition says
    pub place_made : {p' : Plan} {h : RecordHeader} {q : Placed} {octets : ℕ} {store' output' : List ℕ}
        → p' ≡ p → h ≡ header_for a → octets ≡ placed_size r a (length body) t → octets ≤ length output
        → store' ≡ splice store (from + p'.used) (record_octets (record { header = h; body = body }))
        → output' ≡ splice output 0 (closed_if p'.turns n r p'.reason store from ++ closed_if p'.fills n p'.holding 3 store' from)
        → q ≡ placed_by p' octets
        → left q store' output' ≡ place_of n from r store output t a body
    place_made {p'} {h} {q} {octets} {store'} {output'} ep eh en fits es eo ea =
        let k : placed_size r a (length body) t ≤ length output = omega arith in
        let b : ltb (length output) (placed_size r a (length body) t) ≡ false = le-ltb _ _ k in
        let s : store' ≡ store_from from r store a body t = es ∙ (λ j. splice store (from + (ep j).used) (record_octets (record { header = eh j; body = body }))) in
        let out : output' ≡ splice output 0 (closed_if p.turns n r p.reason store from ++ closed_if p.fills n p.holding 3 (store_from from r store a body t) from) =
        eo ∙ (λ j. splice output 0 (closed_if (ep j).turns n r (ep j).reason store from ++ closed_if (ep j).fills n (ep j).holding 3 (s j) from)) in
        let answer : q ≡ placed_by p (placed_size r a (length body) t) = ea ∙ (λ j. placed_by (ep j) (en j)) in
        (λ j. left (answer j) (s j) (out j)) ∙ sym (rw b)

-- In a state, on a route's number: the store and the output that the definition of RECEIVE has.
module _ (m : Manager) (store output : List ℕ) (t : ℕ) (a : Arrival) (body : List ℕ) (i : ℕ) where
  -- the settings stay
  ready_settings : (r : Route) (b o : Bool) → (cond b (opened_route (closed_route r) t) (cond o r (opened_route r t))).settings ≡ r.settings
  ready_settings r true o = refl
  ready_settings r false true = refl
  ready_settings r false false = refl

  pub placed_there : i < length m.routes
      → splice output 0
      (closed_if (turns (route_at m i) a (length body)) (node_of m) (route_at m i) (turn_reason (route_at m i) a) store (base m i)
      ++ closed_if (full (holding (route_at m i) a (length body) t)) (node_of m) (holding (route_at m i) a (length body) t) 3 (store_from (base m i) (route_at m i) store a body t) (base m i))
      ≡ splice output 0 (turned_file m store i a (length body) ++ filled_file m store i a body t)
  placed_there there =
      let r = route_at m i in
      let kept = ready_settings r (turns r a (length body)) r.«open» in
      λ j. splice output 0
      (cond (turns r a (length body)) (sym (closed_from_lem m store i (turn_reason r a)) j) []
      ++ cond (full (holding r a (length body) t)) (closed_behind m (holding r a (length body) t) (store_with m store i a body t) i 3 there kept j) [])
