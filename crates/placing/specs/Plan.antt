-- What a placed record does to its route (document 01, The events), as the code works it out before it writes, and why the file
-- that takes the record stays within its bounds: where it is a new one the record fits alone, since it is not lost; where it is
-- the open one, it would have closed with 1 otherwise. Assumes nothing.
use Rattle.std.specs.Prelude.{◌≡◌, refl, Bool, true, false, cond, ◌||◌, ℕ, ◌+◌, ◌*◌, ◌≤◌, ◌<◌, ◌^◌, ltb, eqb}
use Rattle.std.proofs.Common.{ap, ◌∙◌, arith, ltb-false}
use Rattle.refusals.specs.Refusal.{or_false}
use Rattle.record.specs.declared.Release.{Release}
use Rattle.record.specs.declared.RecordHeader.{RecordHeader}
use Rattle.record.specs.Release.{rank, header_length}
use Rattle.record.specs.Order.{InWidth, in_width}
use Rattle.state.specs.declared.RouteSettings.{RouteSettings}
use Rattle.state.specs.declared.Route.{Route}
use Rattle.state.specs.declared.Node.{Node}
use Rattle.state.specs.Manager.{Manager}
use Rattle.state.specs.Manager.{route_at, node_of, base, regions}
use Rattle.state.specs.Size.{header_size, alone_size}
use Rattle.state.specs.Bounds.{state_right}
use Rattle.state.specs.Within.{RouteWithin, within}
use Rattle.state.specs.Keep.{route_later}
use Rattle.state.specs.Regions.{region_within, regions_all}
use Rattle.events.specs.declared.Arrival.{Arrival}
use Rattle.events.specs.Rules.{opened_route, closed_route, high_with, low_with, appended_route, differs, exceeds, full, header_for, record_size}
use Rattle.events.specs.Receive.{is_lost, turns, turn_reason, ready, holding}

-- the fields of a record that can be placed are within their widths
pub record Usable (a : Arrival) : Type 0 where
  pub release : a.release < 8
  pub version : a.version < 32
  pub format : a.format < 8
  pub ts : a.ts < 32

-- the route with an open file for the record
abbrev pub readied : Route → Bool → ℕ → Route
readied r b t = cond b (opened_route (closed_route r) t) (cond r.«open» r (opened_route r t))

-- what a placed record does to its route: whether it closes the open file first, and with which reason; how many octets of records stand
-- before it in the file that takes it; the route with it in that file; and whether this fills the file
pub record Plan : Type 0 where
  pub turns : Bool
  pub reason : ℕ
  pub used : ℕ
  pub holding : Route
  pub fills : Bool

abbrev pub planned : Route → Arrival → ℕ → ℕ → Plan
planned r a body t =
    record {
      turns = turns r a body;
      reason = turn_reason r a;
      used = (ready r a body t).file.octets;
      holding = holding r a body t;
      fills = full (holding r a body t);
    }

-- the route behind the event
abbrev pub finished_by : Plan → Route
finished_by p = cond p.fills (closed_route p.holding) p.holding

-- a route, a record that is not lost there, and an effective time
pub record Suitable (r : Route) (a : Arrival) (body t : ℕ) : Type 0 where
  pub within : RouteWithin 52595999 r
  pub usable : Usable a
  pub short : body ≤ 65534
  pub alone : alone_size r.settings.octets (header_for a).release (record_size a body) ≤ r.settings.limit
  pub time : t ≤ 52595999

-- a record's octets
pub size_is : (a : Arrival) (body : ℕ) {h : RecordHeader} {n : ℕ} → h ≡ header_for a → n ≡ header_length h.release → n + body ≡ record_size a body
size_is a body eh en = ap (λ (k : ℕ). k + body) (en ∙ ap (λ (g : RecordHeader). header_length g.release) eh)

-- What the code puts together, step by step, is the plan.
module _ (r : Route) (a : Arrival) (body t : ℕ) {h : RecordHeader} {n : ℕ} {d x : Bool} {q : Route} (eh : h ≡ header_for a)
    (en : n ≡ header_length h.release) (ed : d ≡ differs r h) (ex : x ≡ exceeds r h (n + body)) (eq : q ≡ readied r (d || x) t) where
  pub size_made : n + body ≡ record_size a body
  size_made = size_is a body eh en

  differs_made : d ≡ differs r (header_for a)
  differs_made = ed ∙ ap (differs r) eh

  exceeds_made : x ≡ exceeds r (header_for a) (record_size a body)
  exceeds_made = ex ∙ (λ i. exceeds r (eh i) (size_made i))

  pub ready_made : q ≡ ready r a body t
  ready_made = eq ∙ (λ i. readied r (differs_made i || exceeds_made i) t)

  pub plan_made : {reason : ℕ} {f : Bool} {held : Route} → reason ≡ cond d 5 1 → held ≡ appended_route q h (n + body) t → f ≡ full held
      → ◌≡◌ {A = Plan} (record { turns = d || x; reason = reason; used = q.file.octets; holding = held; fills = f }) (planned r a body t)
  plan_made {reason} {f} {held} er el ef =
      let l : held ≡ holding r a body t = el ∙ (λ i. appended_route (ready_made i) (eh i) (size_made i) t) in
      let e : reason ≡ turn_reason r a = er ∙ (λ i. cond (differs_made i) 5 1) in
      let g : f ≡ full (holding r a body t) = ef ∙ ap full l in
      λ i. record { turns = differs_made i || exceeds_made i; reason = e i; used = (ready_made i).file.octets; holding = l i; fills = g i }

one_of : {x y : Release} (b : Bool) → InWidth x → InWidth y → InWidth (cond b x y)
one_of true p q = p
one_of false p q = q

-- A file that can take a record of header h and so many octets: with it, the file is within the limit.
pub record Roomy (s : RouteSettings) (q : Route) (h : RecordHeader) (octets : ℕ) : Type 0 where
  pub settings : q.settings ≡ s
  pub opened : q.file.opened ≤ 52595999
  pub count : 4 * q.file.count ≤ q.file.octets
  pub high : InWidth (high_with q.file h.release)
  pub low : InWidth (low_with q.file h.release)
  pub size : header_size s.octets (high_with q.file h.release) (low_with q.file h.release) + q.file.octets + octets ≤ s.limit

module _ (r : Route) (h : RecordHeader) (octets : ℕ) (width : InWidth h.release) where
  -- a file just opened
  opened_roomy : (t : ℕ) → t ≤ 52595999 → alone_size r.settings.octets h.release octets ≤ r.settings.limit
      → Roomy r.settings (opened_route r t) h octets
  opened_roomy t le alone = record { settings = refl; opened = le; count = omega arith; high = width; low = width; size = omega arith }

  -- the open file, if it does not close with 1
  kept_roomy : RouteWithin 52595999 r → r.«open» ≡ true → exceeds r h octets ≡ false → Roomy r.settings r h octets
  kept_roomy w o e =
      let f = w.file o in
      let b : ltb r.settings.limit (header_size r.settings.octets (high_with r.file h.release) (low_with r.file h.release) + r.file.octets + octets) ≡ false = rw o at e in
      record {
        settings = refl;
        opened = omega (arith, f.opened, f.appended);
        count = f.records;
        high = one_of (eqb r.file.count 0) width (one_of (ltb (rank r.file.high) (rank h.release)) width (in_width r.file.high f.high));
        low = one_of (eqb r.file.count 0) width (one_of (ltb (rank h.release) (rank r.file.low)) width (in_width r.file.low f.low));
        size = ltb-false _ _ b;
      }

module _ (r : Route) (a : Arrival) (body t : ℕ) (s : Suitable r a body t) where
  width : InWidth (header_for a).release
  width = record { release = s.usable.release; version = s.usable.version }

  -- so in each case the file has room for the record
  pub ready_roomy : Roomy r.settings (ready r a body t) (header_for a) (record_size a body)
  ready_roomy = go (turns r a body) refl r.«open» refl
    where
      go : (b : Bool) → turns r a body ≡ b → (o : Bool) → r.«open» ≡ o
          → Roomy r.settings (cond b (opened_route (closed_route r) t) (cond o r (opened_route r t))) (header_for a) (record_size a body)
      go true e o p = opened_roomy (closed_route r) (header_for a) (record_size a body) width t s.time s.alone
      go false e true p =
          kept_roomy r (header_for a) (record_size a body) width s.within p
          (or_false (differs r (header_for a)) (exceeds r (header_for a) (record_size a body)) e).1
      go false e false p = opened_roomy r (header_for a) (record_size a body) width t s.time s.alone

  -- and the numbers of the file with the record fit 32 bits
  pub append_fits : {q : Route} {k : ℕ} → q ≡ ready r a body t → k ≡ record_size a body → (q.file.count + 1 < 2 ^ 32) × (q.file.octets + k < 2 ^ 32)
  append_fits {q} {k} eq ek =
      let y = ready_roomy in
      let m = s.within.settings.limit_most in
      let c : q.file.count ≡ (ready r a body t).file.count = ap (λ (p : Route). p.file.count) eq in
      let o : q.file.octets ≡ (ready r a body t).file.octets = ap (λ (p : Route). p.file.octets) eq in
      (omega (arith, y.count, y.size), omega (arith, y.size))

-- a node, where a region of the store starts, the route that it is of, the length of the store, and a record that is placed there
pub record Placeable (n : Node) (from : ℕ) (r : Route) (store t : ℕ) (a : Arrival) (body : ℕ) : Type 0 where
  pub bias : n.bias ≤ 2878
  pub suitable : Suitable r a body t
  pub region : from + r.settings.limit ≤ store

-- so it is in a state within its bounds, with all regions in the store, where the record is not lost
pub record PlaceableAt (m : Manager) (store t : ℕ) (a : Arrival) (body i : ℕ) : Type 0 where
  pub right : state_right m ≡ true
  pub inside : i < m.count
  pub usable : Usable a
  pub placed : is_lost m a i body ≡ false
  pub regions : regions m ≤ store
  pub time : t ≤ 52595999

pub placeable : {m : Manager} {store t : ℕ} {a : Arrival} {body i : ℕ} → PlaceableAt m store t a body i
    → Placeable (node_of m) (base m i) (route_at m i) store t a body
placeable {m} {store} {t} {a} {body} {i} p =
    let w = within m p.right in
    let s = (route_at m i).settings in
    let l = or_false (eqb a.mark 1 || ltb 65534 body) (ltb s.limit (alone_size s.octets (header_for a).release (record_size a body))) p.placed in
    let k = or_false (eqb a.mark 1) (ltb 65534 body) l.0 in
    record {
      bias = w.bias;
      suitable =
          record {
            within = route_later (w.routes i p.inside) w.last;
            usable = p.usable;
            short = ltb-false 65534 body k.1;
            alone = ltb-false _ _ l.1;
            time = p.time;
          };
      region = omega (arith, region_within m i m.count p.inside, regions_all m w.few, p.regions);
    }

-- the same of a node, a route and a place that are the state's
pub placeable_as : (m : Manager) (i : ℕ) {n : Node} {from : ℕ} {r : Route} {store t : ℕ} {a : Arrival} {body : ℕ} → n ≡ node_of m → from ≡ base m i → r ≡ route_at m i
    → Placeable (node_of m) (base m i) (route_at m i) store t a body → Placeable n from r store t a body
placeable_as m i en eb er p = rw (en, eb, er) p
