-- The cases of `receive_of` (document 01, Routing and loss, The events; Refusals): refused by 18, 16 or 4, by 5, or one of the
-- three outcomes, each with its own refusal. And what it says of an arrival that it passed 5 and was routed. Assumes nothing.
use Rattle.std.specs.Prelude.{◌≡◌, refl, Bool, true, false, cond, not, ◌&&◌, ◌||◌, List, [], ◌∷◌, ℕ, ◌≤◌, ◌<◌, eqb, ltb, length}
use Rattle.std.proofs.Common.{sym, ap, ◌∙◌, true≢false, arith, ltb-false, le-ltb, eq-eqb}
use Rattle.std.proofs.lemmas.Bool.{false≢true, not-false}
use Rattle.refusals.specs.Refusal.{Rule, ◌when◌, first, passed, or_false}
use Rattle.state.specs.declared.Node.{Node}
use Rattle.state.specs.declared.Route.{Route}
use Rattle.state.specs.Manager.{Manager}
use Rattle.state.specs.Manager.{route_at, node_of, base, regions, effective}
use Rattle.state.specs.Routing.{Routed, nobody, route_of}
use Rattle.state.specs.Longest.{longest_found}
use Rattle.state.specs.Bounds.{state_right}
use Rattle.events.specs.declared.Arrival.{Arrival}
use Rattle.events.specs.Rules.{opened_route, closed_route, full, wrong_fields, routed_to, compared_to}
use Rattle.events.specs.Events.{Outcome, After, after, changed, refused, settled}
use Rattle.state.specs.Common.{common}
use Rattle.events.specs.Receive.{is_lost, turns, holding, finished, store_with, needed, unrouted_full, counters_full, taken, placed_size, placed_files, unrouted, lost_at, placed_at, receive_of}
use Rattle.state.specs.Common.{judged, early_common}
use Rattle.state.specs.Within.{within}
use Rattle.placing.specs.Plan.{Usable, PlaceableAt}
use Rattle.placing.specs.Made.{Left, place_of, placed_there}

-- with mark 1 the fields of a record are not judged
abbrev pub UsableUnlessMarked : Arrival → Type 0
UsableUnlessMarked a = (a.mark ≡ 1 → ⊥) → Usable a

-- an arrival that passed 5 and is not of mark 2
pub usable : (a : Arrival) (key : ℕ) → wrong_fields a key ≡ false → (a.mark ≡ 2 → ⊥) → UsableUnlessMarked a
usable a key e two one =
    let wide = ltb 7 a.release || ltb 7 a.format || ltb 31 a.version || ltb 31 a.ts || (ltb a.release 7 && not (eqb a.extension 0)) in
    let s = or_false (ltb 2 a.mark || (ltb a.mark 2 && ltb 20 key)) (eqb a.mark 0 && wide) e in
    let m = or_false (ltb 2 a.mark) (ltb a.mark 2 && ltb 20 key) s.0 in
    let small = ltb-false 2 a.mark m.0 in
    let zero : a.mark ≡ 0 = omega arith in
    let w : wide ≡ false = rw (eq-eqb a.mark 0 zero) at s.1 in
    let x = or_false (ltb 7 a.release || ltb 7 a.format || ltb 31 a.version || ltb 31 a.ts) (ltb a.release 7 && not (eqb a.extension 0)) w in
    let t = or_false (ltb 7 a.release || ltb 7 a.format || ltb 31 a.version) (ltb 31 a.ts) x.0 in
    let v = or_false (ltb 7 a.release || ltb 7 a.format) (ltb 31 a.version) t.0 in
    let f = or_false (ltb 7 a.release) (ltb 7 a.format) v.0 in
    record {
      release = omega (arith, ltb-false 7 a.release f.0);
      version = omega (arith, ltb-false 31 a.version v.1);
      format = omega (arith, ltb-false 7 a.format f.1);
      ts = omega (arith, ltb-false 31 a.ts t.1);
    }

-- a routed record has no mark 2, and its route is configured
pub routed : (m : Manager) (a : Arrival) (key : List ℕ) {to : Routed} → to ≡ routed_to m a key → to.found ≡ true
    → (a.mark ≡ 2 → ⊥) × (to.at < m.count)
routed m a key r f =
    let g = go (eqb a.mark 2) refl (ap (λ (q : Routed). q.found) (sym r) ∙ f) in
    (g.0, omega (arith, g.1, ap (λ (q : Routed). q.at) r))
  where
    go : (b : Bool) → eqb a.mark 2 ≡ b → (cond b nobody (route_of m key)).found ≡ true
        → (a.mark ≡ 2 → ⊥) × ((cond b nobody (route_of m key)).at < m.count)
    go true p e = absurd (false≢true e)
    go false p e = (λ z. true≢false (sym (eq-eqb _ _ z) ∙ p), (longest_found m key e).below)

-- a record that is not lost has no mark 1
pub unmarked : (m : Manager) (a : Arrival) (i body : ℕ) → is_lost m a i body ≡ false → a.mark ≡ 1 → ⊥
unmarked m a i body e z = let f : true ≡ false = rw (eq-eqb _ _ z) at e in true≢false f

-- the three outcomes, each with its own refusal: 19 for a counter that would rise, 17 for the files that close
abbrev pub unrouted_or : Manager → ℕ → ℕ → Outcome
unrouted_or m t compared =
    cond (unrouted_full m) (refused 19 0 m) (unrouted m [] [] t compared).outcome

abbrev pub lost_or : Manager → ℕ → ℕ → ℕ → Outcome
lost_or m t i compared = cond (eqb (route_at m i).losses 4294967295) (refused 19 0 m) (lost_at m [] [] t i compared).outcome

abbrev placed_or : Manager → List ℕ → List ℕ → ℕ → Arrival → List ℕ → ℕ → ℕ → After
placed_or m store output t a body i compared =
    cond (ltb (length output) (placed_size (route_at m i) a (length body) t))
    (after (refused 17 (placed_size (route_at m i) a (length body) t) m) store output)
    (placed_at m store output t a body i compared)

-- what is told of a placing
abbrev pub told_of : Manager → ℕ → ℕ → ℕ → Left → After
told_of m t i compared p =
    after
    (cond p.placed.fits (changed m t i p.placed.route 2 p.placed.files p.placed.octets compared) (refused 17 p.placed.octets m))
    p.store
    p.output

told_placed : (m : Manager) (store output : List ℕ) (t : ℕ) (a : Arrival) (body : List ℕ) (i compared : ℕ) → i < length m.routes
    → told_of m t i compared (place_of (node_of m) (base m i) (route_at m i) store output t a body) ≡ placed_or m store output t a body i compared
told_placed m store output t a body i compared there =
    go (ltb (length output) (placed_size (route_at m i) a (length body) t)) refl
  where
    go : (b : Bool) → ltb (length output) (placed_size (route_at m i) a (length body) t) ≡ b
        → told_of m t i compared (place_of (node_of m) (base m i) (route_at m i) store output t a body) ≡ placed_or m store output t a body i compared
    go true e = rw e
    go false e =
        rw e
        (ap
        (after
        (changed m t i (finished (route_at m i) a (length body) t) 2 (placed_files (route_at m i) a (length body) t) (placed_size (route_at m i) a (length body) t) compared)
        (store_with m store i a body t))
        (placed_there m store output t a body i there))

-- The shape of the definition, over its conditions: first 18, 16 and 4.
module _ (b18 b16 b4 : Bool) where
  abbrev three : List Rule → List Rule
  three rules = (18 when b18) ∷ (16 when b16) ∷ (4 when b4) ∷ rules

  three_passed : first (three []) ≡ 0 → (b18 ≡ false) × (b16 ≡ false) × (b4 ≡ false)
  three_passed e =
      let p = passed 17 b18 ((16 when b16) ∷ (4 when b4) ∷ []) e in
      let q = passed 15 b16 ((4 when b4) ∷ []) p.1 in
      let r = passed 3 b4 [] q.1 in
      (p.0, q.0, r.0)

module _ (rules : List Rule) (needed : ℕ) (m : Manager) (store output : List ℕ) (done : After) where
  three_refused : (b18 b16 b4 : Bool) {n : ℕ} → n ≡ first (three b18 b16 b4 []) → (n ≡ 0 → ⊥)
      → after (refused n 0 m) store output ≡ settled (first (three b18 b16 b4 rules)) needed m store output done
  three_refused true b16 b4 e some = ap (λ (k : ℕ). after (refused k 0 m) store output) e
  three_refused false true b4 e some = ap (λ (k : ℕ). after (refused k 0 m) store output) e
  three_refused false false true e some = ap (λ (k : ℕ). after (refused k 0 m) store output) e
  three_refused false false false e some = absurd (some e)

  three_left : {b18 b16 b4 : Bool} → (b18 ≡ false) × (b16 ≡ false) × (b4 ≡ false)
      → settled (first rules) needed m store output done ≡ settled (first (three b18 b16 b4 rules)) needed m store output done
  three_left e = sym (rw (e.0, e.1, e.2))

-- Then 5.
module _ (rules : List Rule) (needed : ℕ) (m : Manager) (store output : List ℕ) (done : After) where
  five_refused : {b5 : Bool} → b5 ≡ true → after (refused 5 0 m) store output ≡ settled (first ((5 when b5) ∷ rules)) needed m store output done
  five_refused e = sym (rw e)

  five_left : {b5 : Bool} → b5 ≡ false
      → settled (first rules) needed m store output done ≡ settled (first ((5 when b5) ∷ rules)) needed m store output done
  five_left e = sym (rw e)

-- Behind them 19 and 17, by whether a record is found a route, and lost. `u` and `l` say that a counter of unrouted
-- records, or of the route's losses, is at its end.
module _ (found lost u l : Bool) (size : ℕ) (m : Manager) (store output : List ℕ) (x y z : After) where
  abbrev last_two : List Rule
  last_two = (19 when cond found (lost && l) u) ∷ (17 when ltb (length output) (cond (found && not lost) size 0)) ∷ []

  abbrev behind : After
  behind =
      settled (first last_two) (cond (found && not lost) size 0) m store output (cond found (cond lost x y) z)

module _ (size : ℕ) (m : Manager) (store output : List ℕ) (x y z : After) where
  not_found : (lost u l : Bool) (o : Outcome) → z ≡ after o store output → {found : Bool} → found ≡ false
      → after (cond u (refused 19 0 m) o) store output ≡ behind found lost u l size m store output x y z
  not_found lost u l o e f = go u ∙ ap (λ (b : Bool). behind b lost u l size m store output x y z) (sym f)
    where
      go : (u : Bool) → after (cond u (refused 19 0 m) o) store output ≡ behind false lost u l size m store output x y z
      go true = refl
      go false = sym (rw (le-ltb (length output) 0 (omega arith)) e)

  found_lost : (u l : Bool) (o : Outcome) → x ≡ after o store output → {found lost : Bool} → found ≡ true → lost ≡ true
      → after (cond l (refused 19 0 m) o) store output ≡ behind found lost u l size m store output x y z
  found_lost u l o e f t = go l ∙ (λ i. behind (sym f i) (sym t i) u l size m store output x y z)
    where
      go : (l : Bool) → after (cond l (refused 19 0 m) o) store output ≡ behind true true u l size m store output x y z
      go true = refl
      go false = sym (rw (le-ltb (length output) 0 (omega arith)) e)

  found_placed : (u l : Bool) {found lost : Bool} → found ≡ true → lost ≡ false
      → cond (ltb (length output) size) (after (refused 17 size m) store output) y ≡ behind found lost u l size m store output x y z
  found_placed u l f t = go (ltb (length output) size) refl ∙ (λ i. behind (sym f i) (sym t i) u l size m store output x y z)
    where
      go : (b : Bool) → ltb (length output) size ≡ b → cond b (after (refused 17 size m) store output) y ≡ behind true false u l size m store output x y z
      go true e = sym (rw e)
      go false e = sym (rw e)

module _ (m : Manager) (store output : List ℕ) (time : ℕ) (a : Arrival) (key body : List ℕ) where
  abbrev octets : ℕ
  octets = needed m a key (length body) (effective m time)

  abbrev from19 : List Rule
  from19 = (19 when counters_full m a key (length body)) ∷ (17 when ltb (length output) octets) ∷ []

  abbrev from5 : List Rule
  from5 = (5 when wrong_fields a (length key)) ∷ from19

  abbrev done : After
  done = taken m store output (effective m time) a key body

  -- refused by 18, 16 or 4
  pub receive_common : {n : ℕ} → n ≡ first (common m (length store) time []) → (n ≡ 0 → ⊥)
      → after (refused n 0 m) store output ≡ receive_of m store output time a key body
  unfolding receive_of
  receive_common e some =
      three_refused from5 octets m store output done (not (state_right m)) (ltb (length store) (regions m)) (ltb 52595999 time) e some

  module _ (p : first (common m (length store) time []) ≡ 0) where
    facts : (not (state_right m) ≡ false) × (ltb (length store) (regions m) ≡ false) × (ltb 52595999 time ≡ false)
    facts = three_passed (not (state_right m)) (ltb (length store) (regions m)) (ltb 52595999 time) p

    pub state_right_lem : state_right m ≡ true
    state_right_lem = not-false (state_right m) facts.0

    pub long_store : regions m ≤ length store
    long_store = ltb-false (length store) (regions m) facts.1

    pub right_time : time ≤ 52595999
    right_time = ltb-false 52595999 time facts.2

    common_passed : settled (first from5) octets m store output done ≡ receive_of m store output time a key body
    unfolding receive_of
    common_passed = three_left from5 octets m store output done facts

    -- refused by 5
    pub receive_wrong : wrong_fields a (length key) ≡ true → after (refused 5 0 m) store output ≡ receive_of m store output time a key body
    receive_wrong e = five_refused from19 octets m store output done e ∙ common_passed

    module _ (right : wrong_fields a (length key) ≡ false) where
      -- what is left of the definition behind 5, for the route that was found
      abbrev size : Routed → ℕ
      size to = placed_size (route_at m to.at) a (length body) (effective m time)

      abbrev lose : Routed → After
      lose to = lost_at m store output (effective m time) to.at (compared_to m a key)

      abbrev put : Routed → After
      put to = placed_at m store output (effective m time) a body to.at (compared_to m a key)

      abbrev pass : After
      pass = unrouted m store output (effective m time) (compared_to m a key)

      abbrev u : Bool
      u = unrouted_full m

      abbrev l : Routed → Bool
      l to = eqb (route_at m to.at).losses 4294967295

      abbrev left : Routed → After
      left to = behind to.found (is_lost m a to.at (length body)) u (l to) (size to) m store output (lose to) (put to) pass

      left_of : {to : Routed} → to ≡ routed_to m a key → left to ≡ receive_of m store output time a key body
      left_of r = ap left r ∙ five_left from19 octets m store output done right ∙ common_passed

      -- with the octets that were compared
      module _ {k : ℕ} (ek : k ≡ compared_to m a key) where
        pub receive_unrouted : {to : Routed} → to ≡ routed_to m a key → to.found ≡ false
            → after (unrouted_or m (effective m time) k) store output ≡ receive_of m store output time a key body
        receive_unrouted {to} r f =
            ap (λ (x : ℕ). after (unrouted_or m (effective m time) x) store output) ek
            ∙ not_found (size to) m store output (lose to) (put to) pass (is_lost m a to.at (length body)) u (l to)
            (unrouted m [] [] (effective m time) (compared_to m a key)).outcome refl f
            ∙ left_of r

        module _ {to : Routed} (r : to ≡ routed_to m a key) (f : to.found ≡ true) where
          pub receive_lost : is_lost m a to.at (length body) ≡ true
              → after (lost_or m (effective m time) to.at k) store output ≡ receive_of m store output time a key body
          receive_lost e =
              ap (λ (x : ℕ). after (lost_or m (effective m time) to.at x) store output) ek
              ∙ found_lost (size to) m store output (lose to) (put to) pass u (l to) (lost_at m [] [] (effective m time) to.at (compared_to m a key)).outcome refl f e
              ∙ left_of r

          module _ (e : is_lost m a to.at (length body) ≡ false) {t from : ℕ} {n : Node} {route : Route} (et : t ≡ effective m time) (en : n ≡ node_of m)
              (eb : from ≡ base m to.at) (er : route ≡ route_at m to.at) (there : to.at < length m.routes)
              {q : Left} (eq : q ≡ place_of n from route store output t a body) where
            told_receive : told_of m t to.at k q ≡ receive_of m store output time a key body
            told_receive =
                ap (told_of m t to.at k) eq
                ∙ (λ i. told_of m (et i) to.at (ek i) (place_of (en i) (eb i) (er i) store output (et i) a body))
                ∙ told_placed m store output (effective m time) a body to.at (compared_to m a key) there
                ∙ found_placed (size to) m store output (lose to) (put to) pass u (l to) f e
                ∙ left_of r

            pub receive_short : q.placed.fits ≡ false → after (refused 17 q.placed.octets m) q.store q.output ≡ receive_of m store output time a key body
            receive_short b = ap (λ (x : Outcome). after x q.store q.output) (sym (rw b)) ∙ told_receive

            pub receive_placed : q.placed.fits ≡ true
                → after (changed m t to.at q.placed.route 2 q.placed.files q.placed.octets k) q.store q.output ≡ receive_of m store output time a key body
            receive_placed b = ap (λ (x : Outcome). after x q.store q.output) (sym (rw b)) ∙ told_receive

-- The route that a placing leaves: its settings are as they were, and its opening is below bit 31.
module _ (n : Node) (from : ℕ) (r : Route) (store output : List ℕ) (t : ℕ) (a : Arrival) (body : List ℕ) {q : Left} (e : q ≡ place_of n from r store output t a body) (f : q.placed.fits ≡ true) where
  -- refused, nothing would fit
  pub placed_route : q.placed.route ≡ finished r a (length body) t
  placed_route = go (ltb (length output) (placed_size r a (length body) t)) refl
    where
      go : (b : Bool) → ltb (length output) (placed_size r a (length body) t) ≡ b → q.placed.route ≡ finished r a (length body) t
      go true p = absurd (true≢false (sym f ∙ ap (λ (x : Left). x.placed.fits) e ∙ rw p))
      go false p = ap (λ (x : Left). x.placed.route) e ∙ rw p

-- the settings stay
ready_settings : (r : Route) (t : ℕ) (b o : Bool) → (cond b (opened_route (closed_route r) t) (cond o r (opened_route r t))).settings ≡ r.settings
ready_settings r t true o = refl
ready_settings r t false true = refl
ready_settings r t false false = refl

either_settings : (b : Bool) (h : Route) → (cond b (closed_route h) h).settings ≡ h.settings
either_settings true h = refl
either_settings false h = refl

pub finished_settings : (r : Route) (a : Arrival) (body t : ℕ) → (finished r a body t).settings ≡ r.settings
finished_settings r a body t =
    either_settings (full (holding r a body t)) (holding r a body t) ∙ ready_settings r t (turns r a body) r.«open»

-- the opening
module _ (r : Route) (t : ℕ) (opened : r.file.opened < 2147483648) (early : t < 2147483648) where
  ready_opened : (b o : Bool) → (cond b (opened_route (closed_route r) t) (cond o r (opened_route r t))).file.opened < 2147483648
  ready_opened true o = early
  ready_opened false true = opened
  ready_opened false false = early

  pub finished_early : (a : Arrival) (body : ℕ) → (finished r a body t).file.opened < 2147483648
  finished_early a body = go (full (holding r a body t))
    where
      go : (b : Bool) → (cond b (closed_route (holding r a body t)) (holding r a body t)).file.opened < 2147483648
      go true = omega arith
      go false = ready_opened (turns r a body) r.«open»

-- A routed record that is not lost, behind the refusals before 17, can be placed on its route.
pub placeable_there : (m : Manager) (store output : List ℕ) (time : ℕ) (a : Arrival) (key body : List ℕ) → first (judged m (length store) []) ≡ 0 → time ≤ 52595999
    → wrong_fields a (length key) ≡ false → {to : Routed} → to ≡ routed_to m a key → to.found ≡ true → {t : ℕ} → t ≡ effective m time
    → is_lost m a to.at (length body) ≡ false → PlaceableAt m (length store) t a (length body) to.at
placeable_there m store output time a key body judgement low fields {to} r f et placed =
    let p = early_common m (length store) time judgement low in
    let right = state_right_lem m store output time a key body p in
    let w = within m right in
    let g = routed m a key r f in
    record {
      right = right;
      inside = g.1;
      usable = usable a (length key) fields g.0 (unmarked m a to.at (length body) placed);
      placed = placed;
      regions = long_store m store output time a key body p;
      time = omega (arith, et, w.last, low);
    }
