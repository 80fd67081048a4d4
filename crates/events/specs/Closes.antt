-- What a RECEIVE closes (document 01, The events), over any words, store, output and arguments, accepted or refused (`receive_one`): at most one
-- file, whose octets then stand over the start of the output. It is the open file, closed with 5 or 1 before the record, or the file that the
-- record fills, closed with 3. A file that closes before the record has records (`turned_some`): an empty file takes any placed record, which
-- fits a file alone. The record then is the first of its file and does not fill it too: the closed file had a record and room for another, so
-- the limit of records is none or above 1.
use Rattle.std.specs.Prelude.{◌≡◌, ℕ, zero, suc, ◌+◌, ◌<◌, ◌≤◌, Bool, true, false, cond, not, ◌&&◌, ◌||◌, ltb, List, [], ◌∷◌, ◌++◌, length, ◌==◌, nat_lt}
use Rattle.std.proofs.Math.Path.{refl}
use Rattle.std.proofs.Common.{sym, ap, ◌∙◌, append-nil, arith, ltb-false, le-ltb, lt-ltb, eq-eqb, ne_eqb}
use Rattle.std.proofs.lemmas.Bool.{false≢true, not-false}
use Rattle.std.proofs.Math.Decide.{ℕ_discrete}
use Rattle.octets.specs.Splice.{splice, splice_nil}
use Rattle.refusals.specs.Refusal.{Rule, ◌when◌, first, passed, or_false}
use Rattle.state.specs.declared.Route.{Route}
use Rattle.state.specs.Manager.{Manager}
use Rattle.state.specs.Manager.{route_at, regions, effective, with_route}
use Rattle.state.specs.Size.{header_size, alone_size}
use Rattle.state.specs.Bounds.{same_release, state_right}
use Rattle.state.specs.Within.{RouteWithin, within}
use Rattle.state.specs.Routing.{nobody, route_of}
use Rattle.state.specs.Longest.{longest_found}
use Rattle.words.specs.Words.{manager_in}
use Rattle.filing.specs.Closing.{closed_file}
use Rattle.events.specs.declared.Arrival.{Arrival}
use Rattle.events.specs.Rules.{opened_route, closed_route, appended_route, later, earlier, high_with, low_with, differs, exceeds, full, wrong_fields, header_for, record_size, routed_to, compared_to}
use Rattle.events.specs.Events.{After, settled}
use Rattle.events.specs.Receive.{is_lost, turns, turn_reason, holding, store_with, needed, counters_full, receive_rules, lost_at, placed_at, unrouted, taken, receive_of}
use Rattle.events.specs.Lent.{Left, worded, unlike, receive_on}

-- A placed record on a route within its bounds, where a file that holds the record alone is within the limit.
module _ (last : ℕ) (r : Route) (w : RouteWithin last r) (a : Arrival) (body : ℕ)
    (alone : alone_size r.settings.octets (header_for a).release (record_size a body) ≤ r.settings.limit) where
  -- what makes a record differ from the file's, and the file's size with the record
  abbrev other : Bool
  other = not (r.file.format == (header_for a).format) || (r.settings.flag == 1 && not (same_release r.file.high (header_for a).release))

  abbrev size : ℕ
  size = header_size r.settings.octets (high_with r.file (header_for a).release) (low_with r.file (header_for a).release) + r.file.octets + record_size a body

  -- an empty file does not differ
  empty_alike : r.file.count ≡ 0 → differs r (header_for a) ≡ false
  empty_alike z = go r.«open»
    where
      go : (live : Bool) → (live && nat_lt 0 r.file.count && other) ≡ false
      go true = rw (le-ltb 0 r.file.count (omega arith))
      go false = refl

  -- and has room
  empty_room : r.file.count ≡ 0 → exceeds r (header_for a) (record_size a body) ≡ false
  empty_room z = go r.«open» refl
    where
      go : (live : Bool) → r.«open» ≡ live → (live && nat_lt r.settings.limit size) ≡ false
      go true p =
          let e = eq-eqb r.file.count 0 z in
          let h = (header_for a).release in
          let both : size ≡ header_size r.settings.octets h h + r.file.octets + record_size a body =
          λ i. header_size r.settings.octets (cond (e i) h (later r.file.high h)) (cond (e i) h (earlier r.file.low h)) + r.file.octets + record_size a body in
          le-ltb r.settings.limit size (omega (arith, both, alone, (w.file p).empty_octets z))
      go false p = refl

  -- so a file that closes before the record is open and has records
  turned_live : turns r a body ≡ true → r.«open» ≡ true
  turned_live e = go r.«open» refl
    where
      go : (live : Bool) → r.«open» ≡ live → live ≡ true
      go true p = refl
      go false p = absurd (false≢true (sym (λ i. (p i && nat_lt 0 r.file.count && other) || (p i && nat_lt r.settings.limit size)) ∙ e))

  pub turned_some : turns r a body ≡ true → (r.«open» ≡ true) × (0 < r.file.count)
  turned_some e = (turned_live e, go (ℕ_discrete r.file.count 0))
    where
      go : Dec (r.file.count ≡ 0) → 0 < r.file.count
      go (yes z) = absurd (false≢true (sym (λ i. empty_alike z i || empty_room z i) ∙ e))
      go (no z) = omega arith

  -- and the record, the first of the file that it then opens, does not fill it: its limit of records is none, or above 1
  turned_open : (t : ℕ) → turns r a body ≡ true → full (holding r a body t) ≡ false
  turned_open t e =
      ap (λ (b : Bool). full (appended_route (cond b (opened_route (closed_route r) t) (cond r.«open» r (opened_route r t))) (header_for a) (record_size a body) t)) e
      ∙ go (ℕ_discrete r.settings.most 0)
    where
      go : Dec (r.settings.most ≡ 0) → (nat_lt 0 r.settings.most && 1 == r.settings.most) ≡ false
      go (yes z) = rw (le-ltb 0 r.settings.most (omega arith))
      go (no z) =
          let s = turned_some e in
          rw (lt-ltb 0 r.settings.most (omega arith), ne_eqb 1 r.settings.most (λ q. omega (arith, (w.file s.0).most z, s.1)))

-- RECEIVE on a state, with i the route of the record.
module _ (m : Manager) (store output : List ℕ) (time : ℕ) (a : Arrival) (key body : List ℕ) where
  abbrev t : ℕ
  t = effective m time

  abbrev i : ℕ
  i = (routed_to m a key).at

  abbrev r : Route
  r = route_at m i

  -- the file that closes before the record, with 5 or 1, and the one that the record fills, with 3
  abbrev pub file_before : List ℕ
  file_before = closed_file m store i (turn_reason r a)

  abbrev pub file_filled : List ℕ
  file_filled = closed_file (with_route m i (holding r a (length body) t)) (store_with m store i a body t) i 3

  -- What it closes, by the number of files in its answer and by the output that it leaves.
  pub record ClosesOne (files : ℕ) (left : List ℕ) : Type 0 where
    -- at most one file
    pub most : files ≤ 1
    -- none: the output is as lent
    pub none : files ≡ 0 → left ≡ output
    -- one: it stands over the start of the output, and is the file before the record, which was open and has records, or the one that the record filled
    pub one : files ≡ 1
        → (before : Bool)
        × (before ≡ true → (r.«open» ≡ true) × (0 < r.file.count))
        × (left ≡ splice output 0 (cond before file_before file_filled))

  closes_none : ClosesOne 0 output
  closes_none = record { most = omega arith; none = λ e. refl; one = λ e. absurd (omega (arith, e)) }

  -- a routed record goes to a configured route
  to_configured : (routed_to m a key).found ≡ true → i < m.count
  to_configured e = go (a.mark == 2) e
    where
      go : (b : Bool) → (cond b nobody (route_of m key)).found ≡ true → (cond b nobody (route_of m key)).at < m.count
      go true q = absurd (false≢true q)
      go false q = (longest_found m key q).below

  -- placed
  module _ (right : state_right m ≡ true) (found : (routed_to m a key).found ≡ true) (kept : is_lost m a i (length body) ≡ false) where
    bounds : RouteWithin m.last r
    bounds = (within m right).routes i (to_configured found)

    fits : alone_size r.settings.octets (header_for a).release (record_size a (length body)) ≤ r.settings.limit
    fits =
        let alone = alone_size r.settings.octets (header_for a).release (record_size a (length body)) in
        ltb-false r.settings.limit alone (or_false (a.mark == 1 || nat_lt 65534 (length body)) (nat_lt r.settings.limit alone) kept).1

    closes_by : (b c : Bool) → turns r a (length body) ≡ b → full (holding r a (length body) t) ≡ c
        → ClosesOne (cond b 1 0 + cond c 1 0) (splice output 0 (cond b file_before [] ++ cond c file_filled []))
    closes_by true true p q = absurd (false≢true (sym (turned_open m.last r bounds a (length body) fits t p) ∙ q))
    closes_by true false p q =
        let some = turned_some m.last r bounds a (length body) fits p in
        record { most = omega arith; none = λ e. absurd (omega (arith, e)); one = λ e. (true, λ z. some, ap (splice output 0) (append-nil file_before)) }
    closes_by false true p q =
        record { most = omega arith; none = λ e. absurd (omega (arith, e)); one = λ e. (false, λ z. absurd (false≢true z), refl) }
    closes_by false false p q =
        record { most = omega arith; none = λ e. splice_nil output 0; one = λ e. absurd (omega (arith, e)) }

  -- unrouted, lost or placed
  abbrev Closes : After → Type 0
  Closes x = ClosesOne x.outcome.answer.files x.output

  taken_one : state_right m ≡ true → Closes (taken m store output t a key body)
  taken_one right = go (routed_to m a key).found (is_lost m a i (length body)) refl refl
    where
      go : (found lost : Bool) → (routed_to m a key).found ≡ found → is_lost m a i (length body) ≡ lost
          → Closes
          (cond found
          (cond lost (lost_at m store output t i (compared_to m a key)) (placed_at m store output t a body i (compared_to m a key)))
          (unrouted m store output t (compared_to m a key)))
      go true true p q = closes_none
      go true false p q = closes_by right p q (turns r a (length body)) (full (holding r a (length body) t)) refl refl
      go false lost p q = closes_none

  state_one : Closes (receive_of m store output time a key body)
  unfolding receive_of
  state_one = go (first (receive_rules m (length store) (length output) time a key (length body))) refl
    where
      rest : List Rule
      rest =
          (16 when ltb (length store) (regions m))
          ∷ (4 when ltb 52595999 time)
          ∷ (5 when wrong_fields a (length key))
          ∷ (19 when counters_full m a key (length body))
          ∷ (17 when ltb (length output) (needed m a key (length body) t))
          ∷ []

      go : (n : ℕ) → first (receive_rules m (length store) (length output) time a key (length body)) ≡ n
          → Closes (settled n (needed m a key (length body) t) m store output (taken m store output t a key body))
      go zero e = taken_one (not-false (state_right m) (passed 17 (not (state_right m)) rest e).0)
      go (suc n) e = closes_none

-- Of the call, on any words.
pub receive_one : (words store output : List ℕ) (time : ℕ) (a : Arrival) (key body : List ℕ)
    → ClosesOne (manager_in words) store output time a key body (receive_on words store output time a key body).answer.files (receive_on words store output time a key body).output
unfolding receive_on
receive_one words store output time a key body = go (length words == 360)
  where
    left : Bool → Left
    left b = cond b (worded (receive_of (manager_in words) store output time a key body)) (unlike words store output)

    go : (b : Bool) → ClosesOne (manager_in words) store output time a key body (left b).answer.files (left b).output
    go true = state_one (manager_in words) store output time a key body
    go false = closes_none (manager_in words) store output time a key body
