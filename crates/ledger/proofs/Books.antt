-- What the ledger alone does at an event, with no manager: settings, address and bias never change, and it adds to a line's counts,
-- closed files and records exactly what Demand3 counts of it by the rules of routing and loss. Lists: Lists.antt. Assumes nothing.
use Rattle.std.specs.Prelude.{◌≡◌, Bool, true, false, cond, not, ◌&&◌, ◌||◌, List, [], ◌∷◌, ◌++◌, map, ltb, leb, eqb, length, get_or}
use Rattle.std.proofs.Math.Path.{refl, ap}
use Rattle.std.proofs.Common.{sym, ◌∙◌, subst, true≢false, append_assoc, append-nil, arith, length-append, get_or-set_same, get_or-set_other, eqb-true, eq-eqb, ne_eqb, leb-false}
use Rattle.std.proofs.lemmas.Bool.{false≢true, eqb-false}
use Prim.Native.Nat.{ℕ, zero, suc, ◌+◌, ◌≤◌, ◌<◌, ◌^◌}
use Rattle.std.proofs.Math.Dec.{eqb-suc-zero}
use Rattle.std.proofs.lemmas.List.{length-map}
use Rattle.std.proofs.Math.ListN.{get_or-map}
use Rattle.std.proofs.Math.Seq.{map-set_same}
use Rattle.refusals.specs.Refusal.{◌when◌, passed, or_false}
use Rattle.record.specs.Record.{Record}
use Rattle.cdrfile.specs.File.{File}
use Rattle.counts.specs.declared.Counts.{Counts as LossCounts}
use Rattle.counts.specs.Counts.{count_octets, counts_in}
use Rattle.counts.specs.Laws.{counts_there, counts_back}
use Rattle.state.specs.declared.RouteSettings.{RouteSettings}
use Rattle.state.specs.Routing.{Routed}
use Rattle.state.specs.Routing.{nobody, better, fits}
use Rattle.events.specs.declared.Answer.{Answer}
use Rattle.events.specs.declared.Arrival.{Arrival}
use Rattle.events.specs.Receive.{record_of}
use Rattle.ledger.specs.Event.{Event, open_event, close_event, tick_event, receive_event}
use Rattle.ledger.specs.Ledger.{OpenFile, Current, none, some, Line, Ledger, no_line, line_at, file_from, open_line, close_line, with_current, received_line, lost_line, noted_line, append_to, with_line, with_time, Closing, Entry, records_in, records_of, is_open, opens, close_entry, minutes_at, Fate, goes_on, ends_with, fate_of, close_by, close_due, tick_to, ticks, among_lines, routed_to, lost_by, differs_from, exceeds_with, full_with, Ready, open_for, turn_over, ready_by, append_entry, places, loses, noted_lines, unroutes, effective, closing_reasons, is_one_of, fits_mark, any_full, counters_full, refusal, needed_by, regions, answer_by, entry_by, answer_of, entry_of}
use Rattle.ledger.specs.Demand3.{received_on, lost_rule, unrouted_by, one, placed_if, on_route, AllBelow}

-- the records of some files, and how many they are
abbrev pub flat : List File → List Record
flat [] = []
flat (f ∷ fs) = f.records ++ flat fs

abbrev pub held : List File → ℕ
held [] = 0
held (f ∷ fs) = length f.records + held fs

flat_append : (fs gs : List File) → flat (fs ++ gs) ≡ flat fs ++ flat gs
flat_append [] gs = refl
flat_append (f ∷ fs) gs = ap (λ (rs : List Record). f.records ++ rs) (flat_append fs gs) ∙ sym (append_assoc f.records (flat fs) (flat gs))

pub held_flat : (fs : List File) → length (flat fs) ≡ held fs
held_flat [] = refl
held_flat (f ∷ fs) = length-append f.records (flat fs) ∙ ap (λ (n : ℕ). length f.records + n) (held_flat fs)

-- what the loss counts in some files say, and that each file has them
abbrev pub known : List File → ℕ
known [] = 0
known (f ∷ fs) = (counts_in f.private).losses + known fs

abbrev pub noted : List File → ℕ
noted [] = 0
noted (f ∷ fs) = (counts_in f.private).unrouted + noted fs

abbrev pub Counted : List File → Type 0
Counted [] = Unit {0}
Counted (f ∷ fs) = ((counts_in f.private).there ≡ true) × Counted fs

known_append : (fs gs : List File) → known (fs ++ gs) ≡ known fs + known gs
known_append [] gs = omega arith
known_append (f ∷ fs) gs = omega (arith, known_append fs gs)

noted_append : (fs gs : List File) → noted (fs ++ gs) ≡ noted fs + noted gs
noted_append [] gs = omega arith
noted_append (f ∷ fs) gs = omega (arith, noted_append fs gs)

counted_append : (fs gs : List File) → Counted fs → Counted gs → Counted (fs ++ gs)
counted_append [] gs a b = b
counted_append (f ∷ fs) gs a b = (a.0, counted_append fs gs a.1 b)

-- a line's counters have room in a file's four octets, which refusal 19 keeps so
pub record Small (x : Line) : Type 0 where
  pub losses : x.losses < 2 ^ 32
  pub unrouted : x.unrouted < 2 ^ 32

-- What is done to a line: r more records received and s more lost, u more unrouted, the files cs closed, and the records ps put
-- behind those in its closed files and its open one.
pub record Step (x y : Line) (r s u : ℕ) (cs : List File) (ps : List Record) : Type 0 where
  pub settings : y.settings ≡ x.settings
  pub received : y.received ≡ x.received + r
  pub lost : y.lost ≡ x.lost + s
  pub closed : y.closed ≡ x.closed ++ cs
  pub records : flat y.closed ++ records_of y ≡ (flat x.closed ++ records_of x) ++ ps
  pub small : Small x → Small y
  pub known : Small x → known y.closed + y.losses ≡ known x.closed + x.losses + s
  pub noted : Small x → noted y.closed + y.unrouted ≡ noted x.closed + x.unrouted + u
  pub counted : Counted cs

pub stays : (x : Line) → Step x x 0 0 0 [] []
stays x =
    record {
      settings = refl;
      received = omega arith;
      lost = omega arith;
      closed = sym (append-nil x.closed);
      records = sym (append-nil (flat x.closed ++ records_of x));
      small = λ h. h;
      known = λ h. omega arith;
      noted = λ h. omega arith;
      counted = tt;
    }

pub behind : {x y z : Line} {r s u r' s' u' : ℕ} {cs ds : List File} {ps qs : List Record} → Step x y r s u cs ps → Step y z r' s' u' ds qs
    → Step x z (r + r') (s + s') (u + u') (cs ++ ds) (ps ++ qs)
behind {x} {cs = cs} {ds} {ps} {qs} p q =
    record {
      settings = q.settings ∙ p.settings;
      received = omega (arith, p.received, q.received);
      lost = omega (arith, p.lost, q.lost);
      closed = q.closed ∙ ap (λ (fs : List File). fs ++ ds) p.closed ∙ append_assoc x.closed cs ds;
      records =
          q.records ∙ ap (λ (rs : List Record). rs ++ qs) p.records ∙ append_assoc (flat x.closed ++ records_of x) ps qs;
      small = λ h. q.small (p.small h);
      known = λ h. omega (arith, p.known h, q.known (p.small h));
      noted = λ h. omega (arith, p.noted h, q.noted (p.small h));
      counted = counted_append cs ds p.counted q.counted;
    }

module _ (x : Line) where
  -- nothing that the loss counts look at is another
  same_small : {y : Line} → y.losses ≡ x.losses → y.unrouted ≡ x.unrouted → Small x → Small y
  same_small p q h = record { losses = omega (arith, h.losses); unrouted = omega (arith, h.unrouted) }

  step_received : Step x (received_line x) 1 0 0 [] []
  step_received = let s = stays x in
      record { settings = refl; received = refl; lost = s.lost; closed = s.closed; records = s.records; small = same_small refl refl; known = s.known; noted = s.noted; counted = tt }

  step_lost : (x.losses ≡ 4294967295 → ⊥) → Step x (lost_line x) 1 1 0 [] []
  step_lost room = let s = stays x in
      record {
        settings = refl;
        received = refl;
        lost = refl;
        closed = s.closed;
        records = s.records;
        small = λ h. record { losses = omega (arith, h.losses, room); unrouted = h.unrouted };
        known = λ h. omega arith;
        noted = s.noted;
        counted = tt;
      }

  step_noted : (x.unrouted ≡ 4294967295 → ⊥) → Step x (noted_line x) 0 0 1 [] []
  step_noted room = let s = stays x in
      record {
        settings = refl;
        received = s.received;
        lost = s.lost;
        closed = s.closed;
        records = s.records;
        small = λ h. record { losses = h.losses; unrouted = omega (arith, h.unrouted, room) };
        known = s.known;
        noted = λ h. omega arith;
        counted = tt;
      }

  -- the same records in the open file
  step_current : (c : Current) → records_in c ≡ records_of x → Step x (with_current x c) 0 0 0 [] []
  step_current c e = let s = stays x in
      record {
        settings = refl;
        received = s.received;
        lost = s.lost;
        closed = s.closed;
        records = ap (λ (rs : List Record). flat x.closed ++ rs) e ∙ s.records;
        small = same_small refl refl;
        known = s.known;
        noted = s.noted;
        counted = tt;
      }

  step_open : (t : ℕ) → records_of x ≡ [] → Step x (open_line x t) 0 0 0 [] []
  step_open t e = let s = step_current (some (record { sequence = x.next; opened = t; appended = t; records = [] })) (sym e) in
      record { settings = refl; received = s.received; lost = s.lost; closed = s.closed; records = s.records; small = same_small refl refl; known = s.known; noted = s.noted; counted = tt }

  -- a closing moves the counts into the file, and the line's begin again
  module _ (file : File) (e : file.records ≡ records_of x) (p : file.private ≡ count_octets x.losses x.unrouted) where
    read_again : Small x → counts_in file.private ≡ record { there = true; losses = x.losses; unrouted = x.unrouted }
    read_again h = ap counts_in p ∙ counts_back x.losses x.unrouted h.losses h.unrouted

    step_close : Step x (close_line x file) 0 0 0 (file ∷ []) []
    step_close = let s = stays x in
        record {
          settings = refl;
          received = s.received;
          lost = s.lost;
          closed = refl;
          records =
              ap (λ (rs : List Record). rs ++ []) (flat_append x.closed (file ∷ []))
              ∙ ap (λ (rs : List Record). (flat x.closed ++ rs) ++ []) (append-nil file.records ∙ e);
          small = λ h. record { losses = omega arith; unrouted = omega arith };
          known = λ h. omega (arith, known_append x.closed (file ∷ []), ap (λ (c : LossCounts). c.losses) (read_again h));
          noted = λ h. omega (arith, noted_append x.closed (file ∷ []), ap (λ (c : LossCounts). c.unrouted) (read_again h));
          counted = (ap (λ (l : List ℕ). (counts_in l).there) p ∙ counts_there x.losses x.unrouted, tt);
        }

  step_append : (f : OpenFile) (r : Record) (t : ℕ) → Step (with_current x (some f)) (with_current x (some (append_to f r t))) 0 0 0 [] (r ∷ [])
  step_append f r t = let s = stays x in
      record {
        settings = refl;
        received = s.received;
        lost = s.lost;
        closed = s.closed;
        records = sym (append_assoc (flat x.closed) f.records (r ∷ []));
        small = λ h. record { losses = h.losses; unrouted = h.unrouted };
        known = λ h. omega arith;
        noted = λ h. omega arith;
        counted = tt;
      }

-- Settings, address and bias are the same.
abbrev pub settings_in : Line → RouteSettings
settings_in x = x.settings

pub record Same (l m : Ledger) : Type 0 where
  pub address : m.address ≡ l.address
  pub bias : m.bias ≡ l.bias
  pub settings : map settings_in m.lines ≡ map settings_in l.lines

pub same_self : (l : Ledger) → Same l l
same_self l = record { address = refl; bias = refl; settings = refl }

pub same_behind : {l m k : Ledger} → Same l m → Same m k → Same l k
same_behind p q =
    record { address = q.address ∙ p.address; bias = q.bias ∙ p.bias; settings = q.settings ∙ p.settings }

module _ {l m : Ledger} (h : Same l m) where
  pub same_length : length m.lines ≡ length l.lines
  same_length = sym (length-map m.lines settings_in) ∙ ap length h.settings ∙ length-map l.lines settings_in

  pub same_settings : (i : ℕ) → (line_at m i).settings ≡ (line_at l i).settings
  same_settings i =
      sym (get_or-map settings_in m.lines i no_line)
      ∙ ap (λ (ss : List RouteSettings). get_or ss i (settings_in no_line)) h.settings
      ∙ get_or-map settings_in l.lines i no_line

  same_among : (key : List ℕ) (n : ℕ) → among_lines m key n ≡ among_lines l key n
  same_among key zero = refl
  same_among key (suc n) = λ i. better (same_among key n i) n (same_settings n i) key

  pub same_routed : (a : Arrival) (key : List ℕ) → routed_to m a key ≡ routed_to l a key
  same_routed a key =
      ap (λ (r : Routed). cond (eqb a.mark 2) nobody r)
      (ap (λ (n : ℕ). among_lines m key n) same_length ∙ same_among key (length l.lines))

  pub same_lost_by : (i : ℕ) (a : Arrival) (body : ℕ) → lost_by (line_at m i).settings a body ≡ lost_by (line_at l i).settings a body
  same_lost_by i a body = ap (λ (s : RouteSettings). lost_by s a body) (same_settings i)

  pub same_received : (i : ℕ) (e : Event) (a : Answer) → received_on m i e a ≡ received_on l i e a
  same_received i (open_event time r) a = refl
  same_received i (close_event time r reason) a = refl
  same_received i (tick_event time) a = refl
  same_received i (receive_event time x key body) a =
      ap (λ (r : Routed). eqb a.refusal 0 && r.found && eqb r.at i) (same_routed x key)

  pub same_lost : (i : ℕ) (e : Event) → lost_rule m i e ≡ lost_rule l i e
  same_lost i (open_event time r) = refl
  same_lost i (close_event time r reason) = refl
  same_lost i (tick_event time) = refl
  same_lost i (receive_event time a key body) = same_lost_by i a (length body)

  pub same_unrouted : (e : Event) (a : Answer) → unrouted_by m e a ≡ unrouted_by l e a
  same_unrouted (open_event time r) a = refl
  same_unrouted (close_event time r reason) a = refl
  same_unrouted (tick_event time) a = refl
  same_unrouted (receive_event time x key body) a =
      ap (λ (r : Routed). eqb a.refusal 0 && not r.found) (same_routed x key)

-- a record that is routed goes to one of the lines
module _ (l : Ledger) (key : List ℕ) where
  better_below : (b : Bool) (n k : ℕ) (r : Routed) → (r.found ≡ true → r.at < n)
      → (cond b (record { found = true; at = n; octets = k }) r).found ≡ true → (cond b (record { found = true; at = n; octets = k }) r).at < suc n
  better_below true n k r h e = omega arith
  better_below false n k r h e = let z = h e in omega arith

  among_below : (n : ℕ) → (among_lines l key n).found ≡ true → (among_lines l key n).at < n
  among_below zero e = absurd (false≢true e)
  among_below (suc n) e =
      better_below
      (fits (line_at l n).settings key && (not (among_lines l key n).found || ltb (among_lines l key n).octets (line_at l n).settings.octets))
      n (line_at l n).settings.octets (among_lines l key n) (among_below n) e

  pub routed_below : (a : Arrival) → (routed_to l a key).found ≡ true → (routed_to l a key).at < length l.lines
  routed_below a e = go (eqb a.mark 2) e
    where
      go : (b : Bool) → (cond b nobody (among_lines l key (length l.lines))).found ≡ true
          → (cond b nobody (among_lines l key (length l.lines))).at < length l.lines
      go true e = absurd (false≢true e)
      go false e = among_below (length l.lines) e

-- Closings of one route.
abbrev pub tagged : ℕ → List File → List Closing
tagged k [] = []
tagged k (f ∷ fs) = record { route = k; file = f } ∷ tagged k fs

tagged_append : (k : ℕ) (fs gs : List File) → tagged k (fs ++ gs) ≡ tagged k fs ++ tagged k gs
tagged_append k [] gs = refl
tagged_append k (f ∷ fs) gs = ap (λ (cs : List Closing). record { route = k; file = f } ∷ cs) (tagged_append k fs gs)

-- their routes are below any number that the route is below
below_more : (n m : ℕ) (cs : List Closing) → n ≤ m → AllBelow n cs → AllBelow m cs
below_more n m [] h p = tt
below_more n m (c ∷ cs) h p = (omega (arith, p.0), below_more n m cs h p.1)

pub below_append : (n : ℕ) (cs ds : List Closing) → AllBelow n cs → AllBelow n ds → AllBelow n (cs ++ ds)
below_append n [] ds p q = q
below_append n (c ∷ cs) ds p q = (p.0, below_append n cs ds p.1 q)

tagged_below : (n k : ℕ) (fs : List File) → k < n → AllBelow n (tagged k fs)
tagged_below n k [] h = tt
tagged_below n k (f ∷ fs) h = (h, tagged_below n k fs h)

on_own : (k : ℕ) (fs : List File) → on_route k (tagged k fs) ≡ fs
on_own k [] = refl
on_own k (f ∷ fs) = λ i. cond (eq-eqb k k refl i) (f ∷ on_own k fs i) (on_own k fs i)

on_other : (k i : ℕ) → (k ≡ i → ⊥) → (fs : List File) → on_route i (tagged k fs) ≡ []
on_other k i h [] = refl
on_other k i h (f ∷ fs) = λ j. cond (ne_eqb k i h j) (f ∷ on_other k i h fs j) (on_other k i h fs j)

pub on_append : (i : ℕ) (cs ds : List Closing) → on_route i (cs ++ ds) ≡ on_route i cs ++ on_route i ds
on_append i [] ds = refl
on_append i (c ∷ cs) ds = ap (λ (fs : List File). cond (eqb c.route i) (c.file ∷ fs) fs) (on_append i cs ds) ∙ go (eqb c.route i)
  where
    go : (b : Bool) → cond b (c.file ∷ (on_route i cs ++ on_route i ds)) (on_route i cs ++ on_route i ds)
        ≡ cond b (c.file ∷ on_route i cs) (on_route i cs) ++ on_route i ds
    go true = refl
    go false = refl

-- An event that changes one line: k is now y, and the files fs close there.
abbrev pub changed : Ledger → ℕ → ℕ → Line → List File → Entry
changed l k t y fs = record { ledger = with_time (with_line l k y) t; closings = tagged k fs }

pub record Touched (l : Ledger) (k t : ℕ) (e : Entry) (r s : ℕ) (ps : List Record) : Type 0 where
  pub line : Line
  pub files : List File
  pub entry : e ≡ changed l k t line files
  pub step : Step (line_at l k) line r s 0 files ps

module _ {l : Ledger} {k t r s : ℕ} {e : Entry} {ps : List Record} (h : Touched l k t e r s ps) where
  touched_same : Same l e.ledger
  touched_same =
      subst (λ (x : Entry). Same l x.ledger) (sym h.entry)
      (record { address = refl; bias = refl; settings = map-set_same settings_in l.lines k h.line no_line h.step.settings })

  touched_unrouted : e.ledger.unrouted ≡ l.unrouted
  touched_unrouted = ap (λ (x : Entry). x.ledger.unrouted) h.entry

  touched_below : k < length l.lines → AllBelow (length l.lines) e.closings
  touched_below low =
      subst (λ (x : Entry). AllBelow (length l.lines) x.closings) (sym h.entry) (tagged_below (length l.lines) k h.files low)

  touched_line : (i : ℕ) → i < length l.lines → (b : Bool) → eqb k i ≡ b
      → Step (line_at l i) (line_at (changed l k t h.line h.files).ledger i) (cond b r 0) (cond b s 0) 0 (on_route i (tagged k h.files)) (cond b ps [])
  touched_line i low true q =
      let k≡i = eqb-true k i q in
      let own : k < length l.lines = omega arith in
      subst (λ (j : ℕ). Step (line_at l j) (line_at (changed l k t h.line h.files).ledger j) r s 0 (on_route j (tagged k h.files)) ps) k≡i
      (rw (get_or-set_same l.lines k h.line no_line own, on_own k h.files) h.step)
  touched_line i low false q =
      let other = eqb-false k i q in
      rw (get_or-set_other l.lines k i h.line no_line (λ z. other (sym z)), on_other k i other h.files) (stays (line_at l i))

  touched_at : (i : ℕ) → i < length l.lines
      → Step (line_at l i) (line_at e.ledger i) (cond (eqb k i) r 0) (cond (eqb k i) s 0) 0 (on_route i e.closings) (cond (eqb k i) ps [])
  touched_at i low =
      subst (λ (x : Entry). Step (line_at l i) (line_at x.ledger i) (cond (eqb k i) r 0) (cond (eqb k i) s 0) 0 (on_route i x.closings) (cond (eqb k i) ps []))
      (sym h.entry) (touched_line i low (eqb k i) refl)

touched_cond : {l : Ledger} {k t r s : ℕ} {ps : List Record} (b : Bool) (e f : Entry) → Touched l k t e r s ps → Touched l k t f r s ps
    → Touched l k t (cond b e f) r s ps
touched_cond true e f p q = p
touched_cond false e f p q = q

-- OPEN and CLOSE
no_records : (c : Current) → is_open c ≡ false → records_in c ≡ []
no_records none e = refl
no_records (some f) e = absurd (true≢false e)

open_touches : (l : Ledger) (t k : ℕ) → is_open (line_at l k).current ≡ false → Touched l k t (opens l t k) 0 0 []
open_touches l t k e =
    record {
      line = open_line (line_at l k) t;
      files = [];
      entry = refl;
      step = step_open (line_at l k) t (no_records (line_at l k).current e);
    }

close_touches : (l : Ledger) (t k reason : ℕ) (f : OpenFile) → (line_at l k).current ≡ some f
    → Touched l k t (close_entry l t k reason (some f)) 0 0 []
close_touches l t k reason f e =
    record {
      line = close_line (line_at l k) (file_from l (line_at l k) f reason);
      files = file_from l (line_at l k) f reason ∷ [];
      entry = refl;
      step = step_close (line_at l k) (file_from l (line_at l k) f reason) (sym (ap records_in e)) refl;
    }

-- RECEIVE: the line with an open file for the record
pub record Readied (x : Line) (k : ℕ) (y : Ready) : Type 0 where
  pub files : List File
  pub closings : y.closings ≡ tagged k files
  pub step : Step x (with_current y.line (some y.file)) 1 0 0 files []

readied_cond : {x : Line} {k : ℕ} (b : Bool) (y z : Ready) → Readied x k y → Readied x k z → Readied x k (cond b y z)
readied_cond true y z p q = p
readied_cond false y z p q = q

module _ (l : Ledger) (x : Line) (t k : ℕ) where
  readied_open : x.current ≡ none → Readied x k (open_for (received_line x) t [])
  readied_open e =
      record { files = []; closings = refl; step = behind (step_received x) (step_open (received_line x) t (ap records_in e)) }

  readied_over : (f : OpenFile) (reason : ℕ) → x.current ≡ some f → Readied x k (turn_over l (received_line x) t k f reason)
  readied_over f reason e =
      let file = file_from l (received_line x) f reason in
      record {
        files = file ∷ [];
        closings = refl;
        step =
            behind (behind (step_received x) (step_close (received_line x) file (sym (ap records_in e)) refl))
            (step_open (close_line (received_line x) file) t refl);
      }

  readied_as : (f : OpenFile) → x.current ≡ some f → Readied x k (record { line = received_line x; file = f; closings = [] })
  readied_as f e =
      record {
        files = [];
        closings = refl;
        step = behind (step_received x) (step_current (received_line x) (some f) (sym (ap records_in e)));
      }

  readied : (r : Record) (c : Current) → x.current ≡ c → Readied x k (ready_by l (received_line x) t k r c)
  readied r none e = readied_open e
  readied r (some f) e =
      readied_cond (differs_from x.settings f.records r) _ _ (readied_over f 5 e)
      (readied_cond (exceeds_with x.settings f.records r) _ _ (readied_over f 1 e) (readied_as f e))

module _ (l : Ledger) (t k : ℕ) (r : Record) (y : Ready) (h : Readied (line_at l k) k y) where
  abbrev filled : File
  filled = file_from l y.line (append_to y.file r t) 3

  grown : Step (line_at l k) (with_current y.line (some (append_to y.file r t))) 1 0 0 (h.files ++ []) (r ∷ [])
  grown = behind h.step (step_append y.line y.file r t)

  append_full : Touched l k t
      (record {
        ledger = with_time (with_line l k (close_line y.line filled)) t;
        closings = y.closings ++ (record { route = k; file = filled } ∷ []);
      })
      1 0 (r ∷ [])
  append_full =
      record {
        line = close_line y.line filled;
        files = (h.files ++ []) ++ (filled ∷ []);
        entry = λ i.
            record {
              ledger = with_time (with_line l k (close_line y.line filled)) t;
              closings =
                  (ap (λ (cs : List Closing). cs ++ (record { route = k; file = filled } ∷ [])) (h.closings ∙ sym (ap (tagged k) (append-nil h.files)))
                  ∙ sym (tagged_append k (h.files ++ []) (filled ∷ []))) i;
            };
        step = behind grown (step_close (with_current y.line (some (append_to y.file r t))) filled refl refl);
      }

  append_on : Touched l k t
      (record { ledger = with_time (with_line l k (with_current y.line (some (append_to y.file r t)))) t; closings = y.closings })
      1 0 (r ∷ [])
  append_on =
      record {
        line = with_current y.line (some (append_to y.file r t));
        files = h.files ++ [];
        entry = λ i.
            record {
              ledger = with_time (with_line l k (with_current y.line (some (append_to y.file r t)))) t;
              closings = (h.closings ∙ sym (ap (tagged k) (append-nil h.files))) i;
            };
        step = grown;
      }

  appended : Touched l k t (append_entry l t k r y) 1 0 (r ∷ [])
  appended = touched_cond (full_with y.line.settings (y.file.records ++ (r ∷ []))) _ _ append_full append_on

place_touches : (l : Ledger) (t k : ℕ) (r : Record) → Touched l k t (places l t k r) 1 0 (r ∷ [])
place_touches l t k r =
    appended l t k r (ready_by l (received_line (line_at l k)) t k r (line_at l k).current)
    (readied l (line_at l k) t k r (line_at l k).current refl)

lose_touches : (l : Ledger) (t k : ℕ) → ((line_at l k).losses ≡ 4294967295 → ⊥) → Touched l k t (loses l t k) 1 1 []
lose_touches l t k room = record { line = lost_line (line_at l k); files = []; entry = refl; step = step_lost (line_at l k) room }

-- TICK, over the routes below n
pub record Ticked (l : Ledger) (n : ℕ) (e : Entry) : Type 0 where
  pub same : Same l e.ledger
  pub unrouted : e.ledger.unrouted ≡ l.unrouted
  pub below : AllBelow n e.closings
  pub later : (i : ℕ) → n ≤ i → line_at e.ledger i ≡ line_at l i
  pub quiet : (i : ℕ) → n ≤ i → on_route i e.closings ≡ []
  pub line : (i : ℕ) → i < length l.lines → Step (line_at l i) (line_at e.ledger i) 0 0 0 (on_route i e.closings) []

module _ (l : Ledger) (t n : ℕ) (e : Entry) (h : Ticked l n e) where
  ticked_on : Ticked l (suc n) e
  ticked_on =
      record {
        same = h.same;
        unrouted = h.unrouted;
        below = below_more n (suc n) e.closings (omega arith) h.below;
        later = λ i low. h.later i (omega arith);
        quiet = λ i low. h.quiet i (omega arith);
        line = h.line;
      }

  module _ (f : OpenFile) (q : (line_at l n).current ≡ some f) (reason : ℕ) where
    abbrev due : File
    due = file_from l (line_at l n) f reason

    abbrev over : Line
    over = close_line (line_at l n) due

    abbrev on : Entry
    on = record { ledger = with_line e.ledger n over; closings = e.closings ++ (record { route = n; file = due } ∷ []) }

    on_line : (i : ℕ) → (n ≡ i → ⊥) → line_at on.ledger i ≡ line_at e.ledger i
    on_line i other = get_or-set_other e.ledger.lines n i over no_line (λ z. other (sym z))

    on_quiet : (i : ℕ) → (n ≡ i → ⊥) → on_route i on.closings ≡ on_route i e.closings
    on_quiet i other =
        on_append i e.closings (tagged n (due ∷ []))
        ∙ ap (λ (fs : List File). on_route i e.closings ++ fs) (on_other n i other (due ∷ []))
        ∙ append-nil (on_route i e.closings)

    on_at : on_route n on.closings ≡ due ∷ []
    on_at =
        on_append n e.closings (tagged n (due ∷ []))
        ∙ (λ j. h.quiet n (omega arith) j ++ on_own n (due ∷ []) j)

    on_step : (i : ℕ) → i < length l.lines → (b : Bool) → eqb n i ≡ b
        → Step (line_at l i) (line_at on.ledger i) 0 0 0 (on_route i on.closings) []
    on_step i low true z =
        let n≡i = eqb-true n i z in
        let own : n < length e.ledger.lines = omega (arith, same_length h.same) in
        subst (λ (j : ℕ). Step (line_at l j) (line_at on.ledger j) 0 0 0 (on_route j on.closings) []) n≡i
        (rw (get_or-set_same e.ledger.lines n over no_line own, on_at) (step_close (line_at l n) due (sym (ap records_in q)) refl))
    on_step i low false z =
        let other = eqb-false n i z in
        rw (on_line i other, on_quiet i other) (h.line i low)

    ticked_close : Ticked l (suc n) on
    ticked_close =
        record {
          same =
              record {
                address = h.same.address;
                bias = h.same.bias;
                settings =
                    map-set_same settings_in e.ledger.lines n over no_line (sym (same_settings h.same n))
                    ∙ h.same.settings;
              };
          unrouted = h.unrouted;
          below =
              below_append (suc n) e.closings (record { route = n; file = due } ∷ []) (below_more n (suc n) e.closings (omega arith) h.below)
              ((omega arith), tt);
          later = λ i low. on_line i (λ z. omega arith) ∙ h.later i (omega arith);
          quiet = λ i low. on_quiet i (λ z. omega arith) ∙ h.quiet i (omega arith);
          line = λ i low. on_step i low (eqb n i) refl;
        }

  ticked_by : (f : OpenFile) (q : (line_at l n).current ≡ some f) (fate : Fate) → Ticked l (suc n) (close_by fate l n (line_at l n) f e)
  ticked_by f q goes_on = ticked_on
  ticked_by f q (ends_with reason) = ticked_close f q reason

  ticked_step : (c : Current) → (line_at l n).current ≡ c → Ticked l (suc n) (close_due l t n (line_at l n) c e)
  ticked_step none q = ticked_on
  ticked_step (some f) q = ticked_by f q (fate_of l.bias t (line_at l n) (minutes_at l n) f)

ticked : (l : Ledger) (t n : ℕ) → Ticked l n (tick_to l t n)
ticked l t zero =
    record {
      same = same_self l;
      unrouted = refl;
      below = tt;
      later = λ i low. refl;
      quiet = λ i low. refl;
      line = λ i low. stays (line_at l i);
    }
ticked l t (suc n) = ticked_step l t n (tick_to l t n) (ticked l t n) (line_at l n).current refl

-- an unrouted record is counted on every line
noted_settings : (xs : List Line) → map settings_in (noted_lines xs) ≡ map settings_in xs
noted_settings [] = refl
noted_settings (x ∷ xs) = ap (λ (ss : List RouteSettings). x.settings ∷ ss) (noted_settings xs)

noted_at : (xs : List Line) (i : ℕ) → i < length xs → get_or (noted_lines xs) i no_line ≡ noted_line (get_or xs i no_line)
noted_at [] i low = let z : ⊥ = omega arith in absurd z
noted_at (x ∷ xs) zero low = refl
noted_at (x ∷ xs) (suc i) low = noted_at xs i (omega arith)

-- where none of them is full
pub can_note_lem : (xs : List Line) (i : ℕ) → i < length xs → any_full xs ≡ false → (get_or xs i no_line).unrouted ≡ 4294967295 → ⊥
can_note_lem [] i low e f = absurd (omega arith)
can_note_lem (x ∷ xs) zero low e f = true≢false (sym (eq-eqb x.unrouted 4294967295 f) ∙ (or_false (eqb x.unrouted 4294967295) (any_full xs) e).0)
can_note_lem (x ∷ xs) (suc i) low e f = can_note_lem xs i (omega arith) (or_false (eqb x.unrouted 4294967295) (any_full xs) e).1 f

pub none_full : (xs : List Line) → ((i : ℕ) → i < length xs → (get_or xs i no_line).unrouted ≡ 4294967295 → ⊥) → any_full xs ≡ false
none_full [] h = refl
none_full (x ∷ xs) h = λ j. ne_eqb x.unrouted 4294967295 (h 0 (omega arith)) j || none_full xs (λ i low. h (suc i) (omega arith)) j

-- One event: what it adds, of what the list itself says.
pub record Booking : Type 0 where
  pub answer : Answer
  pub entry : Entry

pub record Moved (l : Ledger) (e : Event) (b : Booking) : Type 0 where
  pub same : Same l b.entry.ledger
  pub unrouted : b.entry.ledger.unrouted ≡ l.unrouted + one (unrouted_by l e b.answer)
  pub below : AllBelow (length l.lines) b.entry.closings
  pub line : (i : ℕ) → i < length l.lines
      → Step (line_at l i) (line_at b.entry.ledger i)
      (one (received_on l i e b.answer))
      (one (received_on l i e b.answer && lost_rule l i e))
      (one (unrouted_by l e b.answer))
      (on_route i b.entry.closings)
      (placed_if (received_on l i e b.answer && not (lost_rule l i e)) e)

-- a refused event is neither received nor unrouted
pub refused_received : (l : Ledger) (i n : ℕ) (e : Event) (a : Answer) → a.refusal ≡ suc n → received_on l i e a ≡ false
refused_received l i n (open_event time r) a h = refl
refused_received l i n (close_event time r reason) a h = refl
refused_received l i n (tick_event time) a h = refl
refused_received l i n (receive_event time x key body) a h =
    ap (λ (b : Bool). b && (routed_to l x key).found && eqb (routed_to l x key).at i) (ap (λ (m : ℕ). eqb m 0) h ∙ eqb-suc-zero n)

pub refused_unrouted : (l : Ledger) (n : ℕ) (e : Event) (a : Answer) → a.refusal ≡ suc n → unrouted_by l e a ≡ false
refused_unrouted l n (open_event time r) a h = refl
refused_unrouted l n (close_event time r reason) a h = refl
refused_unrouted l n (tick_event time) a h = refl
refused_unrouted l n (receive_event time x key body) a h =
    ap (λ (b : Bool). b && not (routed_to l x key).found) (ap (λ (m : ℕ). eqb m 0) h ∙ eqb-suc-zero n)

module _ (l : Ledger) where
  refused_moves : (n : ℕ) (e : Event) (a : Answer) → a.refusal ≡ suc n
      → Moved l e (record { answer = a; entry = record { ledger = l; closings = [] } })
  refused_moves n e a h =
      record {
        same = same_self l;
        unrouted = rw (refused_unrouted l n e a h) (omega arith);
        below = tt;
        line = λ i low. rw (refused_received l i n e a h, refused_unrouted l n e a h) (stays (line_at l i));
      }

  -- one line changed by an event that receives nothing
  quiet_line : {k t : ℕ} {e : Entry} → Touched l k t e 0 0 [] → (i : ℕ) → i < length l.lines
      → Step (line_at l i) (line_at e.ledger i) 0 0 0 (on_route i e.closings) []
  quiet_line {k} {t} {e} h i low = go (eqb k i) (touched_at h i low)
    where
      go : (b : Bool) → Step (line_at l i) (line_at e.ledger i) (cond b 0 0) (cond b 0 0) 0 (on_route i e.closings) (cond b [] [])
          → Step (line_at l i) (line_at e.ledger i) 0 0 0 (on_route i e.closings) []
      go true s = s
      go false s = s

  open_moves : (a : Answer) (t time k : ℕ) → is_open (line_at l k).current ≡ false
      → Moved l (open_event time k) (record { answer = a; entry = opens l t k })
  open_moves a t time k e = let h = open_touches l t k e in
      record { same = touched_same h; unrouted = omega (arith, touched_unrouted h); below = tt; line = quiet_line h }

  close_moves : (a : Answer) (t time k reason : ℕ) → k < length l.lines → (c : Current) → (line_at l k).current ≡ c
      → Moved l (close_event time k reason) (record { answer = a; entry = close_entry l t k reason c })
  close_moves a t time k reason low none e =
      record { same = same_self l; unrouted = omega arith; below = tt; line = λ i low. stays (line_at l i) }
  close_moves a t time k reason low (some f) e = let h = close_touches l t k reason f e in
      record { same = touched_same h; unrouted = omega (arith, touched_unrouted h); below = touched_below h low; line = quiet_line h }

  tick_moves : (a : Answer) (t time : ℕ) → Moved l (tick_event time) (record { answer = a; entry = ticks l t })
  tick_moves a t time = let h = ticked l t (length l.lines) in
      record {
        same = record { address = h.same.address; bias = h.same.bias; settings = h.same.settings };
        unrouted = omega (arith, h.unrouted);
        below = h.below;
        line = h.line;
      }

  -- an accepted RECEIVE, by where the record is routed, if anywhere, and whether it is lost there
  module _ (a : Answer) (fine : a.refusal ≡ 0) (time t : ℕ) (x : Arrival) (key body : List ℕ) where
    abbrev event : Event
    event = receive_event time x key body

    abbrev to : Routed
    to = routed_to l x key

    abbrev lost_there : Bool
    lost_there = lost_by (line_at l to.at).settings x (length body)

    abbrev Received : Entry → Type 0
    Received e = Moved l event (record { answer = a; entry = e })

    received_found : to.found ≡ true → (i : ℕ) → received_on l i event a ≡ eqb to.at i
    received_found f i = λ j. eqb (fine j) 0 && f j && eqb to.at i

    received_none : to.found ≡ false → (i : ℕ) → received_on l i event a ≡ false
    received_none f i = λ j. eqb (fine j) 0 && f j && eqb to.at i

    unrouted_found : to.found ≡ true → unrouted_by l event a ≡ false
    unrouted_found f = λ j. eqb (fine j) 0 && not (f j)

    unrouted_none : to.found ≡ false → unrouted_by l event a ≡ true
    unrouted_none f = λ j. eqb (fine j) 0 && not (f j)

    -- on the line itself, lost or placed
    kinds : (i : ℕ) (c : Bool) → lost_there ≡ c → (e : Entry) (b : Bool) → eqb to.at i ≡ b
        → Step (line_at l i) (line_at e.ledger i) (cond b 1 0) (cond b (one c) 0) 0 (on_route i e.closings) (cond b (placed_if (not c) event) [])
        → Step (line_at l i) (line_at e.ledger i) (one b) (one (b && lost_rule l i event)) 0 (on_route i e.closings) (placed_if (b && not (lost_rule l i event)) event)
    kinds i c q e true z s =
        let same : lost_rule l i event ≡ c = ap (λ (j : ℕ). lost_by (line_at l j).settings x (length body)) (sym (eqb-true to.at i z)) ∙ q in
        rw same s
    kinds i c q e false z s = s

    found_moves : to.found ≡ true → (c : Bool) → lost_there ≡ c → (e : Entry) → Touched l to.at t e 1 (one c) (placed_if (not c) event) → Received e
    found_moves f c q e h =
        record {
          same = touched_same h;
          unrouted = rw (unrouted_found f) (omega (arith, touched_unrouted h));
          below = touched_below h (routed_below l key x f);
          line = λ i low. rw (received_found f i, unrouted_found f) (kinds i c q e (eqb to.at i) refl (touched_at h i low));
        }

    -- no counter that would rise is at its end
    module _ (room : counters_full l x key (length body) ≡ false) where
      losses_room : to.found ≡ true → lost_there ≡ true → (line_at l to.at).losses ≡ 4294967295 → ⊥
      losses_room f q e =
          let full : counters_full l x key (length body) ≡ true =
          λ j. cond (f j) (q j && eq-eqb (line_at l to.at).losses 4294967295 e j) (eqb l.unrouted 4294967295 || any_full l.lines) in
          true≢false (sym full ∙ room)

      lines_room : to.found ≡ false → any_full l.lines ≡ false
      lines_room f =
          let r : (eqb l.unrouted 4294967295 || any_full l.lines) ≡ false =
          sym (λ j. cond (f j) (lost_there && eqb (line_at l to.at).losses 4294967295) (eqb l.unrouted 4294967295 || any_full l.lines)) ∙ room in
          (or_false (eqb l.unrouted 4294967295) (any_full l.lines) r).1

      found_by : to.found ≡ true → (c : Bool) → lost_there ≡ c
          → Received (cond c (loses l t to.at) (places l t to.at (record_of x body)))
      found_by f true q = found_moves f true q (loses l t to.at) (lose_touches l t to.at (losses_room f q))
      found_by f false q = found_moves f false q (places l t to.at (record_of x body)) (place_touches l t to.at (record_of x body))

      none_moves : to.found ≡ false → Received (unroutes l t)
      none_moves f =
          record {
            same = record { address = refl; bias = refl; settings = noted_settings l.lines };
            unrouted = rw (unrouted_none f) refl;
            below = tt;
            line = λ i low. rw (received_none f i, unrouted_none f, noted_at l.lines i low) (step_noted (line_at l i) (can_note_lem l.lines i low (lines_room f)));
          }

      receive_by : (b : Bool) → to.found ≡ b
          → Received (cond b (cond lost_there (loses l t to.at) (places l t to.at (record_of x body))) (unroutes l t))
      receive_by true f = found_by f lost_there refl
      receive_by false f = none_moves f

  -- an accepted OPEN finds no file open
  open_finds : (n k time i : ℕ) → refusal l n k (open_event time i) ≡ 0 → is_open (line_at l i).current ≡ false
  open_finds n k time i e =
      let last = (17 when ltb k (needed_by l (open_event time i))) ∷ [] in
      let r14 = (14 when is_open (line_at l i).current) ∷ last in
      let r6 = (6 when leb (length l.lines) i) ∷ r14 in
      let r4 = (4 when ltb 52595999 time) ∷ r6 in
      let p16 = passed 15 (ltb n (regions l.lines)) r4 e in
      let p4 = passed 3 (ltb 52595999 time) r6 p16.1 in
      let p6 = passed 5 (leb (length l.lines) i) r14 p4.1 in
      (passed 13 (is_open (line_at l i).current) last p6.1).0

  -- an accepted CLOSE names a configured route
  close_finds : (n k time i reason : ℕ) → refusal l n k (close_event time i reason) ≡ 0 → i < length l.lines
  close_finds n k time i reason e =
      let last = (17 when ltb k (needed_by l (close_event time i reason))) ∷ [] in
      let r15 = (15 when not (is_open (line_at l i).current)) ∷ last in
      let r7 = (7 when not (is_one_of reason closing_reasons)) ∷ r15 in
      let r6 = (6 when leb (length l.lines) i) ∷ r7 in
      let r4 = (4 when ltb 52595999 time) ∷ r6 in
      let p16 = passed 15 (ltb n (regions l.lines)) r4 e in
      let p4 = passed 3 (ltb 52595999 time) r6 p16.1 in
      leb-false (length l.lines) i (passed 5 (leb (length l.lines) i) r7 p4.1).0

  -- an accepted RECEIVE finds no counter at its end that it raises
  receive_finds : (n k time : ℕ) (a : Arrival) (key body : List ℕ) → refusal l n k (receive_event time a key body) ≡ 0 → counters_full l a key (length body) ≡ false
  receive_finds n k time a key body e =
      let last = (17 when ltb k (needed_by l (receive_event time a key body))) ∷ [] in
      let r19 = (19 when counters_full l a key (length body)) ∷ last in
      let r5 = (5 when not (fits_mark a.mark a (length key))) ∷ r19 in
      let r4 = (4 when ltb 52595999 time) ∷ r5 in
      let p16 = passed 15 (ltb n (regions l.lines)) r4 e in
      let p4 = passed 3 (ltb 52595999 time) r5 p16.1 in
      let p5 = passed 4 (not (fits_mark a.mark a (length key))) r19 p4.1 in
      (passed 18 (counters_full l a key (length body)) last p5.1).0

  carried_moves : (n k : ℕ) (e : Event) → refusal l n k e ≡ 0 → Moved l e (record { answer = answer_by zero l e; entry = entry_by zero l e })
  carried_moves n k (open_event time i) z = open_moves _ (effective l (open_event time i)) time i (open_finds n k time i z)
  carried_moves n k (close_event time i reason) z = close_moves _ (effective l (close_event time i reason)) time i reason (close_finds n k time i reason z) (line_at l i).current refl
  carried_moves n k (tick_event time) z = tick_moves _ (effective l (tick_event time)) time
  carried_moves n k (receive_event time x key body) z =
      receive_by (answer_by zero l (receive_event time x key body)) refl time (effective l (receive_event time x key body)) x key body (receive_finds n k time x key body z) (routed_to l x key).found refl

  moves_by : (n k : ℕ) (e : Event) (r : ℕ) → refusal l n k e ≡ r → Moved l e (record { answer = answer_by r l e; entry = entry_by r l e })
  moves_by n k e zero z = carried_moves n k e z
  moves_by n k e (suc r) z = refused_moves r e (answer_by (suc r) l e) refl

  pub entry_moves : (n k : ℕ) (e : Event) → Moved l e (record { answer = answer_of l n k e; entry = entry_of l n k e })
  unfolding answer_of entry_of
  entry_moves n k e = moves_by n k e (refusal l n k e) refl

-- A refused event changes nothing. The answer's refusal is 0 exactly where none applies.
module _ (l : Ledger) (n k : ℕ) (e : Event) where
  pub answer_refusal : (answer_of l n k e).refusal ≡ refusal l n k e
  unfolding answer_of
  answer_refusal = go (refusal l n k e)
    where
      go : (r : ℕ) → (answer_by r l e).refusal ≡ r
      go zero = refl
      go (suc r) = refl

  pub refused_entry : (r : ℕ) → refusal l n k e ≡ suc r → entry_of l n k e ≡ record { ledger = l; closings = [] }
  unfolding entry_of
  refused_entry r z = ap (λ (m : ℕ). entry_by m l e) z
