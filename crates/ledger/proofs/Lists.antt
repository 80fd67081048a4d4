-- What the ledger alone does over any list of calls, with no manager: each event that is tried adds what Demand3 counts of it (Books), hence so
-- does a packet, and so does a list. On every line of a fresh ledger received = closed + open + lost, and the loss counts in its closed
-- files and the pending ones are the lost and the unrouted records. Assumes nothing.
use Rattle.std.specs.Prelude.{◌≡◌, refl, ◌↔◌, Bool, true, false, cond, not, ◌&&◌, List, [], ◌∷◌, ◌++◌, ℕ, zero, suc, ◌+◌, ◌-◌, ◌<◌, eqb, length, get_or}
use Rattle.std.proofs.Common.{sym, ap, ◌∙◌, subst, append_assoc, append-nil, arith, add-zero, length-append, eqb-true, eq-eqb}
use Rattle.std.proofs.Math.Path.{transport}
use Rattle.std.proofs.Math.Dec.{eqb-suc-zero}
use Rattle.record.specs.Record.{Record}
use Rattle.cdrfile.specs.File.{File}
use Rattle.state.specs.declared.RouteSettings.{RouteSettings}
use Rattle.state.specs.Routing.{Routed}
use Rattle.settings.specs.Settings.{routes_in, route_start}
use Rattle.events.specs.declared.Answer.{Answer}
use Rattle.events.specs.declared.Arrival.{Arrival}
use Rattle.packets.specs.Packet.{Delivered, wrong_packet, delivered}
use Rattle.ledger.specs.Event.{Event, open_event, close_event, tick_event, receive_event, Call, event_call, packet_call, Lent, Heard, as_receive, tried_of, tried, heard}
use Rattle.ledger.specs.Ledger.{none, Line, Ledger, no_line, line_at, Closing, lengths, records_in, records_of, routed_to, lost_by, refusal, answer_by, answer_of, entry_of}
use Rattle.ledger.specs.Packets.{Packed, nothing, and_then, receives_each, receives_list, packet_of}
use Rattle.ledger.specs.Run.{Done, said_in, Booked, booked, books_of, booked_in, closings_in, ledger_after, line_from, lines_from, ledger_from}
use Rattle.ledger.specs.Demand3.{received_on, lost_rule, lost_there, LostExactly, unrouted_by, one, received, lost, unrouted, placed_if, placed, on_route, closed_on, AllBelow, Answered}
use Rattle.ledger.proofs.Books.{flat, held, held_flat, known, noted, Counted, Small, Step, stays, behind, Same, same_self, same_behind, same_length, same_settings, same_routed, same_received, same_lost, same_unrouted, below_append, on_append, entry_moves}

-- The counts of Demand3 depend on the settings alone,
module _ {l m : Ledger} (h : Same l m) where
  same_there : (e : Event) (a : Answer) → lost_there m e a ≡ lost_there l e a
  same_there (open_event time r) a = refl
  same_there (close_event time r reason) a = refl
  same_there (tick_event time) a = refl
  same_there (receive_event time x key body) a =
      ap (λ (r : Routed). eqb a.refusal 0 && r.found && lost_by (line_at m r.at).settings x (length body)) (same_routed h x key)
      ∙ ap (λ (s : RouteSettings). eqb a.refusal 0 && (routed_to l x key).found && lost_by s x (length body)) (same_settings h (routed_to l x key).at)

  same_exactly : (hs : List Heard) → LostExactly m hs → LostExactly l hs
  same_exactly [] e = tt
  same_exactly (x ∷ hs) e =
      let p = same_there x.event x.answer in
      (((λ z. sym p ∙ e.0.0 z), (λ z. e.0.1 (p ∙ z))), same_exactly hs e.1)

  all_received : (i : ℕ) (hs : List Heard) → received m i hs ≡ received l i hs
  all_received i [] = refl
  all_received i (x ∷ hs) = λ j. one (same_received h i x.event x.answer j) + all_received i hs j

  all_lost : (i : ℕ) (hs : List Heard) → lost m i hs ≡ lost l i hs
  all_lost i [] = refl
  all_lost i (x ∷ hs) = λ j. one (same_received h i x.event x.answer j && same_lost h i x.event j) + all_lost i hs j

  all_unrouted : (hs : List Heard) → unrouted m hs ≡ unrouted l hs
  all_unrouted [] = refl
  all_unrouted (x ∷ hs) = λ j. one (same_unrouted h x.event x.answer j) + all_unrouted hs j

  all_placed : (i : ℕ) (hs : List Heard) → placed m i hs ≡ placed l i hs
  all_placed i [] = refl
  all_placed i (x ∷ hs) =
      λ j. placed_if (same_received h i x.event x.answer j && not (same_lost h i x.event j)) x.event ++ all_placed i hs j

-- and those of two lists, one behind the other, are added.
module _ (l : Ledger) where
  exactly_append : (hs gs : List Heard) → LostExactly l hs → LostExactly l gs → LostExactly l (hs ++ gs)
  exactly_append [] gs p q = q
  exactly_append (x ∷ hs) gs p q = (p.0, exactly_append hs gs p.1 q)

  received_append : (i : ℕ) (hs gs : List Heard) → received l i (hs ++ gs) ≡ received l i hs + received l i gs
  received_append i [] gs = omega arith
  received_append i (x ∷ hs) gs = omega (arith, received_append i hs gs)

  lost_append : (i : ℕ) (hs gs : List Heard) → lost l i (hs ++ gs) ≡ lost l i hs + lost l i gs
  lost_append i [] gs = omega arith
  lost_append i (x ∷ hs) gs = omega (arith, lost_append i hs gs)

  unrouted_append : (hs gs : List Heard) → unrouted l (hs ++ gs) ≡ unrouted l hs + unrouted l gs
  unrouted_append [] gs = omega arith
  unrouted_append (x ∷ hs) gs = omega (arith, unrouted_append hs gs)

  placed_append : (i : ℕ) (hs gs : List Heard) → placed l i (hs ++ gs) ≡ placed l i hs ++ placed l i gs
  placed_append i [] gs = refl
  placed_append i (x ∷ hs) gs =
      let ps = placed_if (received_on l i x.event x.answer && not (lost_rule l i x.event)) x.event in
      ap (λ (rs : List Record). ps ++ rs) (placed_append i hs gs) ∙ sym (append_assoc ps (placed l i hs) (placed l i gs))

-- Behind the ledger l stands m: the events hs were tried, the files cs closed, and each line has what the list itself says.
pub record Ran (l m : Ledger) (hs : List Heard) (cs : List Closing) : Type 0 where
  pub same : Same l m
  pub below : AllBelow (length l.lines) cs
  pub exactly : LostExactly l hs
  pub counter : m.unrouted ≡ l.unrouted + unrouted l hs
  pub line : (i : ℕ) → i < length l.lines
      → Step (line_at l i) (line_at m i) (received l i hs) (lost l i hs) (unrouted l hs) (on_route i cs) (placed l i hs)

ran_none : (l : Ledger) → Ran l l [] []
ran_none l = record { same = same_self l; below = tt; exactly = tt; counter = omega arith; line = λ i low. stays (line_at l i) }

ran_behind : {l m k : Ledger} {hs gs : List Heard} {cs ds : List Closing} → Ran l m hs cs → Ran m k gs ds → Ran l k (hs ++ gs) (cs ++ ds)
ran_behind {l} {m} {k} {hs} {gs} {cs} {ds} p q =
    let s = p.same in
    record {
      same = same_behind s q.same;
      below = below_append (length l.lines) cs ds p.below (subst (λ (n : ℕ). AllBelow n ds) (same_length s) q.below);
      exactly = exactly_append l hs gs p.exactly (same_exactly s gs q.exactly);
      counter = omega (arith, p.counter, q.counter, all_unrouted s gs, unrouted_append l hs gs);
      line = λ i low.
          transport
          (λ j.
          Step (line_at l i) (line_at k i)
          ((ap (λ (n : ℕ). received l i hs + n) (all_received s i gs) ∙ sym (received_append l i hs gs)) j)
          ((ap (λ (n : ℕ). lost l i hs + n) (all_lost s i gs) ∙ sym (lost_append l i hs gs)) j)
          ((ap (λ (n : ℕ). unrouted l hs + n) (all_unrouted s gs) ∙ sym (unrouted_append l hs gs)) j)
          (sym (on_append i cs ds) j)
          ((ap (λ (rs : List Record). placed l i hs ++ rs) (all_placed s i gs) ∙ sym (placed_append l i hs gs)) j))
          (behind (p.line i low) (q.line i (omega (arith, same_length s))));
    }

-- One event: an outcome of the ledger's is 3 exactly by the loss rule.
by_outcome : (f c : Bool) → eqb (cond f (cond c 3 2) 4) 3 ≡ (f && c)
by_outcome true true = refl
by_outcome true false = refl
by_outcome false c = refl

outcome_lost : (l : Ledger) (r : ℕ) (e : Event) → eqb (answer_by r l e).outcome 3 ≡ lost_there l e (answer_by r l e)
outcome_lost l zero (open_event time i) = refl
outcome_lost l zero (close_event time i reason) = refl
outcome_lost l zero (tick_event time) = refl
outcome_lost l zero (receive_event time x key body) = by_outcome (routed_to l x key).found (lost_by (line_at l (routed_to l x key).at).settings x (length body))
outcome_lost l (suc r) (open_event time i) = refl
outcome_lost l (suc r) (close_event time i reason) = refl
outcome_lost l (suc r) (tick_event time) = refl
outcome_lost l (suc r) (receive_event time x key body) =
    sym (ap (λ (b : Bool). b && (routed_to l x key).found && lost_by (line_at l (routed_to l x key).at).settings x (length body)) (eqb-suc-zero r))

answer_lost : (l : Ledger) (n k : ℕ) (e : Event) → ((answer_of l n k e).outcome ≡ 3) ↔ (lost_there l e (answer_of l n k e) ≡ true)
unfolding answer_of
answer_lost l n k e = let p = outcome_lost l (refusal l n k e) e in ((λ z. sym p ∙ eq-eqb _ _ z), (λ z. eqb-true _ _ (p ∙ z)))

ran_event : (l : Ledger) (n k : ℕ) (e : Event) → Ran l (entry_of l n k e).ledger (record { event = e; answer = answer_of l n k e } ∷ []) (entry_of l n k e).closings
ran_event l n k e =
    let p = entry_moves l n k e in
    let a = answer_of l n k e in
    record {
      same = p.same;
      below = p.below;
      exactly = (answer_lost l n k e, tt);
      counter = omega (arith, p.unrouted);
      line = λ i low.
          transport
          (λ j.
          Step (line_at l i) (line_at (entry_of l n k e).ledger i)
          (sym (add-zero (one (received_on l i e a))) j)
          (sym (add-zero (one (received_on l i e a && lost_rule l i e))) j)
          (sym (add-zero (one (unrouted_by l e a))) j)
          (on_route i (entry_of l n k e).closings)
          (sym (append-nil (placed_if (received_on l i e a && not (lost_rule l i e)) e)) j))
          (p.line i low);
    }

-- A packet: its records one after another, up to the first that is refused.
abbrev RanPacket : Ledger → List Delivered → Packed → Type 0
RanPacket l ds p = Ran l p.entry.ledger (tried_of ds p.answers) p.entry.closings

ran_each : (ds : List Delivered) (l : Ledger) (n k : ℕ) → RanPacket l ds (receives_each l n k ds)
ran_each [] l n k = ran_none l
ran_each (d ∷ ds) l n k =
    let e = entry_of l n k (as_receive d) in
    go (refusal l n k (as_receive d)) (receives_each e.ledger n (k - lengths e.closings) ds) (ran_each ds e.ledger n (k - lengths e.closings))
  where
    go : (r : ℕ) (others : Packed) → RanPacket (entry_of l n k (as_receive d)).ledger ds others
        → RanPacket l (d ∷ ds) (and_then r (answer_of l n k (as_receive d)) (entry_of l n k (as_receive d)) others)
    go zero others h = ran_behind (ran_event l n k (as_receive d)) h
    go (suc r) others h = ran_event l n k (as_receive d)

ran_packet : (l : Ledger) (n k : ℕ) (xs : List ℕ) → RanPacket l (delivered xs) (packet_of l n k xs)
ran_packet l n k xs = go (wrong_packet xs)
  where
    listed : (ds : List Delivered) → RanPacket l ds (receives_list l n k ds)
    listed [] = ran_none l
    listed (d ∷ ds) = ran_each (d ∷ ds) l n k

    go : (b : Bool) → RanPacket l (delivered xs) (cond b (nothing 11 l) (receives_list l n k (delivered xs)))
    go true = ran_none l
    go false = listed (delivered xs)

-- Any list of calls.
ran_call : (l : Ledger) (n k : ℕ) (c : Call) → Ran l (booked l n k c).entry.ledger (tried c (booked l n k c).said) (booked l n k c).entry.closings
ran_call l n k (event_call e) = ran_event l n k e
ran_call l n k (packet_call xs) = ran_packet l n k xs

abbrev pub heard_by : Ledger → ℕ → List Lent → List Heard
heard_by l n cs = heard cs (booked_in (books_of l n cs))

pub ran : (l : Ledger) (n : ℕ) (cs : List Lent) → Ran l (ledger_after l n cs) (heard_by l n cs) (closings_in (books_of l n cs))
ran l n [] = ran_none l
ran l n (c ∷ cs) =
    ran_behind (ran_call l n (length c.output) c.call) (ran (booked l n (length c.output) c.call).entry.ledger n cs)

-- the manager says the same where each call is answered as the ledger has it
pub said_same : (cs : List Lent) (done : List Done) (bs : List Booked) → Answered cs done bs → said_in done ≡ booked_in bs
said_same [] [] [] h = refl
said_same [] [] (b ∷ bs) h = absurd h
said_same [] (x ∷ done) bs h = absurd h
said_same (c ∷ cs) [] bs h = absurd h
said_same (c ∷ cs) (x ∷ done) [] h = absurd h
said_same (c ∷ cs) (x ∷ done) (b ∷ bs) h = λ j. h.0.0 j ∷ said_same cs done bs h.1 j

-- The balance of a line.
abbrev Balanced : Line → Type 0
Balanced x = x.received ≡ held x.closed + length (records_of x) + x.lost

step_balanced : {x y : Line} {r s u : ℕ} {cs : List File} {ps : List Record} → Step x y r s u cs ps → r ≡ length ps + s → Balanced x → Balanced y
step_balanced {x} {y} {r} {s} {u} {cs} {ps} h w b =
    let more = ap length h.records in
    omega (arith, h.received, h.lost, more, length-append (flat y.closed) (records_of y), length-append (flat x.closed ++ records_of x) ps, length-append (flat x.closed) (records_of x), held_flat x.closed, held_flat y.closed)

-- what is received is placed or lost
one_kind : (b c : Bool) (time : ℕ) (a : Arrival) (key body : List ℕ)
    → one b ≡ length (placed_if (b && not c) (receive_event time a key body)) + one (b && c)
one_kind true true time a key body = refl
one_kind true false time a key body = refl
one_kind false c time a key body = refl

placed_or_lost : (l : Ledger) (i : ℕ) (e : Event) (a : Answer)
    → one (received_on l i e a) ≡ length (placed_if (received_on l i e a && not (lost_rule l i e)) e) + one (received_on l i e a && lost_rule l i e)
placed_or_lost l i (open_event time r) a = refl
placed_or_lost l i (close_event time r reason) a = refl
placed_or_lost l i (tick_event time) a = refl
placed_or_lost l i (receive_event time x key body) a =
    one_kind (received_on l i (receive_event time x key body) a) (lost_rule l i (receive_event time x key body)) time x key body

all_placed_or_lost : (l : Ledger) (i : ℕ) (hs : List Heard) → received l i hs ≡ length (placed l i hs) + lost l i hs
all_placed_or_lost l i [] = refl
all_placed_or_lost l i (h ∷ hs) =
    let ps = placed_if (received_on l i h.event h.answer && not (lost_rule l i h.event)) h.event in
    omega (arith, placed_or_lost l i h.event h.answer, all_placed_or_lost l i hs, length-append ps (placed l i hs))

-- A fresh ledger: as many lines as routes, nothing counted, no files.
record Fresh (x : Line) : Type 0 where
  received : x.received ≡ 0
  lost : x.lost ≡ 0
  losses : x.losses ≡ 0
  unrouted : x.unrouted ≡ 0
  closed : x.closed ≡ []
  current : x.current ≡ none

module _ (xs : List ℕ) where
  lines_length : (n : ℕ) → length (lines_from xs n) ≡ n
  lines_length zero = refl
  lines_length (suc n) = length-append (lines_from xs n) (line_from xs (route_start n) ∷ []) ∙ omega (arith, lines_length n)

  fresh_more : (k : ℕ) (ls : List Line) → ((i : ℕ) → Fresh (get_or ls i no_line)) → (i : ℕ) → Fresh (get_or (ls ++ (line_from xs k ∷ [])) i no_line)
  fresh_more k [] h zero = record { received = refl; lost = refl; losses = refl; unrouted = refl; closed = refl; current = refl }
  fresh_more k [] h (suc i) = record { received = refl; lost = refl; losses = refl; unrouted = refl; closed = refl; current = refl }
  fresh_more k (x ∷ ls) h zero = h zero
  fresh_more k (x ∷ ls) h (suc i) = fresh_more k ls (λ j. h (suc j)) i

  fresh_lines : (n i : ℕ) → Fresh (get_or (lines_from xs n) i no_line)
  fresh_lines zero i = record { received = refl; lost = refl; losses = refl; unrouted = refl; closed = refl; current = refl }
  fresh_lines (suc n) i = fresh_more (route_start n) (lines_from xs n) (fresh_lines n) i

  pub fresh_length : length (ledger_from xs).lines ≡ routes_in xs
  fresh_length = lines_length (routes_in xs)

  fresh_line : (i : ℕ) → Fresh (line_at (ledger_from xs) i)
  fresh_line = fresh_lines (routes_in xs)

  fresh_balance : {x : Line} → Fresh x → Balanced x
  fresh_balance {x} h = h.received ∙ sym (λ j. held (h.closed j) + length (records_in (h.current j)) + h.lost j)

-- Any list from a fresh ledger.
module _ (xs : List ℕ) (n : ℕ) (cs : List Lent) where
  abbrev l : Ledger
  l = ledger_from xs

  abbrev z : Ledger
  z = ledger_after l n cs

  abbrev hs : List Heard
  hs = heard_by l n cs

  abbrev bs : List Booked
  bs = books_of l n cs

  pub fresh_unrouted : z.unrouted ≡ unrouted l hs
  fresh_unrouted = omega (arith, (ran l n cs).counter)

  module _ (i : ℕ) (low : i < routes_in xs) where
    step : Step (line_at l i) (line_at z i) (received l i hs) (lost l i hs) (unrouted l hs) (closed_on i bs) (placed l i hs)
    step = (ran l n cs).line i (omega (arith, fresh_length xs))

    pub fresh_received : (line_at z i).received ≡ received l i hs
    fresh_received = omega (arith, step.received, (fresh_line xs i).received)

    pub fresh_lost : (line_at z i).lost ≡ lost l i hs
    fresh_lost = omega (arith, step.lost, (fresh_line xs i).lost)

    pub fresh_closed : (line_at z i).closed ≡ closed_on i bs
    fresh_closed = step.closed ∙ ap (λ (fs : List File). fs ++ closed_on i bs) (fresh_line xs i).closed

    pub fresh_records : flat (closed_on i bs) ++ records_of (line_at z i) ≡ placed l i hs
    fresh_records =
        sym (ap (λ (fs : List File). flat fs ++ records_of (line_at z i)) fresh_closed)
        ∙ step.records
        ∙ (λ j. (flat ((fresh_line xs i).closed j) ++ records_in ((fresh_line xs i).current j)) ++ placed l i hs)

    -- the loss counts: those in the closed files and the pending ones are the lost and the unrouted records
    fresh_small : Small (line_at l i)
    fresh_small = record { losses = omega (arith, (fresh_line xs i).losses); unrouted = omega (arith, (fresh_line xs i).unrouted) }

    pub fresh_known : known (closed_on i bs) + (line_at z i).losses ≡ lost l i hs
    fresh_known = omega (arith, step.known fresh_small, ap known fresh_closed, ap known (fresh_line xs i).closed, (fresh_line xs i).losses)

    pub fresh_noted : noted (closed_on i bs) + (line_at z i).unrouted ≡ unrouted l hs
    fresh_noted = omega (arith, step.noted fresh_small, ap noted fresh_closed, ap noted (fresh_line xs i).closed, (fresh_line xs i).unrouted)

    pub fresh_counted : Counted (closed_on i bs)
    fresh_counted = step.counted

    -- received = closed + open + lost, as the list says
    pub fresh_sum : received l i hs ≡ held (closed_on i bs) + length (records_of (line_at z i)) + lost l i hs
    fresh_sum =
        sym fresh_received
        ∙ step_balanced step (all_placed_or_lost l i hs) (fresh_balance xs (fresh_line xs i))
        ∙ (λ j. held (fresh_closed j) + length (records_of (line_at z i)) + fresh_lost j)
