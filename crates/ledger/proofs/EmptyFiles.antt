-- An empty file never closes with 5 or 1 (document 01, The events): of every file that closes over any list of events and packets, from any
-- ledger; by demand 3 these are the manager's files. CLOSE gives 0, 4 or 128 to 131 and TICK 2 or 0. RECEIVE gives 3 to a file with its record
-- in it, and 5 or 1 to the file before it, which then has records: a record cannot differ from those of a file that has none, and a placed
-- record fits a file alone.
use Rattle.std.specs.Prelude.{◌≡◌, Bool, true, false, cond, not, ◌||◌, ltb, leb, eqb, length}
use Rattle.std.proofs.Math.Path.{refl}
use Rattle.std.proofs.Common.{sym, ap, ◌∙◌, arith}
use Rattle.std.proofs.lemmas.Bool.{false≢true}
use mathlib.Core.List.{List, [], ◌∷◌, ◌++◌}
use Prim.Native.Nat.{ℕ, zero, suc, ◌-◌, ◌≤◌}
use Rattle.std.proofs.Math.ListN.{length-append}
use borrow.Author.Tests.{ltb-true, ltb-false, not-false}
use Rattle.refusals.specs.Refusal.{Rule, ◌when◌, passed, or_false}
use Rattle.record.specs.Record.{Record, record_octets, records_octets}
use Rattle.record.specs.HeaderOctets.{record_length}
use Rattle.cdrfile.specs.File.{File}
use Rattle.state.specs.declared.RouteSettings.{RouteSettings}
use Rattle.state.specs.Size.{alone_size}
use Rattle.events.specs.declared.Arrival.{Arrival}
use Rattle.events.specs.Rules.{header_for, record_size}
use Rattle.events.specs.Receive.{record_of}
use Rattle.packets.specs.Packet.{Delivered, wrong_packet, delivered}
use Rattle.ledger.specs.Event.{Event, open_event, close_event, tick_event, receive_event, Call, event_call, packet_call, Lent, as_receive}
use Rattle.ledger.specs.Ledger.{Ledger, Line, Current, none, some, OpenFile, line_at, size_of, Closing, lengths, Entry, close_entry}
use Rattle.ledger.specs.Ledger.{goes_on, ends_with, close_by, close_due, tick_to, due_file, one_came, minutes_at}
use Rattle.ledger.specs.Ledger.{differs_from, exceeds_with, lost_by, routed_to, received_line, Ready, turn_over, ready_by, full_with, append_entry, places, receives}
use Rattle.ledger.specs.Ledger.{carried, effective, is_open, regions, is_one_of, closing_reasons, needed_by, refusal, entry_by, answer_of, entry_of}
use Rattle.ledger.specs.Packets.{Packed, nothing, and_then, receives_each, receives_list, packet_of}
use Rattle.ledger.specs.Run.{booked, books_of, closings_in}

-- a file without records has another reason than 5 and 1
abbrev pub NotTurned : File → Type 0
NotTurned f = f.records ≡ [] → (f.header.reason ≡ 5 → ⊥) × (f.header.reason ≡ 1 → ⊥)

abbrev pub NoneTurned : List Closing → Type 0
NoneTurned [] = Unit {0}
NoneTurned (c ∷ cs) = NotTurned c.file × NoneTurned cs

none_both : (cs ds : List Closing) → NoneTurned cs → NoneTurned ds → NoneTurned (cs ++ ds)
none_both [] ds p q = q
none_both (c ∷ cs) ds p q = (p.0, none_both cs ds p.1 q)

either_none : (b : Bool) (e f : Entry) → (b ≡ true → NoneTurned e.closings) → (b ≡ false → NoneTurned f.closings) → NoneTurned (cond b e f).closings
either_none true e f p q = p refl
either_none false e f p q = q refl

-- CLOSE: the reasons that it may give
reason_other : (reason : ℕ) → is_one_of reason closing_reasons ≡ true → (reason ≡ 5 → ⊥) × (reason ≡ 1 → ⊥)
reason_other reason e = (
  λ q. absurd (false≢true (sym (ap (λ (n : ℕ). is_one_of n closing_reasons) q) ∙ e)),
  λ q. absurd (false≢true (sym (ap (λ (n : ℕ). is_one_of n closing_reasons) q) ∙ e)),
)

close_none : (l : Ledger) (t i reason : ℕ) (c : Current) → is_one_of reason closing_reasons ≡ true → NoneTurned (close_entry l t i reason c).closings
close_none l t i reason none e = tt
close_none l t i reason (some f) e = (λ z. reason_other reason e, tt)

-- TICK: a file that ends has 2 or 0
fate_none : (l : Ledger) (i : ℕ) (x : Line) (f : OpenFile) (e : Entry) (due came : Bool) → NoneTurned e.closings
    → NoneTurned (close_by (cond due (ends_with 2) (cond came (ends_with 0) goes_on)) l i x f e).closings
fate_none l i x f e true came p = none_both e.closings _ p (λ z. (λ q. omega (arith, q), λ q. omega (arith, q)), tt)
fate_none l i x f e false true p = none_both e.closings _ p (λ z. (λ q. omega (arith, q), λ q. omega (arith, q)), tt)
fate_none l i x f e false false p = p

due_none : (l : Ledger) (t i : ℕ) (x : Line) (c : Current) (e : Entry) → NoneTurned e.closings → NoneTurned (close_due l t i x c e).closings
due_none l t i x none e p = p
due_none l t i x (some f) e p = fate_none l i x f e (due_file t x f) (one_came l.bias f.opened t (minutes_at l i)) p

tick_none : (l : Ledger) (t n : ℕ) → NoneTurned (tick_to l t n).closings
tick_none l t zero = tt
tick_none l t (suc n) = due_none l t n (line_at l n) (line_at l n).current (tick_to l t n) (tick_none l t n)

-- RECEIVE.
module _ (l : Ledger) (t i : ℕ) (a : Arrival) (body : List ℕ) (kept : lost_by (line_at l i).settings a (length body) ≡ false) where
  abbrev s : RouteSettings
  s = (line_at l i).settings

  abbrev r : Record
  r = record_of a body

  -- a placed record fits a file alone
  alone : alone_size s.octets (header_for a).release (record_size a (length body)) ≤ s.limit
  alone =
      let size = alone_size s.octets (header_for a).release (record_size a (length body)) in
      ltb-false s.limit size (or_false (eqb a.mark 1 || ltb 65534 (length body)) (ltb s.limit size) kept).1

  fits_empty : exceeds_with s [] r ≡ true → ⊥
  unfolding records_octets
  fits_empty e = omega (arith, ltb-true s.limit (size_of s (r ∷ [])) e, alone, length-append (record_octets r) [], record_length r)

  -- so a file that it turns over has records
  differs_some : (f : OpenFile) → differs_from s f.records r ≡ true → f.records ≡ [] → ⊥
  differs_some f e z = false≢true (sym (ap (λ (rs : List Record). differs_from s rs r) z) ∙ e)

  exceeds_some : (f : OpenFile) → exceeds_with s f.records r ≡ true → f.records ≡ [] → ⊥
  exceeds_some f e z = fits_empty (sym (ap (λ (rs : List Record). exceeds_with s rs r) z) ∙ e)

  ready_none : (c : Current) → NoneTurned (ready_by l (received_line (line_at l i)) t i r c).closings
  ready_none none = tt
  ready_none (some f) = go (differs_from s f.records r) (exceeds_with s f.records r) refl refl
    where
      go : (d e : Bool) → differs_from s f.records r ≡ d → exceeds_with s f.records r ≡ e
          → NoneTurned
          (cond d (turn_over l (received_line (line_at l i)) t i f 5)
          (cond e (turn_over l (received_line (line_at l i)) t i f 1) (record { line = received_line (line_at l i); file = f; closings = [] }))
          ).closings
      go true e p q = (λ z. absurd (differs_some f p z), tt)
      go false true p q = (λ z. absurd (exceeds_some f q z), tt)
      go false false p q = tt

  -- and the file that it fills has 3
  append_none : (y : Ready) → NoneTurned y.closings → NoneTurned (append_entry l t i r y).closings
  append_none y p =
      either_none (full_with y.line.settings (y.file.records ++ (r ∷ []))) _ _
      (λ e. none_both y.closings _ p (λ z. (λ q. omega (arith, q), λ q. omega (arith, q)), tt))
      (λ e. p)

  places_none : NoneTurned (places l t i r).closings
  places_none = append_none (ready_by l (received_line (line_at l i)) t i r (line_at l i).current) (ready_none (line_at l i).current)

receives_none : (l : Ledger) (t : ℕ) (a : Arrival) (key body : List ℕ) → NoneTurned (receives l t a key body).closings
receives_none l t a key body =
    either_none (routed_to l a key).found _ _
    (λ found. either_none (lost_by (line_at l (routed_to l a key).at).settings a (length body)) _ _ (λ e. tt) (λ e. places_none l t (routed_to l a key).at a body e))
    (λ e. tt)

-- An event.
module _ (l : Ledger) (n k : ℕ) where
  carried_none : (e : Event) → refusal l n k e ≡ 0 → NoneTurned (carried l (effective l e) e).closings
  carried_none (open_event time i) z = tt
  carried_none (close_event time i reason) z =
      let by15 : List Rule = (15 when not (is_open (line_at l i).current)) ∷ (17 when ltb k (needed_by l (close_event time i reason))) ∷ [] in
      let by7 : List Rule = (7 when not (is_one_of reason closing_reasons)) ∷ by15 in
      let by6 : List Rule = (6 when leb (length l.lines) i) ∷ by7 in
      let p16 = passed 15 (ltb n (regions l.lines)) ((4 when ltb 52595999 time) ∷ by6) z in
      let p4 = passed 3 (ltb 52595999 time) by6 p16.1 in
      let p6 = passed 5 (leb (length l.lines) i) by7 p4.1 in
      let p7 = passed 6 (not (is_one_of reason closing_reasons)) by15 p6.1 in
      close_none l (effective l (close_event time i reason)) i reason (line_at l i).current (not-false (is_one_of reason closing_reasons) p7.0)
  carried_none (tick_event time) z = tick_none l (effective l (tick_event time)) (length l.lines)
  carried_none (receive_event time a key body) z = receives_none l (effective l (receive_event time a key body)) a key body

  event_none : (e : Event) → NoneTurned (entry_of l n k e).closings
  unfolding entry_of
  event_none e = go (refusal l n k e) refl
    where
      go : (q : ℕ) → refusal l n k e ≡ q → NoneTurned (entry_by q l e).closings
      go zero z = carried_none e z
      go (suc q) z = tt

-- A packet.
each_none : (ds : List Delivered) (l : Ledger) (n k : ℕ) → NoneTurned (receives_each l n k ds).entry.closings
each_none [] l n k = tt
each_none (d ∷ ds) l n k =
    go (refusal l n k (as_receive d)) (entry_of l n k (as_receive d)) (event_none l n k (as_receive d)) _
    (each_none ds (entry_of l n k (as_receive d)).ledger n (k - lengths (entry_of l n k (as_receive d)).closings))
  where
    go : (q : ℕ) (e : Entry) → NoneTurned e.closings → (others : Packed) → NoneTurned others.entry.closings
        → NoneTurned (and_then q (answer_of l n k (as_receive d)) e others).entry.closings
    go zero e p others o = none_both e.closings others.entry.closings p o
    go (suc q) e p others o = p

packet_none : (l : Ledger) (n k : ℕ) (xs : List ℕ) → NoneTurned (packet_of l n k xs).entry.closings
packet_none l n k xs = go (wrong_packet xs) (delivered xs)
  where
    go : (b : Bool) (ds : List Delivered) → NoneTurned (cond b (nothing 11 l) (receives_list l n k ds)).entry.closings
    go true ds = tt
    go false [] = tt
    go false (d ∷ ds) = each_none (d ∷ ds) l n k

call_none : (l : Ledger) (n k : ℕ) (c : Call) → NoneTurned (booked l n k c).entry.closings
call_none l n k (event_call e) = event_none l n k e
call_none l n k (packet_call xs) = packet_none l n k xs

-- Every file that closes over a list of calls.
pub empty_files : (l : Ledger) (n : ℕ) (cs : List Lent) → NoneTurned (closings_in (books_of l n cs))
empty_files l n [] = tt
empty_files l n (c ∷ cs) =
    let b = booked l n (length c.output) c.call in
    none_both b.entry.closings (closings_in (books_of b.entry.ledger n cs)) (call_none l n (length c.output) c.call) (empty_files b.entry.ledger n cs)
