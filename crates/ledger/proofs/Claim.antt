-- From one event to a packet of them, and from one call to any list of calls. Assumes nothing.
use Rattle.std.specs.Prelude.{◌≡◌, Bool, cond, not, ◌||◌, List, [], ◌∷◌, ◌++◌, ℕ, zero, suc, ◌+◌, ◌-◌, ◌≤◌, ltb, eqb, length, take, drop}
use Rattle.std.proofs.Math.Path.{refl}
use Rattle.std.proofs.Common.{sym, ap, ◌∙◌, subst, append_assoc, arith, zero-add, length-append, length-drop, take_at, drop_at, drop-drop, eq-eqb}
use Rattle.std.proofs.Math.Bool.{true, false}
use Rattle.octets.specs.Number.{Octets, octets_drop, octets_take}
use Rattle.octets.specs.Splice.{splice, splice_nil, splice_length}
use Rattle.refusals.specs.Refusal.{Rule, ◌when◌, first}
use Rattle.cdrfile.specs.File.{layout}
use Rattle.state.specs.Manager.{Manager}
use Rattle.state.specs.Manager.{regions}
use Rattle.state.specs.Bounds.{state_right}
use Rattle.words.specs.Words.{manager_in, words_of}
use Rattle.words.specs.Laws.{Held, words_length, manager_words}
use Rattle.events.specs.declared.Answer.{Answer}
use Rattle.events.specs.Events.{After, open_of, close_of, tick_of}
use Rattle.events.specs.Receive.{receive_of}
use Rattle.events.specs.Lent.{Left, worded, unlike, lent, open_on, close_on, tick_on, receive_on}
use Rattle.events.specs.Held.{open_held, close_held, tick_held, receive_held}
use Rattle.packets.specs.Packet.{Delivered, key_length, body_length, size_of, first_of, records_in, wrong_packet, delivered}
use Rattle.packets.specs.Fold.{Taken, untried, before, take_all, empty_refusal, listed_on, packet_on}
use Rattle.ledger.specs.Event.{Event, open_event, close_event, tick_event, receive_event, Call, event_call, packet_call, Lent, Said, event_answer, packet_answers, refusal_in, as_receive}
use Rattle.ledger.specs.Ledger.{Ledger, Closing, lengths, rules, refusal, answer_by, answer_of, entry_by, entry_of}
use Rattle.ledger.specs.Ledger.{regions as regions_booked}
use Rattle.ledger.specs.Packets.{Packed, nothing, and_then, receives_each, receives_list}
use Rattle.ledger.specs.Run.{happens, leaves, Done, by_event, by_packet, done_by, run_of, Booked, by_packed, booked, books_of, closings_in, joined, end_of, store_after, ledger_after}
use Rattle.ledger.proofs.Agrees.{Agrees}
use Rattle.ledger.proofs.Regions.{regions_same}
use Rattle.ledger.proofs.Books.{answer_refusal}
use Rattle.ledger.proofs.Steps.{AllRightFiles, Holds}
use Rattle.ledger.proofs.StepPlaced.{length_joined, right_append}
use Rattle.ledger.specs.Demand3.{Given, GivenCall, AllGiven, Answered}

-- 18 is no rule of the ledger's.
abbrev Never : ℕ → List Rule → Type 0
Never n [] = Unit {0}
Never n (r ∷ rs) = (r.number ≡ n → ⊥) × Never n rs

by_rule : (n : ℕ) (r : Rule) (rs : List Rule) → (r.number ≡ n → ⊥) → (first rs ≡ n → ⊥) → first (r ∷ rs) ≡ n → (b : Bool) → r.applies ≡ b → ⊥
by_rule n r rs h rest e true p = h (sym (λ i. cond (p i) r.number (first rs)) ∙ e)
by_rule n r rs h rest e false p = rest (sym (λ i. cond (p i) r.number (first rs)) ∙ e)

not_first : (n : ℕ) (rs : List Rule) → (n ≡ 0 → ⊥) → Never n rs → first rs ≡ n → ⊥
not_first n [] z never e = z (sym e)
not_first n (r ∷ rs) z never e = by_rule n r rs never.0 (not_first n rs z never.1) e r.applies refl

never_eighteen : (l : Ledger) (n k : ℕ) (e : Event) → refusal l n k e ≡ 18 → ⊥
never_eighteen l n k (open_event time i) e =
    not_first 18 (rules l n k (open_event time i)) (λ z. omega arith) ((λ z. omega arith), ((λ z. omega arith), ((λ z. omega arith), ((λ z. omega arith), ((λ z. omega arith), tt))))) e
never_eighteen l n k (close_event time i reason) e =
    not_first 18 (rules l n k (close_event time i reason)) (λ z. omega arith) ((λ z. omega arith), ((λ z. omega arith), ((λ z. omega arith), ((λ z. omega arith), ((λ z. omega arith), ((λ z. omega arith), tt)))))) e
never_eighteen l n k (tick_event time) e = not_first 18 (rules l n k (tick_event time)) (λ z. omega arith) ((λ z. omega arith), ((λ z. omega arith), ((λ z. omega arith), tt))) e
never_eighteen l n k (receive_event time a key body) e =
    not_first 18 (rules l n k (receive_event time a key body)) (λ z. omega arith) ((λ z. omega arith), ((λ z. omega arith), ((λ z. omega arith), ((λ z. omega arith), ((λ z. omega arith), tt))))) e

-- what holds of a list
pub record Runs (words store : List ℕ) (l : Ledger) (cs : List Lent) : Type 0 where
  pub answered : Answered cs (run_of words store cs) (books_of l (length store) cs)
  pub agrees : Agrees (store_after words store cs) (manager_in (end_of words store cs)) (ledger_after l (length store) cs)
  pub right : AllRightFiles (closings_in (books_of l (length store) cs))

-- One event holds: the steps show it.
abbrev pub EventHolds : Type 0
EventHolds =
    (store : List ℕ) (m : Manager) (l : Ledger) → Agrees store m l → (e : Event) (output : List ℕ) → Given e
    → Holds store output (happens m store output e) (answer_of l (length store) (length output) e) (entry_of l (length store) (length output) e)

-- An event on a state's words is the event on the state.
module _ {m : Manager} (h : Held m) (store output : List ℕ) where
  on_words : (event : Manager → After) → lent (words_of m) store output event ≡ worded (event m)
  on_words event =
      (λ i. cond (eq-eqb (length (words_of m)) 360 (words_length m h.eight h.sets) i) (worded (event (manager_in (words_of m)))) (unlike (words_of m) store output))
      ∙ ap (λ (n : Manager). worded (event n)) (manager_words m h)

  leaves_worded : (e : Event) → leaves (words_of m) store output e ≡ worded (happens m store output e)
  unfolding open_on close_on tick_on receive_on
  leaves_worded (open_event time i) = on_words (λ n. open_of n store output time i)
  leaves_worded (close_event time i reason) = on_words (λ n. close_of n store output time i reason)
  leaves_worded (tick_event time) = on_words (λ n. tick_of n store output time)
  leaves_worded (receive_event time a key body) = on_words (λ n. receive_of n store output time a key body)

  -- and leaves a state that its words stand for
  happens_held : (e : Event) → Given e → Held (happens m store output e).outcome.manager
  happens_held (open_event time i) g = open_held h store output time i
  happens_held (close_event time i reason) g = close_held h store output time i reason
  happens_held (tick_event time) g = tick_held h store output time
  happens_held (receive_event time a key body) g = receive_held h store output time a key body g.0

-- What a call leaves, beside what the ledger books for it.
record Kept (store output : List ℕ) (x : Done) (b : Booked) : Type 0 where
  manager : Manager
  held : Held manager
  words : x.words ≡ words_of manager
  says : x.said ≡ b.said
  never : refusal_in b.said ≡ 18 → ⊥
  agrees : Agrees x.store manager b.entry.ledger
  long : length x.store ≡ length store
  writes : x.output ≡ splice output 0 (joined b.entry.closings)
  room : length (joined b.entry.closings) ≤ length output
  right : AllRightFiles b.entry.closings

-- a packet of which nothing is taken
kept_untried : {store : List ℕ} (output : List ℕ) {m : Manager} {l : Ledger} → Agrees store m l → Held m → {q r : ℕ} → q ≡ r → (r ≡ 18 → ⊥)
    → Kept store output (by_packet (untried q (words_of m) store output)) (by_packed (nothing r l))
kept_untried output {m} a h e never =
    record {
      manager = m;
      held = h;
      words = refl;
      says = ap (λ (n : ℕ). packet_answers n 0 []) e;
      never = never;
      agrees = a;
      long = refl;
      writes = sym (splice_nil output 0);
      room = omega arith;
      right = tt;
    }

-- The files of an accepted event are as long as its answer says.
accepted_octets : (l : Ledger) (n k : ℕ) (e : Event) → refusal l n k e ≡ 0 → (answer_of l n k e).octets ≡ lengths (entry_of l n k e).closings
unfolding answer_of entry_of
accepted_octets l n k e z = ap (λ (r : ℕ). (answer_by r l e).octets) z ∙ sym (ap (λ (r : ℕ). lengths (entry_by r l e).closings) z)

joined_append : (cs ds : List Closing) → joined (cs ++ ds) ≡ joined cs ++ joined ds
joined_append [] ds = refl
joined_append (c ∷ cs) ds = ap (λ (l : List ℕ). layout c.file ++ l) (joined_append cs ds) ∙ sym (append_assoc (layout c.file) (joined cs) (joined ds))

-- Files over the output's start, and others over what they left of it, are all of them over its start.
splice_start : (xs ys : List ℕ) → splice xs 0 ys ≡ ys ++ drop (length ys) xs
unfolding splice
splice_start xs ys = ap (λ (n : ℕ). ys ++ drop n xs) (zero-add (length ys))

splice_behind : (output files more : List ℕ)
    → take (length files) (splice output 0 files) ++ splice (drop (length files) (splice output 0 files)) 0 more ≡ splice output 0 (files ++ more)
splice_behind output files more =
    let rest = drop (length files) output in
    (λ i. take (length files) (splice_start output files i) ++ splice (drop (length files) (splice_start output files i)) 0 more)
    ∙ (λ i. take_at files rest (length files) refl i ++ splice (drop_at files rest (length files) refl i) 0 more)
    ∙ ap (λ (l : List ℕ). files ++ l) (splice_start rest more)
    ∙ ap (λ (l : List ℕ). files ++ (more ++ l)) (drop-drop (length more) (length files) output ∙ ap (λ (n : ℕ). drop n output) (sym (length-append files more)))
    ∙ sym (append_assoc files more (drop (length (files ++ more)) output))
    ∙ sym (splice_start output (files ++ more))

-- an answer more
abbrev more : Answer → Said → Said
more a (event_answer b) = event_answer b
more a (packet_answers refusal accepted answers) = packet_answers refusal (suc accepted) (a ∷ answers)

-- the records of a packet as the machine can be given them
abbrev AllDelivered : List Delivered → Type 0
AllDelivered [] = Unit {0}
AllDelivered (d ∷ ds) = Given (as_receive d) × AllDelivered ds

records_given : (n : ℕ) (xs : List ℕ) → Octets xs → AllDelivered (records_in n xs)
records_given zero xs o = tt
records_given (suc n) xs o = go (eqb (length xs) 0) (records_given n (drop (size_of xs) xs) (octets_drop (size_of xs) o))
  where
    go : (b : Bool) → AllDelivered (records_in n (drop (size_of xs) xs)) → AllDelivered (cond b [] (first_of xs ∷ records_in n (drop (size_of xs) xs)))
    go true rest = tt
    go false rest = ((o.at 8, octets_take (body_length xs) (octets_drop (15 + key_length xs) o)), rest)

delivered_given : (xs : List ℕ) → Octets xs → AllDelivered (delivered xs)
unfolding delivered
delivered_given xs o = records_given 64 xs o

module _ (step : EventHolds) where
  -- One event, on words.
  module _ {store : List ℕ} {m : Manager} {l : Ledger} (a : Agrees store m l) (h : Held m) (n : ℕ) (p : n ≡ length store) (output : List ℕ) (k : ℕ) (q : k ≡ length output) (e : Event) (g : Given e) where
    abbrev done : After
    done = happens m store output e

    holds : Holds store output done (answer_of l n k e) (entry_of l n k e)
    holds =
        subst (λ (j : ℕ). Holds store output done (answer_of l n j e) (entry_of l n j e)) (sym q)
        (subst (λ (j : ℕ). Holds store output done (answer_of l j (length output) e) (entry_of l j (length output) e)) (sym p) (step store m l a e output g))

    kept_event : Kept store output (done_by (words_of m) store output (event_call e)) (booked l n k (event_call e))
    kept_event =
        subst (λ (x : Left). Kept store output (by_event x) (booked l n k (event_call e))) (sym (leaves_worded h store output e))
        (record {
          manager = done.outcome.manager;
          held = happens_held h store output e g;
          words = refl;
          says = ap event_answer holds.answers;
          never = λ z. never_eighteen l n k e (sym (answer_refusal l n k e) ∙ z);
          agrees = holds.agrees;
          long = holds.long;
          writes = holds.writes;
          room = holds.room;
          right = holds.right;
        })

    -- refused, it is the last of its packet
    kept_last : (r : ℕ) → refusal l n k e ≡ suc r → (rest : Taken) (others : Packed)
        → Kept store output (by_packet (before (suc r) (worded done) rest)) (by_packed (and_then (suc r) (answer_of l n k e) (entry_of l n k e) others))
    kept_last r z rest others =
        record {
          manager = done.outcome.manager;
          held = happens_held h store output e g;
          words = refl;
          says = ap (λ (x : Answer). packet_answers (suc r) 0 (x ∷ [])) holds.answers;
          never = λ y. never_eighteen l n k e (z ∙ y);
          agrees = holds.agrees;
          long = holds.long;
          writes = holds.writes;
          room = holds.room;
          right = holds.right;
        }

    -- accepted, it is before the others, which are lent the output behind its files
    abbrev files : List Closing
    files = (entry_of l n k e).closings

    abbrev left_over : List ℕ
    left_over = drop done.outcome.answer.octets done.output

    octets_are : refusal l n k e ≡ 0 → done.outcome.answer.octets ≡ length (joined files)
    octets_are z = ap (λ (x : Answer). x.octets) holds.answers ∙ accepted_octets l n k e z ∙ sym (length_joined files)

    wide : length done.output ≡ length output
    wide = ap length holds.writes ∙ splice_length output 0 (joined files) (omega (arith, holds.room))

    over_length : refusal l n k e ≡ 0 → k - lengths files ≡ length left_over
    over_length z = omega (arith, q, wide, octets_are z, length_joined files, length-drop done.outcome.answer.octets done.output)

    kept_before : refusal l n k e ≡ 0 → (rest : Taken) (others : Packed) → Kept done.store left_over (by_packet rest) (by_packed others)
        → Kept store output (by_packet (before zero (worded done) rest)) (by_packed (and_then zero (answer_of l n k e) (entry_of l n k e) others))
    kept_before z rest others w =
        let cs = others.entry.closings in
        record {
          manager = w.manager;
          held = w.held;
          words = w.words;
          says = λ j. more (holds.answers j) (w.says j);
          never = w.never;
          agrees = w.agrees;
          long = w.long ∙ holds.long;
          writes =
              ap (λ (l : List ℕ). take done.outcome.answer.octets done.output ++ l) w.writes
              ∙ (λ j. take (octets_are z j) (holds.writes j) ++ splice (drop (octets_are z j) (holds.writes j)) 0 (joined cs))
              ∙ splice_behind output (joined files) (joined cs)
              ∙ ap (splice output 0) (sym (joined_append files cs));
          room = omega (arith, ap length (joined_append files cs), length-append (joined files) (joined cs), w.room, over_length z, length_joined files, q, holds.room);
          right = right_append files cs holds.right w.right;
        }

  -- The records of a packet.
  kept_each : (ds : List Delivered) {store : List ℕ} {m : Manager} {l : Ledger} → Agrees store m l → Held m → (n : ℕ) → n ≡ length store
      → (output : List ℕ) (k : ℕ) → k ≡ length output → AllDelivered ds
      → Kept store output (by_packet (take_all ds (words_of m) store output)) (by_packed (receives_each l n k ds))
  kept_each [] a h n p output k q g = kept_untried output a h refl (λ z. omega arith)
  kept_each (d ∷ ds) {store} {m} {l} a h n p output k q g =
      let e = as_receive d in
      let b = holds a h n p output k q e g.0 in
      let done = happens m store output e in
      let others = receives_each (entry_of l n k e).ledger n (k - lengths (entry_of l n k e).closings) ds in
      let rest = take_all ds (words_of done.outcome.manager) done.store (drop done.outcome.answer.octets done.output) in
      let same : refusal l n k e ≡ done.outcome.answer.refusal = sym (answer_refusal l n k e) ∙ sym (ap (λ (x : Answer). x.refusal) b.answers) in
      subst
      (λ (x : Left). Kept store output (by_packet (before x.answer.refusal x (take_all ds x.words x.store (drop x.answer.octets x.output)))) (by_packed (receives_each l n k (d ∷ ds))))
      (sym (leaves_worded h store output e))
      (subst (λ (r : ℕ). Kept store output (by_packet (before r (worded done) rest)) (by_packed (receives_each l n k (d ∷ ds)))) same
      (go (refusal l n k e) refl rest others
      (λ z. kept_each ds b.agrees (happens_held h store output e g.0) n (p ∙ sym b.long) (drop done.outcome.answer.octets done.output)
      (k - lengths (entry_of l n k e).closings) (over_length a h n p output k q e g.0 z) g.1)))
    where
      go : (r : ℕ) → refusal l n k (as_receive d) ≡ r → (rest : Taken) (others : Packed)
          → (refusal l n k (as_receive d) ≡ 0 → Kept (happens m store output (as_receive d)).store (drop (happens m store output (as_receive d)).outcome.answer.octets (happens m store output (as_receive d)).output) (by_packet rest) (by_packed others))
          → Kept store output (by_packet (before r (worded (happens m store output (as_receive d))) rest)) (by_packed (and_then r (answer_of l n k (as_receive d)) (entry_of l n k (as_receive d)) others))
      go zero z rest others w = kept_before a h n p output k q (as_receive d) g.0 z rest others (w z)
      go (suc r) z rest others w = kept_last a h n p output k q (as_receive d) g.0 r z rest others

  -- A packet.
  module _ {store : List ℕ} {m : Manager} {l : Ledger} (a : Agrees store m l) (h : Held m) (n : ℕ) (p : n ≡ length store) (output : List ℕ) (k : ℕ) (q : k ≡ length output) where
    empty_same : empty_refusal (words_of m) (length store) ≡ first ((16 when ltb n (regions_booked l.lines)) ∷ [])
    empty_same =
        (λ i.
        first
        ((18 when (not (eq-eqb (length (words_of m)) 360 (words_length m h.eight h.sets) i) || not (state_right (manager_words m h i))))
        ∷ (16 when ltb (length store) (regions (manager_words m h i)))
        ∷ []))
        ∙ (λ i. first ((18 when not (a.right i)) ∷ (16 when ltb (sym p i) (regions_same a i)) ∷ []))

    never_empty : (b : Bool) → first ((16 when b) ∷ []) ≡ 18 → ⊥
    never_empty true z = omega (arith, z)
    never_empty false z = omega (arith, z)

    kept_listed : (ds : List Delivered) → AllDelivered ds
        → Kept store output (by_packet (listed_on ds (words_of m) store output)) (by_packed (receives_list l n k ds))
    kept_listed [] g = kept_untried output a h empty_same (never_empty (ltb n (regions_booked l.lines)))
    kept_listed (d ∷ ds) g = kept_each (d ∷ ds) a h n p output k q g

    kept_packet : (xs : List ℕ) → Octets xs → Kept store output (done_by (words_of m) store output (packet_call xs)) (booked l n k (packet_call xs))
    unfolding packet_on
    kept_packet xs o = go (wrong_packet xs)
      where
        go : (b : Bool)
            → Kept store output (by_packet (cond b (untried 11 (words_of m) store output) (listed_on (delivered xs) (words_of m) store output)))
            (by_packed (cond b (nothing 11 l) (receives_list l n k (delivered xs))))
        go true = kept_untried output a h refl (λ z. omega arith)
        go false = kept_listed (delivered xs) (delivered_given xs o)

  kept_call : {store : List ℕ} {m : Manager} {l : Ledger} → Agrees store m l → Held m → (n : ℕ) → n ≡ length store → (c : Lent) → GivenCall c.call
      → Kept store c.output (done_by (words_of m) store c.output c.call) (booked l n (length c.output) c.call)
  kept_call {store} {m} {l} a h n p c g = go c.call g
    where
      go : (x : Call) → GivenCall x → Kept store c.output (done_by (words_of m) store c.output x) (booked l n (length c.output) x)
      go (event_call e) g = kept_event a h n p c.output (length c.output) refl e g
      go (packet_call xs) g = kept_packet a h n p c.output (length c.output) refl xs g

  -- Any list holds; the store's length never changes.
  abbrev RunsFrom : List ℕ → List ℕ → Ledger → ℕ → List Lent → Type 0
  RunsFrom words store l n cs =
      Answered cs (run_of words store cs) (books_of l n cs)
      × Agrees (store_after words store cs) (manager_in (end_of words store cs)) (ledger_after l n cs)
      × AllRightFiles (closings_in (books_of l n cs))

  runs_from : (cs : List Lent) {store : List ℕ} {m : Manager} {l : Ledger} (n : ℕ) → n ≡ length store → Agrees store m l → Held m → AllGiven cs
      → RunsFrom (words_of m) store l n cs
  runs_from [] {store} {m} {l} n p a h g = (tt, subst (λ (q : Manager). Agrees store q l) (sym (manager_words m h)) a, tt)
  runs_from (c ∷ cs) {store} {m} {l} n p a h g =
      let s = kept_call a h n p c g.0 in
      let x = done_by (words_of m) store c.output c.call in
      let b = booked l n (length c.output) c.call in
      let rest = subst (λ (w : List ℕ). RunsFrom w x.store b.entry.ledger n cs) (sym s.words) (runs_from cs n (p ∙ sym s.long) s.agrees s.held g.1) in (
        (
          (
            s.says,
            (λ z. s.never (sym (ap refusal_in s.says) ∙ z)),
            s.room,
            s.writes,
            ap length s.writes ∙ splice_length c.output 0 (joined b.entry.closings) (omega (arith, s.room)),
          ),
          rest.0,
        ),
        rest.1,
        right_append b.entry.closings (closings_in (books_of b.entry.ledger n cs)) s.right rest.2,
      )

  pub runs : (m : Manager) (store : List ℕ) (l : Ledger) (cs : List Lent) → Agrees store m l → Held m → AllGiven cs → Runs (words_of m) store l cs
  runs m store l cs a h g = let w = runs_from cs (length store) refl a h g in record { answered = w.0; agrees = w.1; right = w.2 }
