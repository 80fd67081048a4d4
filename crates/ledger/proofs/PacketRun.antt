-- A packet is its records' RECEIVEs, one after another (document 02, ask 8).
--
-- In plain words. Take any packet that is not refused whole with 11, and words, a store and an output of any content and length. Make each record of the
-- packet a RECEIVE, and carry these out one after another, as any list of calls is carried out (Run, `run_of`: the run of demand 3): the first
-- on the words, the store and the output that the packet is lent; each other on the words and the store that the one before it left, and lent
-- the output after the octets that those before it wrote. Stop after the first that is refused. Then the packet and these RECEIVEs leave the
-- same words and the same store. They have the same answers, each to the same record. The packet's output is that of the RECEIVEs put
-- together: the octets that the first wrote, then those of the second, and at the end all that the last one left. And the packet's count of
-- accepted records is the number of answers without a refusal (`packet_run`). The packet's refusal is that of the last answer: 0 if all were
-- accepted (`packet_stops`). `list_run` is `packet_run` of any list of at most 64 records that have room in a packet, sent as one.
--
-- A packet without records has no RECEIVE and leaves all as it was. It may be refused with 18 or 16, by the state and the store, and there is no answer that
-- says so: `packet_stops` is about packets with records.
use Rattle.std.specs.Prelude.{◌≡◌, refl, Bool, true, false, cond, not, List, [], ◌∷◌, ◌++◌, map, ℕ, zero, suc, ◌+◌, ◌≤◌, length, take, drop}
use Rattle.std.proofs.Common.{sym, ap, ◌∙◌, subst, true≢false, take-append-drop}
use Rattle.events.specs.declared.Answer.{Answer}
use Rattle.events.specs.Lent.{Left}
use Rattle.packets.specs.Packet.{Delivered, wrong_packet, delivered, packet_octets}
use Rattle.packets.specs.Laws.{AllRoomy, read_back}
use Rattle.packets.specs.Fold.{Taken, untried, before, received, take_all, listed_on, packet_on}
use Rattle.ledger.specs.Event.{event_call, Lent, Said, event_answer, packet_answers, refusal_in, as_receive, tried_of, heard}
use Rattle.ledger.specs.Run.{leaves, Done, run_of, said_in, end_of, store_after}

-- The records as calls, up to and with the first that is refused: each is lent the output after the octets that those before it wrote.
abbrev pub unless_refused : ℕ → List Lent → List Lent
unless_refused zero others = others
unless_refused (suc n) others = []

abbrev pub calls_of : List Delivered → List ℕ → List ℕ → List ℕ → List Lent
calls_of [] words store output = []
calls_of (d ∷ ds) words store output =
    record { call = event_call (as_receive d); output = output }
    ∷ unless_refused (leaves words store output (as_receive d)).answer.refusal
    (calls_of ds (leaves words store output (as_receive d)).words (leaves words store output (as_receive d)).store
    (drop (leaves words store output (as_receive d)).answer.octets (leaves words store output (as_receive d)).output))

-- How many octets of its output a call wrote, by what is said to it: those in the answer of an accepted event, and of a packet those of its accepted
-- records. A refused event wrote none; with 17 the octets in its answer are those that it needs.
abbrev pub wrote : ℕ → ℕ → ℕ
wrote zero octets = octets
wrote (suc n) octets = 0

abbrev pub wrote_all : List Answer → ℕ
wrote_all [] = 0
wrote_all (a ∷ answers) = wrote a.refusal a.octets + wrote_all answers

abbrev pub wrote_in : Said → ℕ
wrote_in (event_answer a) = wrote a.refusal a.octets
wrote_in (packet_answers refusal accepted answers) = wrote_all answers

-- The outputs that such calls leave, put together: the octets that the first wrote, and then what the others make of its output after them.
abbrev pub put_together : List ℕ → List Done → List ℕ
put_together output [] = output
put_together output (x ∷ done) = take (wrote_in x.said) x.output ++ put_together (drop (wrote_in x.said) x.output) done

-- how many calls were accepted
abbrev pub count_accepted : ℕ → ℕ → ℕ
count_accepted zero n = suc n
count_accepted (suc k) n = n

abbrev pub accepted_in : List Said → ℕ
accepted_in [] = 0
accepted_in (s ∷ said) = count_accepted (refusal_in s) (accepted_in said)

-- the refusal in what is said last, n where nothing is said
abbrev pub last_refusal : ℕ → List Said → ℕ
last_refusal n [] = n
last_refusal n (s ∷ said) = last_refusal (refusal_in s) said

-- What the records ds leave and answer, t, is what a run of calls leaves and answers.
pub record SameRun (ds : List Delivered) (words store output : List ℕ) (t : Taken) (calls : List Lent) : Type 0 where
  pub same_words : t.words ≡ end_of words store calls
  pub same_store : t.store ≡ store_after words store calls
  pub same_output : t.output ≡ put_together output (run_of words store calls)
  pub same_answers : map event_answer t.answers ≡ said_in (run_of words store calls)
  -- the events that were tried, each with its answer, as demand 3 counts them
  pub same_tried : tried_of ds t.answers ≡ heard calls (said_in (run_of words store calls))
  pub same_accepted : t.accepted ≡ accepted_in (said_in (run_of words store calls))

-- One record before others.
module _ (d : Delivered) (ds : List Delivered) (words store output : List ℕ) where
  abbrev x : Left
  x = received d words store output

  abbrev rest : List ℕ
  rest = drop x.answer.octets x.output

  abbrev as_call : Lent
  as_call = record { call = event_call (as_receive d); output = output }

  run_by : {t : Taken} {calls : List Lent} → SameRun ds x.words x.store rest t calls → (n : ℕ) → x.answer.refusal ≡ n
      → SameRun (d ∷ ds) words store output (before n x t) (as_call ∷ unless_refused n calls)
  run_by {t} {calls} s zero e =
      let done = run_of x.words x.store calls in
      let k = x.answer.octets in
      record {
        same_words = s.same_words;
        same_store = s.same_store;
        same_output =
            ap (λ (l : List ℕ). take k x.output ++ l) s.same_output
            ∙ sym (ap (λ (r : ℕ). take (wrote r k) x.output ++ put_together (drop (wrote r k) x.output) done) e);
        same_answers = ap (λ (l : List Said). event_answer x.answer ∷ l) s.same_answers;
        same_tried = ap (λ l. record { event = as_receive d; answer = x.answer } ∷ l) s.same_tried;
        same_accepted = ap suc s.same_accepted ∙ sym (ap (λ (r : ℕ). count_accepted r (accepted_in (said_in done))) e);
      }
  run_by {t} {calls} s (suc n) e =
      record {
        same_words = refl;
        same_store = refl;
        same_output = sym (take-append-drop (wrote x.answer.refusal x.answer.octets) x.output);
        same_answers = refl;
        same_tried = refl;
        same_accepted = sym (ap (λ (r : ℕ). count_accepted r 0) e);
      }

  stops_by : (t : Taken) (calls : List Lent) → t.refusal ≡ last_refusal 0 (said_in (run_of x.words x.store calls)) → (n : ℕ) → x.answer.refusal ≡ n
      → (before n x t).refusal ≡ last_refusal 0 (said_in (run_of words store (as_call ∷ unless_refused n calls)))
  stops_by t calls s zero e = s ∙ sym (ap (λ (r : ℕ). last_refusal r (said_in (run_of x.words x.store calls))) e)
  stops_by t calls s (suc n) e = sym e

run : (ds : List Delivered) (words store output : List ℕ) → SameRun ds words store output (take_all ds words store output) (calls_of ds words store output)
run [] words store output = record { same_words = refl; same_store = refl; same_output = refl; same_answers = refl; same_tried = refl; same_accepted = refl }
run (d ∷ ds) words store output =
    let y = received d words store output in
    run_by d ds words store output (run ds y.words y.store (drop y.answer.octets y.output)) y.answer.refusal refl

-- A packet that is not refused whole.
pub packet_run : (words store output xs : List ℕ) → wrong_packet xs ≡ false
    → SameRun (delivered xs) words store output (packet_on words store output xs) (calls_of (delivered xs) words store output)
unfolding packet_on
packet_run words store output xs e = go (wrong_packet xs) (delivered xs) e
  where
    go : (b : Bool) (ds : List Delivered) → b ≡ false
        → SameRun ds words store output (cond b (untried 11 words store output) (listed_on ds words store output)) (calls_of ds words store output)
    go true ds e = absurd (true≢false e)
    go false [] e = record { same_words = refl; same_store = refl; same_output = refl; same_answers = refl; same_tried = refl; same_accepted = refl }
    go false (d ∷ ds) e = run (d ∷ ds) words store output

-- Its refusal, where it has records.
stops : (ds : List Delivered) (words store output : List ℕ) → (take_all ds words store output).refusal ≡ last_refusal 0 (said_in (run_of words store (calls_of ds words store output)))
stops [] words store output = refl
stops (d ∷ ds) words store output =
    let y = received d words store output in
    let others = drop y.answer.octets y.output in
    stops_by d ds words store output (take_all ds y.words y.store others) (calls_of ds y.words y.store others) (stops ds y.words y.store others) y.answer.refusal refl

pub packet_stops : (words store output xs : List ℕ) → wrong_packet xs ≡ false → (delivered xs ≡ [] → ⊥)
    → (packet_on words store output xs).refusal ≡ last_refusal 0 (said_in (run_of words store (calls_of (delivered xs) words store output)))
unfolding packet_on
packet_stops words store output xs e some = go (wrong_packet xs) (delivered xs) e some
  where
    go : (b : Bool) (ds : List Delivered) → b ≡ false → (ds ≡ [] → ⊥)
        → (cond b (untried 11 words store output) (listed_on ds words store output)).refusal ≡ last_refusal 0 (said_in (run_of words store (calls_of ds words store output)))
    go true ds e some = absurd (true≢false e)
    go false [] e some = absurd (some refl)
    go false (d ∷ ds) e some = stops (d ∷ ds) words store output

-- Any list of at most 64 records with room in a packet.
pub list_run : (ds : List Delivered) → AllRoomy ds → length ds ≤ 64 → (words store output : List ℕ)
    → SameRun ds words store output (packet_on words store output (packet_octets ds)) (calls_of ds words store output)
unfolding wrong_packet delivered
list_run ds r few words store output =
    let b = read_back ds r 64 few in
    subst (λ (l : List Delivered). SameRun l words store output (packet_on words store output (packet_octets ds)) (calls_of l words store output)) b.1
    (packet_run words store output (packet_octets ds) (ap not b.0))
