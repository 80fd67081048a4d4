-- Demand 3 (Demand3.antt) holds: each event holds (Steps and what follows it), so any list of calls does (Claim); the books give the
-- counts (Lists), and a closed file is right, so the reader accepts it. Assumes nothing.
use Rattle.std.specs.Prelude.{◌≡◌, refl, Bool, true, false, ℕ, zero, suc, ◌+◌, ◌<◌, eqb, length, take, drop}
use Rattle.std.proofs.Common.{sym, ◌∙◌, subst, arith}
use Rattle.std.proofs.Math.Path.{ap}
use Rattle.std.proofs.Math.Bool.{cond}
use mathlib.Core.List.{List, [], ◌∷◌, ◌++◌}
use Rattle.octets.specs.Number.{Octets}
use Rattle.record.specs.Record.{Record, AllRight, records_octets}
use Rattle.record.specs.Walk.{Tallied, tallied, tally_of}
use Rattle.cdrfile.specs.File.{File, layout}
use Rattle.counts.specs.Counts.{counts_in}
use Rattle.roundtrip.specs.Described.{RightFile}
use Rattle.reader.specs.declared.Contents.{Contents}
use Rattle.reader.specs.Reader.{contents_of, read_of}
use Rattle.roundtrip.specs.Handed.{handed_back}
use Rattle.roundtrip.proofs.Accepted.{accepts}
use Rattle.roundtrip.proofs.Complete.{complete, handed_again}
use Rattle.state.specs.declared.Route.{Route}
use Rattle.state.specs.Manager.{Manager}
use Rattle.state.specs.Manager.{route_at, base}
use Rattle.settings.specs.Settings.{routes_in, sets_in, manager_from, settled, verdict, fresh_of}
use Rattle.settings.specs.Held.{fresh_held}
use Rattle.words.specs.Words.{manager_in, words_of}
use Rattle.words.specs.Laws.{count_in}
use Rattle.ledger.specs.Event.{open_event, close_event, tick_event, receive_event, Lent, heard}
use Rattle.ledger.specs.Ledger.{Current, none, some, line_at, records_in, records_of, Closing}
use Rattle.ledger.specs.Run.{run_of, books_of, closings_in, end_of, store_after, ledger_after, ledger_from}
use Rattle.ledger.proofs.Agrees.{AgreesLine, AgreesFile}
use Rattle.ledger.proofs.Books.{flat, held, known, noted, Counted, same_length}
use Rattle.ledger.proofs.Lists.{ran, heard_by, said_same, fresh_length, fresh_received, fresh_lost, fresh_closed, fresh_records, fresh_known, fresh_noted, fresh_counted, fresh_sum, fresh_unrouted}
use Rattle.ledger.proofs.Steps.{AllRightFiles, open_holds}
use Rattle.ledger.proofs.StepClose.{close_holds}
use Rattle.ledger.proofs.StepTick.{tick_holds}
use Rattle.ledger.proofs.StepReceive.{receive_holds}
use Rattle.ledger.proofs.Claim.{EventHolds, runs}
use Rattle.ledger.proofs.Fresh.{fresh_agrees}
use Rattle.ledger.specs.Demand3.{AllGiven, LostExactly, received, lost, unrouted, placed, counted, walked, AllAccepted, AllCounted, losses_in, unrouted_in, on_route, closed_on, AllBelow, open_count, happened, Demand3, Claim}

-- A right file as the reader reads it.
module _ (f : File) (r : RightFile f) where
  read_right : read_of (layout f) ≡ contents_of (layout f)
  read_right = accepts (layout f) f.records (complete f r)

  back_right : handed_back (layout f) (read_of (layout f)) ≡ f
  back_right = ap (handed_back (layout f)) read_right ∙ handed_again f r

  count_right : (read_of (layout f)).count ≡ length f.records
  unfolding tally_of
  count_right =
      ap (λ (c : Contents). c.count) read_right
      ∙ ap (λ (t : Tallied). t.count) (ap tallied (complete f r).walk)

abbrev FilesRight : List File → Type 0
FilesRight [] = Unit {0}
FilesRight (f ∷ fs) = RightFile f × FilesRight fs

all_counted : (fs : List File) → FilesRight fs → counted fs ≡ held fs
all_counted [] a = refl
all_counted (f ∷ fs) a = λ i. count_right f a.0 i + all_counted fs a.1 i

all_walked : (fs : List File) → FilesRight fs → walked fs ≡ flat fs
all_walked [] a = refl
all_walked (f ∷ fs) a = λ i. (back_right f a.0 i).records ++ all_walked fs a.1 i

all_accepted : (fs : List File) → FilesRight fs → AllAccepted fs
all_accepted [] a = tt
all_accepted (f ∷ fs) a = ((ap (λ (c : Contents). c.refusal) (read_right f a.0), back_right f a.0), all_accepted fs a.1)

-- what the reader finds in their private octets is what these say
all_losses : (fs : List File) → FilesRight fs → losses_in fs ≡ known fs
all_losses [] a = refl
all_losses (f ∷ fs) a = λ i. (counts_in (back_right f a.0 i).private).losses + all_losses fs a.1 i

all_unrouted : (fs : List File) → FilesRight fs → unrouted_in fs ≡ noted fs
all_unrouted [] a = refl
all_unrouted (f ∷ fs) a = λ i. (counts_in (back_right f a.0 i).private).unrouted + all_unrouted fs a.1 i

all_counts : (fs : List File) → FilesRight fs → Counted fs → AllCounted fs
all_counts [] a c = tt
all_counts (f ∷ fs) a c = (ap (λ (g : File). (counts_in g.private).there) (back_right f a.0) ∙ c.0, all_counts fs a.1 c.1)

-- the files of a route are among those that closed
on_right : (i : ℕ) (cs : List Closing) → AllRightFiles cs → FilesRight (on_route i cs)
on_right i [] a = tt
on_right i (c ∷ cs) a = go (eqb c.route i) (on_right i cs a.1)
  where
    go : (b : Bool) → FilesRight (on_route i cs) → FilesRight (cond b (c.file ∷ on_route i cs) (on_route i cs))
    go true rest = (a.0, rest)
    go false rest = rest

-- What a line says of the state and the store.
module _ (store : List ℕ) (b : ℕ) (r : Route) where
  count_same : (c : Current) → AgreesFile store b r c → open_count r ≡ length (records_in c)
  count_same none h = λ i. cond (h i) r.file.count 0
  count_same (some f) h = (λ i. cond (h.live i) r.file.count 0) ∙ h.count

  right_same : (c : Current) → AgreesFile store b r c → AllRight (records_in c)
  right_same none h = tt
  right_same (some f) h = h.right

  stands_same : (c : Current) → AgreesFile store b r c → cond r.«open» (take r.file.octets (drop b store)) [] ≡ records_octets (records_in c)
  unfolding records_octets
  stands_same none h = λ i. cond (h i) (take r.file.octets (drop b store)) []
  stands_same (some f) h = (λ i. cond (h.live i) (take r.file.octets (drop b store)) []) ∙ h.stands

from_fresh : EventHolds → (xs store : List ℕ) (cs : List Lent) → Octets xs → (fresh_of xs).refusal ≡ 0 → AllGiven cs
    → Demand3 (words_of (manager_from xs (routes_in xs))) (ledger_from xs) store cs
from_fresh step xs store cs o e g =
    let m = manager_from xs (routes_in xs) in
    let l = ledger_from xs in
    let n = length store in
    let words = words_of m in
    let w = runs step m store l cs (fresh_agrees xs o e store) (fresh_held xs o (routes_in xs) (sets_in xs)) g in
    let bs = books_of l n cs in
    let end = manager_in (end_of words store cs) in
    let z = ledger_after l n cs in
    let books = ran l n cs in
    -- what is said over the list is what the ledger says
    let same : happened words store cs ≡ heard_by l n cs = ap (heard cs) (said_same cs (run_of words store cs) bs w.answered) in
    let low : (i : ℕ) → i < routes_in xs → i < end.count =
    λ i h. omega (arith, w.agrees.count, same_length books.same, fresh_length xs) in
    let line : (i : ℕ) → i < routes_in xs → AgreesLine (store_after words store cs) (base end i) (route_at end i) (line_at z i) = λ i h. w.agrees.lines i (low i h) in
    let count : (i : ℕ) → i < routes_in xs → open_count (route_at end i) ≡ length (records_of (line_at z i)) =
    λ i h. count_same (store_after words store cs) (base end i) (route_at end i) (line_at z i).current (line i h).file in
    let right : (i : ℕ) → FilesRight (closed_on i bs) = λ i. on_right i (closings_in bs) w.right in
    let c : (manager_in words).count ≡ routes_in xs = count_in m in
    let at : (i : ℕ) → i < (manager_in words).count → i < routes_in xs = λ i h. omega (arith, c) in
    record {
      answered = w.answered;
      configured = subst (λ (k : ℕ). AllBelow k (closings_in bs)) (fresh_length xs ∙ sym c) books.below;
      filed = λ i h. fresh_closed xs n cs i (at i h);
      lost_exactly = subst (LostExactly l) (sym same) books.exactly;
      balance =
          λ i h.
          ap (received l i) same
          ∙ fresh_sum xs n cs i (at i h)
          ∙ (λ j. sym (all_counted (closed_on i bs) (right i)) j + sym (count i (at i h)) j + lost l i (sym same j));
      kept =
          λ i h. (
            records_of (line_at z i),
            right_same (store_after words store cs) (base end i) (route_at end i) (line_at z i).current (line i (at i h)).file,
            stands_same (store_after words store cs) (base end i) (route_at end i) (line_at z i).current (line i (at i h)).file,
            ap (placed l i) same
                ∙ sym (fresh_records xs n cs i (at i h))
                ∙ ap (λ (rs : List Record). rs ++ records_of (line_at z i)) (sym (all_walked (closed_on i bs) (right i))),
          );
      accepted = λ i h. all_accepted (closed_on i bs) (right i);
      counts = λ i h. all_counts (closed_on i bs) (right i) (fresh_counted xs n cs i (at i h));
      known_losses =
          λ i h.
          (λ j. all_losses (closed_on i bs) (right i) j + (line i (at i h)).losses j)
          ∙ fresh_known xs n cs i (at i h)
          ∙ ap (lost l i) (sym same);
      unrouted_records =
          λ i h.
          (λ j. all_unrouted (closed_on i bs) (right i) j + (line i (at i h)).unrouted j)
          ∙ fresh_noted xs n cs i (at i h)
          ∙ ap (unrouted l) (sym same);
      counters = λ i h. (count i (at i h), (line i (at i h)).losses, (line i (at i h)).unrouted);
      booked = λ i h. (
        fresh_received xs n cs i (at i h) ∙ ap (received l i) (sym same),
        fresh_lost xs n cs i (at i h) ∙ ap (lost l i) (sym same),
      );
      unrouted_counter = w.agrees.unrouted;
      unrouted_listed = w.agrees.unrouted ∙ fresh_unrouted xs n cs ∙ ap (unrouted l) (sym same);
    }

-- accepted settings give this manager
settled_fresh : (n : ℕ) (xs : List ℕ) → (settled n xs).refusal ≡ 0 → (settled n xs).manager ≡ manager_from xs (routes_in xs)
settled_fresh zero xs e = refl
settled_fresh (suc n) xs e = absurd (omega (arith, e))

fresh_manager : (xs : List ℕ) → (fresh_of xs).refusal ≡ 0 → (fresh_of xs).manager ≡ manager_from xs (routes_in xs)
unfolding fresh_of
fresh_manager xs e = settled_fresh (verdict xs) xs e

-- each of the four events
event : EventHolds
event store m l a (open_event time i) output g = open_holds a output time i
event store m l a (close_event time i reason) output g = close_holds a output time i reason
event store m l a (tick_event time) output g = tick_holds a output time
event store m l a (receive_event time v key body) output g = receive_holds a output time v key body g

pub demand_3 : Claim
demand_3 xs store cs o e g =
    subst (λ (m : Manager). Demand3 (words_of m) (ledger_from xs) store cs) (sym (fresh_manager xs e)) (from_fresh event xs store cs o e g)
