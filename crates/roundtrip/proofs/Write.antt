-- What the writer accepts is a right file, and a right file that fits is written (document 01, Reader, second paragraph).
-- Assumes nothing.
use Rattle.std.specs.Prelude.{◌≡◌, true, not, ◌&&◌, List, ℕ, zero, suc, ◌≤◌, length}
use Rattle.std.proofs.Math.Path.{refl, ap}
use Rattle.std.proofs.Common.{sym, ◌∙◌, arith, le-ltb}
use Rattle.octets.specs.Number.{Octets}
use Rattle.octets.specs.Splice.{splice}
use Rattle.refusals.specs.Refusal.{both_false}
use Rattle.timestamp.specs.Timestamp.{narrow, narrow_bounds, bounds_narrow, right_bounds, bounds_right, right_narrow}
use Rattle.record.specs.Release.{narrow_release}
use Rattle.record.specs.Record.{Record, records_octets}
use Rattle.record.specs.Order.{narrowed, narrow_true}
use Rattle.record.specs.Walk.{Tallied, Walked, records, broken, walk_of, tallied, tally_of}
use Rattle.record.specs.Format.{walked, walks}
use Rattle.cdrfile.specs.declared.Header.{Header}
use Rattle.cdrfile.specs.Statement.{agrees}
use Rattle.cdrfile.specs.File.{File, file_octets, layout}
use Rattle.cdrfile.specs.Order.{wrong_order}
use Rattle.roundtrip.specs.Described.{RightFile}
use Rattle.cdrfile.specs.Laws.{file_length}
use Rattle.roundtrip.proofs.Ordered.{ordered, not_wrong}
use Rattle.writer.specs.Writer.{After, needed_octets, verdict, settled, written, write_of}
use Rattle.writer.specs.Cases.{Passed, write_done, stated, widths, times, short, accepted}
use Rattle.roundtrip.specs.Held.{Held}

-- a right file's are so held
pub right_held : (f : File) → RightFile f → Held f.header
right_held f r =
    record {
      high = r.high.extension;
      low = r.low.extension;
      sequence = r.sequence;
      reason = r.reason;
      address = r.address;
      lost = r.lost;
    }

-- what the writer is given as a file, where its octets are the records rs
abbrev pub given : Header → List ℕ → List ℕ → List Record → File
given h filter private rs = record { header = h; filter = filter; private = private; records = rs }

-- the answer's number is the verdict
settled_number : (n needed : ℕ) (output : List ℕ) (done : After) → done.answer.refusal ≡ 0 → (settled n needed output done).answer.refusal ≡ n
settled_number zero needed output done e = e
settled_number (suc n) needed output done e = refl

module _ (h : Header) (filter private body output : List ℕ) where
  pub write_number : (write_of h filter private body output).answer.refusal ≡ verdict h filter private body output
  unfolding write_of
  write_number = settled_number (verdict h filter private body output) (needed_octets h filter private body) output (written h filter private body output) refl

  -- an accepted call: none of the refusals applies
  pub record Taken (rs : List Record) : Type 0 where
    pub passed : Passed h filter private body
    pub walk : walk_of body ≡ records rs
    pub size : needed_octets h filter private body ≤ 1048576
    pub room : needed_octets h filter private body ≤ length output

  tally_is : (w : Walked) → walk_of body ≡ w → tally_of body ≡ tallied w
  unfolding tally_of
  tally_is w e = ap tallied e

  by_walk : (w : Walked) → walk_of body ≡ w → (tally_of body).refusal ≡ 0 → (rs : List Record) × (walk_of body ≡ records rs)
  by_walk (records rs) e z = (rs, e)
  by_walk broken e z = let n : ◌≡◌ {A = ℕ} 11 0 = sym (ap (λ (t : Tallied). t.refusal) (tally_is broken e)) ∙ z in absurd (omega arith)

  pub taken : verdict h filter private body output ≡ 0 → (rs : List Record) × Taken rs
  taken e =
      let a = accepted h filter private body output e in
      let w = by_walk (walk_of body) refl a.passed.whole in
      (w.0, record { passed = a.passed; walk = w.1; size = a.size; room = a.room })

  -- then what was given is a right file, and it stands over the start of the output
  module _ (held : Held h) (of : Octets filter) (op : Octets private) (ob : Octets body) (rs : List Record) (t : Taken rs) where
    pub body_is : records_octets rs ≡ body
    body_is = (walked body rs ob t.walk).1

    pub layout_given : layout (given h filter private rs) ≡ file_octets h filter private body (tally_of body).count
    layout_given = λ i. file_octets h filter private (body_is i) (sym (ap (λ (s : Tallied). s.count) (tally_is (records rs) t.walk)) i)

    pub given_right : RightFile (given h filter private rs)
    given_right =
        let w = widths h private t.passed.fields in
        let v = times h filter private t.passed.right in
        let s = short h filter private t.passed.right in
        record {
          high = narrowed h.high held.high w.0;
          low = narrowed h.low held.low w.1;
          opened = right_bounds h.opened v.0 (narrow_bounds h.opened w.2).sign;
          appended = right_bounds h.appended v.1 (narrow_bounds h.appended w.3).sign;
          sequence = held.sequence;
          reason = held.reason;
          address = held.address;
          lost = held.lost;
          statement = stated h private t.passed.fields;
          filter = (s.0, of);
          private = (s.1, op);
          records = (walked body rs ob t.walk).0;
          ordered = ordered h.high h.low rs (ap (wrong_order h.high h.low) (sym (tally_is (records rs) t.walk)) ∙ t.passed.ordered);
          size = omega (arith, ap length layout_given, file_length h filter private body (tally_of body).count, t.size);
        }

    pub write_given : write_of h filter private body output ≡ record { answer = record { refusal = 0; octets = length (layout (given h filter private rs)) }; output = splice output 0 (layout (given h filter private rs)) }
    write_given =
        let n : needed_octets h filter private body ≡ length (layout (given h filter private rs)) =
        sym (ap length layout_given ∙ file_length h filter private body (tally_of body).count) in
        sym (write_done h filter private body output t.passed t.size t.room)
        ∙ (λ i. record { answer = record { refusal = 0; octets = n i }; output = splice output 0 (sym layout_given i) })

-- A right file that fits the output is written.
module _ (f : File) (r : RightFile f) (output : List ℕ) (room : length (layout f) ≤ length output) where
  abbrev h : Header
  h = f.header

  abbrev body : List ℕ
  body = records_octets f.records

  walk_right : walk_of body ≡ records f.records
  walk_right = walks body f.records r.records refl

  tally_right : tally_of body ≡ tallied (records f.records)
  tally_right = tally_is h f.filter f.private body output (records f.records) walk_right

  pub taken_right : Taken h f.filter f.private body output f.records
  taken_right =
      let n = file_length h f.filter f.private body (length f.records) in
      let fit : (narrow_release h.high && narrow_release h.low && narrow h.opened && narrow h.appended && agrees h.statement f.private) ≡ true =
      λ i. narrow_true h.high r.high i && narrow_true h.low r.low i && bounds_narrow h.opened (right_narrow h.opened r.opened) i && bounds_narrow h.appended (right_narrow h.appended r.appended) i && r.statement i in
      record {
        passed =
            record {
              fields = ap not fit;
              right = both_false (both_false (both_false (ap not (bounds_right h.opened r.opened)) (ap not (bounds_right h.appended r.appended))) (le-ltb 65534 (length f.filter) r.filter.0)) (le-ltb 65534 (length f.private) r.private.0);
              whole = ap (λ (t : Tallied). t.refusal) tally_right;
              ordered = ap (wrong_order h.high h.low) tally_right ∙ not_wrong h.high h.low f.records r.ordered;
            };
        walk = walk_right;
        size = omega (arith, n, r.size);
        room = omega (arith, n);
      }
