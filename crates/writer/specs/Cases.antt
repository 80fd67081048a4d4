-- The cases of `write_of` (Writer), one for each way out of the call, and what the tests before the layout say of the header's
-- fields and of the file's size. Document 01, Reader, second paragraph, and Refusals. Assumes nothing.
use Rattle.std.specs.Prelude.{◌≡◌, Bool, true, false, cond, not, ◌&&◌, ◌||◌, List, [], ◌∷◌, ◌++◌, ℕ, ◌+◌, ◌≤◌, ◌<◌, eqb, ltb, length, Result, Ok, Err}
use Rattle.std.proofs.Math.Path.{sym}
use Rattle.std.proofs.Common.{arith}
use borrow.Author.Tests.{lt-ltb, le-ltb, ltb-false, eq-eqb, ne_eqb, eqb-true, not-false}
use Rattle.octets.specs.Number.{be}
use Rattle.octets.specs.Splice.{splice}
use Rattle.refusals.specs.declared.Refusal.{Refusal}
use Rattle.refusals.specs.Number.{number, needed}
use Rattle.refusals.specs.Refusal.{Rule, ◌when◌, passed, or_false}
use Rattle.refusals.specs.Tests.{both}
use Rattle.timestamp.specs.Timestamp.{narrow, right, narrow_bounds}
use Rattle.record.specs.declared.Release.{Release}
use Rattle.record.specs.Release.{narrow_release, extension_octets}
use Rattle.record.specs.Order.{in_width}
use Rattle.record.specs.Walk.{tally_of}
use Rattle.cdrfile.specs.declared.Header.{Header}
use Rattle.cdrfile.specs.Statement.{agrees}
use Rattle.cdrfile.specs.File.{private_octets, header_length, file_octets}
use Rattle.cdrfile.specs.Order.{wrong_order}
use Rattle.cdrfile.specs.Laws.{file_length}
use Rattle.cdrfile.specs.Needs.{Writable, Layable}
use Rattle.writer.specs.declared.Written.{Written}
use Rattle.writer.specs.Writer.{after, written, wrong_fields, wrong_value, needed_octets, verdict, write_of}
use Rattle.writer.specs.Count.{four_each}

-- the call's answer from its two numbers
abbrev pub answered : ℕ → ℕ → Written
answered refusal octets = record { refusal = refusal; octets = octets }

-- the same from what its code finds: how long the file is, or why it is refused
abbrev pub answer_of : Result ℕ Refusal → Written
answer_of (Ok length) = answered 0 length
answer_of (Err r) = answered (number r) (needed r)

-- none of 2, 10, 11 and 13 applies
pub record Passed (h : Header) (filter private records : List ℕ) : Type 0 where
  pub fields : wrong_fields h private ≡ false
  pub right : wrong_value h filter private ≡ false
  pub whole : (tally_of records).refusal ≡ 0
  pub ordered : wrong_order h.high h.low (tally_of records) ≡ false

module _ (h : Header) (filter private records output : List ℕ) where
  pub write_unfit : wrong_fields h private ≡ true → after (answered 2 0) output ≡ write_of h filter private records output
  unfolding write_of verdict
  write_unfit a = sym (rw a)

  module _ (a : wrong_fields h private ≡ false) where
    pub write_wrong : wrong_value h filter private ≡ true → after (answered 10 0) output ≡ write_of h filter private records output
    unfolding write_of verdict
    write_wrong b = sym (rw (a, b))

    module _ (b : wrong_value h filter private ≡ false) where
      pub write_cut : ((tally_of records).refusal ≡ 0 → ⊥) → after (answered 11 0) output ≡ write_of h filter private records output
      unfolding write_of verdict
      write_cut c = sym (rw (a, b, ne_eqb _ _ c))

      pub write_disordered : (tally_of records).refusal ≡ 0 → wrong_order h.high h.low (tally_of records) ≡ true
          → after (answered 13 0) output ≡ write_of h filter private records output
      unfolding write_of verdict
      write_disordered c d = sym (rw (a, b, eq-eqb _ _ c, d))

  module _ (p : Passed h filter private records) where
    pub write_long : 1048576 < needed_octets h filter private records → after (answered 8 0) output ≡ write_of h filter private records output
    unfolding write_of verdict
    write_long e = sym (rw (p.fields, p.right, eq-eqb _ _ p.whole, p.ordered, lt-ltb _ _ e))

    module _ (e : needed_octets h filter private records ≤ 1048576) where
      pub write_needing : length output < needed_octets h filter private records
          → after (answered 17 (needed_octets h filter private records)) output ≡ write_of h filter private records output
      unfolding write_of verdict
      write_needing f = sym (rw (p.fields, p.right, eq-eqb _ _ p.whole, p.ordered, le-ltb _ _ e, lt-ltb _ _ f))

      pub write_done : needed_octets h filter private records ≤ length output → written h filter private records output ≡ write_of h filter private records output
      unfolding write_of verdict
      write_done f = sym (rw (p.fields, p.right, eq-eqb _ _ p.whole, p.ordered, le-ltb _ _ e, le-ltb _ _ f))

  -- what the code puts together, from the length and the number of records that it worked out, is the answer and the file
  pub written_made : {answer : Written} {out : List ℕ} {octets count : ℕ} → answer ≡ answered 0 octets → octets ≡ needed_octets h filter private records
      → out ≡ splice output 0 (file_octets h filter private records count) → count ≡ (tally_of records).count → after answer out ≡ written h filter private records output
  written_made a b c d = cc

-- What the tests that were passed say.

-- each field of the header fits its bits, and the private octets are as it states
module _ (h : Header) (private : List ℕ) (e : wrong_fields h private ≡ false) where
  tests : (narrow_release h.high && narrow_release h.low && narrow h.opened && narrow h.appended ≡ true) × (agrees h.statement private ≡ true)
  tests =
      let all = not-false (narrow_release h.high && narrow_release h.low && narrow h.opened && narrow h.appended && agrees h.statement private) e in
      both (narrow_release h.high && narrow_release h.low && narrow h.opened && narrow h.appended) (agrees h.statement private) all

  pub stated : agrees h.statement private ≡ true
  stated = tests.1

  pub widths : (narrow_release h.high ≡ true) × (narrow_release h.low ≡ true) × (narrow h.opened ≡ true) × (narrow h.appended ≡ true)
  widths =
      let t = both (narrow_release h.high && narrow_release h.low && narrow h.opened) (narrow h.appended) tests.0 in
      let u = both (narrow_release h.high && narrow_release h.low) (narrow h.opened) t.0 in
      let v = both (narrow_release h.high) (narrow_release h.low) u.0 in
      (v.0, v.1, u.1, t.1)

  pub writable : Writable h
  writable =
      let w = widths in
      let high = in_width h.high w.0 in
      let low = in_width h.low w.1 in
      record {
        high = high.release;
        high_version = high.version;
        low = low.release;
        low_version = low.version;
        opened = narrow_bounds h.opened w.2;
        appended = narrow_bounds h.appended w.3;
      }

-- the timestamps are right, and filter and private octets fit their length fields
module _ (h : Header) (filter private : List ℕ) (e : wrong_value h filter private ≡ false) where
  values : ((not (right h.opened) || not (right h.appended)) ≡ false) × (ltb 65534 (length filter) ≡ false) × (ltb 65534 (length private) ≡ false)
  values =
      let t = or_false (not (right h.opened) || not (right h.appended) || ltb 65534 (length filter)) (ltb 65534 (length private)) e in
      let u = or_false (not (right h.opened) || not (right h.appended)) (ltb 65534 (length filter)) t.0 in
      (u.0, u.1, t.1)

  pub times : (right h.opened ≡ true) × (right h.appended ≡ true)
  times =
      let t = or_false (not (right h.opened)) (not (right h.appended)) values.0 in
      (not-false (right h.opened) t.0, not-false (right h.appended) t.1)

  pub short : (length filter ≤ 65534) × (length private ≤ 65534)
  short = (ltb-false 65534 (length filter) values.1, ltb-false 65534 (length private) values.2)

-- a verdict of 0: none of the six applies
pub record Accepted (h : Header) (filter private records output : List ℕ) : Type 0 where
  pub passed : Passed h filter private records
  pub size : needed_octets h filter private records ≤ 1048576
  pub room : needed_octets h filter private records ≤ length output

pub accepted : (h : Header) (filter private records output : List ℕ) → verdict h filter private records output ≡ 0 → Accepted h filter private records output
unfolding verdict
accepted h filter private records output e =
    let n = needed_octets h filter private records in
    let r17 : List Rule = (17 when ltb (length output) n) ∷ [] in
    let r8 : List Rule = (8 when ltb 1048576 n) ∷ r17 in
    let r13 : List Rule = (13 when wrong_order h.high h.low (tally_of records)) ∷ r8 in
    let r11 : List Rule = (11 when not (eqb (tally_of records).refusal 0)) ∷ r13 in
    let p2 = passed 1 (wrong_fields h private) ((10 when wrong_value h filter private) ∷ r11) e in
    let p10 = passed 9 (wrong_value h filter private) r11 p2.1 in
    let p11 = passed 10 (not (eqb (tally_of records).refusal 0)) r13 p10.1 in
    let p13 = passed 12 (wrong_order h.high h.low (tally_of records)) r8 p11.1 in
    let p8 = passed 7 (ltb 1048576 n) r17 p13.1 in
    let p17 = passed 16 (ltb (length output) n) [] p8.1 in
    record {
      passed =
          record {
            fields = p2.0;
            right = p10.0;
            whole = eqb-true (tally_of records).refusal 0 (not-false (eqb (tally_of records).refusal 0) p11.0);
            ordered = p13.0;
          };
      size = ltb-false 1048576 n p8.0;
      room = ltb-false (length output) n p17.0;
    }

-- so the header is short, and the sum of its length and that of any slice fits a machine word
private_most : (statement : ℕ) (p : List ℕ) → length (private_octets statement p) ≤ 2 + length p
private_most statement p = most (eqb statement 0)
  where
    most : (b : Bool) → length (cond b [] (be 2 (length p) ++ p)) ≤ 2 + length p
    most true = omega arith
    most false = omega arith

extension_most : (r : Release) → length (extension_octets r) ≤ 1
extension_most r = most (eqb r.release 7)
  where
    most : (b : Bool) → length (cond b (r.extension ∷ []) []) ≤ 1
    most true = omega arith
    most false = omega arith

pub header_most : (h : Header) (filter private : List ℕ) → wrong_value h filter private ≡ false → header_length h filter private ≤ 131122
header_most h filter private e =
    let s = short h filter private e in
    omega (arith, private_most h.statement private, extension_most h.high, extension_most h.low)

-- so a file that is short enough can be laid out over an output that is long enough
pub layable : (h : Header) (filter private records output : List ℕ) → wrong_fields h private ≡ false → needed_octets h filter private records ≤ 1048576
    → needed_octets h filter private records ≤ length output → {count : ℕ} → count ≡ (tally_of records).count → Layable h filter private records count output
layable h filter private records output a size room {count} e =
    let n = file_length h filter private records count in
    let few = four_each records in
    record { fields = writable h private a; stated = stated h private a; few = omega arith; size = omega arith; room = omega arith }
