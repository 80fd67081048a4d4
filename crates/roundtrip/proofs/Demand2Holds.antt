-- Demand 2 (Demand2.antt) holds: soundness (Sound, Back), completeness (Complete), the writer's side (Write) and the refusals
-- (Refused, Exactly) together.
use Rattle.std.specs.Prelude.{◌≡◌, refl, true, ◌↔◌, List, [], ◌∷◌, ◌++◌, ℕ, ◌≤◌, ◌<◌, ltb, take, replicate}
use Rattle.std.proofs.Math.Path.{sym, ap}
use Rattle.std.proofs.Common.{◌∙◌, subst, subst₂, zero-add, arith, ltb-true, lt-ltb, le-ltb}
use Rattle.std.proofs.Math.ListN.{length, drop}
use Rattle.std.proofs.lemmas.List.{length-replicate}
use Rattle.octets.specs.Number.{Octets, num, octets_drop}
use Rattle.octets.specs.Splice.{splice, splice_there}
use Rattle.refusals.specs.Refusal.{Rule, ◌when◌, first}
use Rattle.record.specs.Record.{Record, records_octets}
use Rattle.record.specs.Walk.{Tallied, tallied, tally_of}
use Rattle.cdrfile.specs.File.{File, layout}
use Rattle.roundtrip.specs.Described.{RightFile, Described}
use Rattle.cdrfile.specs.Laws.{file_length}
use Rattle.reader.specs.declared.Contents.{Contents}
use Rattle.reader.specs.Places.{header_length_at}
use Rattle.reader.specs.Reader.{part_of, contents_of, verdict, refused_contents, read_of}
use Rattle.reader.specs.Frame.{sized}
use Rattle.writer.specs.Writer.{After, needed_octets, write_of}
use Rattle.writer.specs.Writer.{verdict as writer_verdict}
use Rattle.roundtrip.specs.Handed.{handed_back}
use Rattle.roundtrip.proofs.Accepted.{Accepted, accepts, accepted}
use Rattle.roundtrip.proofs.Sound.{file_at, body, layout_again, right_again}
use Rattle.roundtrip.proofs.Complete.{complete, handed_again}
use Rattle.roundtrip.proofs.Back.{read_number, records_back, back}
use Rattle.roundtrip.proofs.Write.{given, right_held, write_number, Taken, taken, body_is, layout_given, given_right, write_given, taken_right}
use Rattle.roundtrip.specs.Stepping.{stepped, stepped_to, NoneRefused}
use Rattle.roundtrip.proofs.Steps.{recovers}
use Rattle.roundtrip.proofs.Refused.{read_refused, refused_output, refused_needing, refused_octets}
use Rattle.roundtrip.specs.Exactly.{NoneApplies, Exactly, none_joined, none_before, first_exactly}
use Rattle.roundtrip.specs.Demand2.{reader_rules, Call, Plain, left_by, Accepts, file_of, file_size, writer_rules, Gives, Demand2}

-- Octets that the reader accepts.
module _ {x : List ℕ} (o : Octets x) (e : (read_of x).refusal ≡ 0) where
  found : (rs : List Record) × Accepted x rs
  found = accepted x (sym (read_number x) ∙ e)

  back_read : handed_back x (read_of x) ≡ file_at x found.0
  back_read = ap (handed_back x) (accepts x found.0 found.1) ∙ back found.0 found.1

  right_back : RightFile (handed_back x (read_of x))
  right_back = subst RightFile (sym back_read) (right_again o found.0 found.1)

  layout_back : layout (handed_back x (read_of x)) ≡ x
  layout_back = ap layout back_read ∙ layout_again o found.0 found.1

  -- the records that were found are those handed back, as many as the count
  records_found : (handed_back x (read_of x)).records ≡ found.0
  records_found = ap (λ (g : File). g.records) back_read

  count_found : (read_of x).count ≡ length found.0
  unfolding tally_of
  count_found = ap (λ (c : Contents). c.count) (accepts x found.0 found.1) ∙ ap (λ (t : Tallied). t.count) (ap tallied found.1.walk)

  start_found : (read_of x).records.start ≡ header_length_at x
  start_found = ap (λ (c : Contents). c.records.start) (accepts x found.0 found.1)

  counted : ((read_of x).count ≡ num 4 x 18) × ((read_of x).records.start ≡ num 4 x 4) × (length (handed_back x (read_of x)).records ≡ (read_of x).count)
  counted = (count_found ∙ sym found.1.count, start_found, ap length records_found ∙ sym count_found)

  recovered : NoneRefused x (read_of x).records.start (read_of x).count
      × (stepped x (read_of x).records.start (read_of x).count ≡ (handed_back x (read_of x)).records)
      × (stepped_to x (read_of x).records.start (read_of x).count ≡ length x)
  recovered =
      let s = sized x found.1.length_right found.1.header_right in
      let r = recovers x (header_length_at x) found.0 s.within found.1.walk in (
        subst₂ (NoneRefused x) (sym start_found) (sym count_found) r.unrefused,
        (λ i. stepped x (start_found i) (count_found i)) ∙ r.same ∙ sym records_found,
        (λ i. stepped_to x (start_found i) (count_found i)) ∙ r.ends,
      )

-- Right fields and records.
module _ (f : File) (r : RightFile f) where
  read_right : read_of (layout f) ≡ contents_of (layout f)
  read_right = accepts (layout f) f.records (complete f r)

  number_right : (read_of (layout f)).refusal ≡ 0
  number_right = ap (λ (c : Contents). c.refusal) read_right

  back_right : handed_back (layout f) (read_of (layout f)) ≡ f
  back_right = ap (handed_back (layout f)) read_right ∙ handed_again f r

described : {x : List ℕ} → Octets x → ((read_of x).refusal ≡ 0) ↔ Described x
described {x} o = (
  λ e. (handed_back x (read_of x), right_back o e, layout_back o e),
  λ d. ap (λ (l : List ℕ). (read_of l).refusal) (sym d.2) ∙ number_right d.0 d.1,
)

-- A call of the writer that was accepted.
module _ (c : Call) (p : Plain c) (a : Accepts c) where
  seen : (rs : List Record) × Taken c.header c.filter c.private c.records c.output rs
  seen = taken c.header c.filter c.private c.records c.output (sym (write_number c.header c.filter c.private c.records c.output) ∙ a)

  -- the file that was given
  file : File
  file = given c.header c.filter c.private seen.0

  file_right_lem : RightFile file
  unfolding file
  file_right_lem = given_right c.header c.filter c.private c.records c.output p.header p.filter p.private p.records seen.0 seen.1

  file_body : records_octets seen.0 ≡ c.records
  file_body = body_is c.header c.filter c.private c.records c.output p.header p.filter p.private p.records seen.0 seen.1

  wrote : write_of c.header c.filter c.private c.records c.output
      ≡ record { answer = record { refusal = 0; octets = length (layout file) }; output = splice c.output 0 (layout file) }
  unfolding file
  wrote = write_given c.header c.filter c.private c.records c.output p.header p.filter p.private p.records seen.0 seen.1

  file_is : file_of c ≡ layout file
  file_is = ap (λ (w : After). take w.answer.octets w.output) wrote ∙ splice_there c.output 0 (layout file) (omega arith)

  room : length (layout file) ≤ length c.output
  unfolding file
  room =
      let t = seen.1 in
      let l = layout_given c.header c.filter c.private c.records c.output p.header p.filter p.private p.records seen.0 t in
      omega (arith, ap length l, file_length c.header c.filter c.private c.records (tally_of c.records).count, t.room)

  stays : (write_of c.header c.filter c.private c.records c.output).output ≡ file_of c ++ drop (length (file_of c)) c.output
  unfolding splice
  stays =
      ap (λ (w : After). w.output) wrote
      ∙ ap (λ (n : ℕ). layout file ++ drop n c.output) (zero-add (length (layout file)))
      ∙ (λ i. sym file_is i ++ drop (length (sym file_is i)) c.output)

  again : handed_back (file_of c) (read_of (file_of c)) ≡ file
  again = ap (λ (l : List ℕ). handed_back l (read_of l)) file_is ∙ back_right file file_right_lem

-- A right file that fits is written.
module _ (c : Call) (p : Plain c) (f : File) (g : Gives c f) (r : RightFile f) (room : length (layout f) ≤ length c.output) where
  written : write_of c.header c.filter c.private c.records c.output
      ≡ record { answer = record { refusal = 0; octets = length (layout f) }; output = splice c.output 0 (layout f) }
  written =
      (λ i. write_of (sym g.header i) (sym g.filter i) (sym g.private i) (sym g.records i) c.output)
      ∙ write_given f.header f.filter f.private (records_octets f.records) c.output (right_held f r) r.filter.1 r.private.1
      (subst Octets (sym g.records) p.records) f.records (taken_right f r c.output room)

  accepts_right : Accepts c
  accepts_right = ap (λ (w : After). w.answer.refusal) written

takes : (c : Call) → Plain c → Accepts c ↔ ((f : File) × Gives c f × RightFile f × (length (layout f) ≤ length c.output))
unfolding file
takes c p = (
  λ a. (
    file c p a,
    record { header = refl; filter = refl; private = refl; records = file_body c p a },
    file_right_lem c p a,
    room c p a,
  ),
  λ d. accepts_right c p d.0 d.1 d.2 d.3,
)

written_read : (c : Call) → Plain c → Accepts c
    → ((read_of (file_of c)).refusal ≡ 0)
    × ((handed_back (file_of c) (read_of (file_of c))).header ≡ c.header)
    × ((handed_back (file_of c) (read_of (file_of c))).filter ≡ c.filter)
    × ((handed_back (file_of c) (read_of (file_of c))).private ≡ c.private)
    × (records_octets (handed_back (file_of c) (read_of (file_of c))).records ≡ c.records)
unfolding file
written_read c p a =
    let e = again c p a in (
      ap (λ (l : List ℕ). (read_of l).refusal) (file_is c p a) ∙ number_right (file c p a) (file_right_lem c p a),
      ap (λ (f : File). f.header) e,
      ap (λ (f : File). f.filter) e,
      ap (λ (f : File). f.private) e,
      ap (λ (f : File). records_octets f.records) e ∙ file_body c p a,
    )

apart : (c d : Call) → Plain c → Plain d → Accepts c → Accepts d → file_of c ≡ file_of d
    → (c.header ≡ d.header) × (c.filter ≡ d.filter) × (c.private ≡ d.private) × (c.records ≡ d.records)
unfolding file
apart c d p q a b e =
    let same : file c p a ≡ file d q b = sym (again c p a) ∙ ap (λ (l : List ℕ). handed_back l (read_of l)) e ∙ again d q b in (
      ap (λ (f : File). f.header) same,
      ap (λ (f : File). f.filter) same,
      ap (λ (f : File). f.private) same,
      sym (file_body c p a) ∙ ap (λ (f : File). records_octets f.records) same ∙ file_body d q b,
    )

-- What was read, written again.
module _ {x : List ℕ} (o : Octets x) (e : (read_of x).refusal ≡ 0) where
  abbrev f : File
  f = handed_back x (read_of x)

  -- the records' part is the records' octets
  part_is : part_of x (read_of x).records ≡ records_octets f.records
  part_is =
      ap (λ (c : Contents). part_of x c.records) (accepts x (found o e).0 (found o e).1)
      ∙ records_back (found o e).0 (found o e).1
      ∙ sym (body o (found o e).0 (found o e).1).1
      ∙ ap (λ (g : File). records_octets g.records) (sym (back_read o e))

  body_octets : Octets (records_octets f.records)
  body_octets =
      subst Octets (sym (ap (λ (g : File). records_octets g.records) (back_read o e) ∙ (body o (found o e).0 (found o e).1).1)) (octets_drop (header_length_at x) o)

  read_written : (output : List ℕ) → length x ≤ length output
      → write_of (read_of x).header (part_of x (read_of x).filter) (part_of x (read_of x).private) (part_of x (read_of x).records) output
      ≡ record { answer = record { refusal = 0; octets = length x }; output = splice output 0 x }
  read_written output room =
      let r = right_back o e in
      let l = layout_back o e in
      let t = taken_right f r output (omega (arith, ap length l)) in
      ap (λ (b : List ℕ). write_of f.header f.filter f.private b output) part_is
      ∙ write_given f.header f.filter f.private (records_octets f.records) output (right_held f r) r.filter.1 r.private.1 body_octets f.records t
      ∙ (λ i. record { answer = record { refusal = 0; octets = length (l i) }; output = splice output 0 (l i) })

-- The refusals of the reader.
reads_first : (x : List ℕ) → (read_of x).refusal ≡ first (reader_rules x)
unfolding verdict
reads_first = read_number

refused_file : (x : List ℕ) → ((read_of x).refusal ≡ 0 → ⊥) → read_of x ≡ refused_contents (first (reader_rules x))
unfolding verdict
refused_file = read_refused

-- The refusals of the writer.
module _ (c : Call) where
  writes_first : (left_by c).answer.refusal ≡ first (writer_rules c)
  unfolding writer_verdict
  writes_first = write_number c.header c.filter c.private c.records c.output

  writes_exactly : Exactly (writer_rules c) (left_by c).answer.refusal
  writes_exactly = first_exactly (writer_rules c) refl writes_first

  refused_call : (Accepts c → ⊥)
      → ((left_by c).output ≡ c.output)
      × ((left_by c).answer.refusal ≡ 17 → (left_by c).answer.octets ≡ file_size c)
      × (((left_by c).answer.refusal ≡ 17 → ⊥) → (left_by c).answer.octets ≡ 0)
  refused_call refused = (
    refused_output c.header c.filter c.private c.records c.output refused,
    refused_needing c.header c.filter c.private c.records c.output refused,
    refused_octets c.header c.filter c.private c.records c.output refused,
  )

  needed_octets_lem : (f : File) → Gives c f → file_size c ≡ length (layout f)
  needed_octets_lem f g =
      (λ i. needed_octets (sym g.header i) (sym g.filter i) (sym g.private i) (sym g.records i))
      ∙ sym (file_length f.header f.filter f.private (records_octets f.records) (length f.records))

-- 17: with an output that the file just fills, none of the rules would apply.
module _ (c : Call) (p : Plain c) where
  abbrev filled : Call
  filled = record { header = c.header; filter = c.filter; private = c.private; records = c.records; output = replicate (file_size c) 0 }

  filled_plain : Plain filled
  filled_plain = record { header = p.header; filter = p.filter; private = p.private; records = p.records }

  enough : length filled.output ≡ file_size c
  enough = length-replicate (file_size c) 0

  abbrev last : Rule
  last = 17 when ltb (length filled.output) (file_size c)

  -- the rules before 17, which do not look at the output
  abbrev before : List Rule
  before = take 5 (writer_rules c)

  rule_17 : ((left_by c).answer.refusal ≡ 17) ↔ (NoneApplies before × (ltb (length c.output) (file_size c) ≡ true))
  rule_17 = (writes_exactly c).each before (17 when ltb (length c.output) (file_size c)) [] refl

  too_short : (left_by c).answer.refusal ≡ 17 → (f : File) × Gives c f × RightFile f × (length c.output < length (layout f))
  too_short e =
      let a = rule_17.0 e in
      let room = le-ltb (length filled.output) (file_size c) (omega (arith, enough)) in
      let d = (takes filled filled_plain).0 ((writes_exactly filled).none.1 (none_joined before (last ∷ []) a.0 (room, tt))) in
      let g : Gives c d.0 = record { header = d.1.header; filter = d.1.filter; private = d.1.private; records = d.1.records } in
      (d.0, g, d.2, omega (arith, needed_octets_lem c d.0 g, ltb-true (length c.output) (file_size c) a.1))

  needing : (f : File) → Gives c f → RightFile f → length c.output < length (layout f) → (left_by c).answer.refusal ≡ 17
  needing f g r short =
      let n = needed_octets_lem c f g in
      let h : Gives filled f = record { header = g.header; filter = g.filter; private = g.private; records = g.records } in
      let b = (writes_exactly filled).none.0 ((takes filled filled_plain).1 (f, h, r, omega (arith, enough))) in
      rule_17.1 (none_before before (last ∷ []) b, lt-ltb (length c.output) (file_size c) (omega arith))

pub demand_2 : Demand2
demand_2 =
    record {
      described = described;
      handed_back_lem = λ o e. (right_back o e, layout_back o e);
      only_these = back_right;
      counted = counted;
      recovered = recovered;
      first_refusal = reads_first;
      each_refusal = λ x. first_exactly (reader_rules x) refl (reads_first x);
      refused_file = refused_file;
      taken = takes;
      written = written;
      written_read = written_read;
      rest_stays = stays;
      read_written = read_written;
      apart = apart;
      writer_first_refusal = writes_first;
      writer_each_refusal = writes_exactly;
      refused_call = refused_call;
      needed_octets_lem = needed_octets_lem;
      short_output = λ c p. (too_short c p, λ d. needing c p d.0 d.1 d.2 d.3);
    }
