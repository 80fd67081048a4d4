-- A record that joins the open file and changes nothing else (document 01, The events): it has the format of the file's records and the one release that
-- they have, the file with it is within its limit, and it does not fill it. Most records are such: they are put behind the file's records, and of
-- the route the last append, the count and the octets of its file are others. That is what placing leaves. Assumes nothing.
use Rattle.std.specs.Prelude.{◌≡◌, refl, Bool, true, false, cond, not, ◌&&◌, ◌||◌, List, ◌++◌, ℕ, ◌+◌, ◌≤◌, ◌<◌, ◌^◌, ltb, leb, eqb, length}
use Rattle.std.proofs.Common.{sym, ap, ◌∙◌, arith, eqb-true, eq-eqb, ne_eqb, ltb-true, leb-true, le-ltb}
use Rattle.std.proofs.Math.Bool.{and-false}
use Rattle.std.proofs.lemmas.Bool.{not-true}
use Rattle.refusals.specs.Tests.{both}
use Rattle.record.specs.declared.Release.{Release}
use Rattle.record.specs.declared.RecordHeader.{RecordHeader}
use Rattle.octets.specs.Splice.{splice, splice_nil}
use Rattle.record.specs.Release.{rank}
use Rattle.record.specs.Record.{record_octets}
use Rattle.state.specs.declared.OpenFile.{OpenFile}
use Rattle.state.specs.declared.Route.{Route}
use Rattle.state.specs.declared.Node.{Node}
use Rattle.state.specs.Size.{header_size}
use Rattle.filing.specs.Closing.{closed_size}
use Rattle.filing.specs.Needs.{Appendable}
use Rattle.events.specs.declared.Arrival.{Arrival}
use Rattle.events.specs.Rules.{opened_route, closed_route, high_with, low_with, appended_route, differs, exceeds, full, header_for, record_size}
use Rattle.events.specs.Receive.{turns, turn_reason, ready, holding, finished, record_of, placed_size, placed_files}
use Rattle.placing.specs.Plan.{Suitable}
use Rattle.placing.specs.Files.{closed_if}
use Rattle.placing.specs.Made.{Left, left, too_long, store_from, place_of}

-- two releases are the same, field by field
abbrev pub same_fields : Release → Release → Bool
same_fields a b = eqb a.release b.release && (eqb a.extension b.extension && eqb a.version b.version)

pub same_fields_lem : (a b : Release) → same_fields a b ≡ true → a ≡ b
same_fields_lem a b e =
    let p = both (eqb a.release b.release) (eqb a.extension b.extension && eqb a.version b.version) e in
    let q = both (eqb a.extension b.extension) (eqb a.version b.version) p.1 in
    λ i. record { release = eqb-true a.release b.release p.0 i; extension = eqb-true a.extension b.extension q.0 i; version = eqb-true a.version b.version q.1 i }

abbrev pub joins : Route → RecordHeader → ℕ → Bool
joins r h octets =
    r.«open»
    && (ltb 0 r.file.count
    && (eqb r.file.format h.format
    && (same_fields r.file.high h.release
    && (same_fields r.file.low h.release
    && (leb (header_size r.settings.octets h.release h.release + r.file.octets + octets) r.settings.limit
    && not (eqb (r.file.count + 1) r.settings.most))))))

-- the route with the record: the last append, the count and the octets of its file are others
abbrev pub joined_route : Route → ℕ → ℕ → Route
joined_route r octets t =
    record {
      settings = r.settings;
      next = r.next;
      losses = r.losses;
      unrouted = r.unrouted;
      «open» = r.«open»;
      file =
          record {
            sequence = r.file.sequence;
            opened = r.file.opened;
            appended = t;
            high = r.file.high;
            low = r.file.low;
            format = r.file.format;
            count = r.file.count + 1;
            octets = r.file.octets + octets;
          };
    }

-- What is known of such a record.
module _ (r : Route) (h : RecordHeader) (n : ℕ) (e : joins r h n ≡ true) where
  abbrev f : OpenFile
  f = r.file

  abbrev short : Bool
  short = leb (header_size r.settings.octets h.release h.release + f.octets + n) r.settings.limit

  abbrev unfilled : Bool
  unfilled = not (eqb (f.count + 1) r.settings.most)

  p1 : (r.«open» ≡ true) × ((ltb 0 f.count && (eqb f.format h.format && (same_fields f.high h.release && (same_fields f.low h.release && (short && unfilled))))) ≡ true)
  p1 = both r.«open» (ltb 0 f.count && (eqb f.format h.format && (same_fields f.high h.release && (same_fields f.low h.release && (short && unfilled))))) e

  p2 : (ltb 0 f.count ≡ true) × ((eqb f.format h.format && (same_fields f.high h.release && (same_fields f.low h.release && (short && unfilled)))) ≡ true)
  p2 = both (ltb 0 f.count) (eqb f.format h.format && (same_fields f.high h.release && (same_fields f.low h.release && (short && unfilled)))) p1.1

  p3 : (eqb f.format h.format ≡ true) × ((same_fields f.high h.release && (same_fields f.low h.release && (short && unfilled))) ≡ true)
  p3 = both (eqb f.format h.format) (same_fields f.high h.release && (same_fields f.low h.release && (short && unfilled))) p2.1

  p4 : (same_fields f.high h.release ≡ true) × ((same_fields f.low h.release && (short && unfilled)) ≡ true)
  p4 = both (same_fields f.high h.release) (same_fields f.low h.release && (short && unfilled)) p3.1

  p5 : (same_fields f.low h.release ≡ true) × ((short && unfilled) ≡ true)
  p5 = both (same_fields f.low h.release) (short && unfilled) p4.1

  p6 : (short ≡ true) × (unfilled ≡ true)
  p6 = both short unfilled p5.1

  high_is : f.high ≡ h.release
  high_is = same_fields_lem f.high h.release p4.0

  low_is : f.low ≡ h.release
  low_is = same_fields_lem f.low h.release p5.0

  some : eqb f.count 0 ≡ false
  some = ne_eqb f.count 0 (λ z. omega (arith, ltb-true 0 f.count p2.0))

  -- whichever of two releases that are the same
  either_one : {a b : Release} → a ≡ b → (x : Bool) → cond x b a ≡ a
  either_one q true = sym q
  either_one q false = refl

  high_stays : high_with f h.release ≡ f.high
  high_stays = ap (λ (b : Bool). cond b h.release (cond (ltb (rank f.high) (rank h.release)) h.release f.high)) some ∙ either_one high_is (ltb (rank f.high) (rank h.release))

  low_stays : low_with f h.release ≡ f.low
  low_stays = ap (λ (b : Bool). cond b h.release (cond (ltb (rank h.release) (rank f.low)) h.release f.low)) some ∙ either_one low_is (ltb (rank h.release) (rank f.low))

  no_difference : differs r h ≡ false
  no_difference =
      (λ i. p1.0 i && p2.0 i && (not (p3.0 i) || (eqb r.settings.flag 1 && not (eq-eqb (rank f.high) (rank h.release) (ap rank high_is) i))))
      ∙ and-false (eqb r.settings.flag 1)

  no_excess : exceeds r h n ≡ false
  no_excess =
      (λ i. p1.0 i && ltb r.settings.limit (header_size r.settings.octets ((high_stays ∙ high_is) i) ((low_stays ∙ low_is) i) + f.octets + n))
      ∙ le-ltb r.settings.limit (header_size r.settings.octets h.release h.release + f.octets + n) (leb-true (header_size r.settings.octets h.release h.release + f.octets + n) r.settings.limit p6.0)

  joined_is : (t : ℕ) → appended_route r h n t ≡ joined_route r n t
  joined_is t =
      λ i.
      record {
        settings = r.settings;
        next = r.next;
        losses = r.losses;
        unrouted = r.unrouted;
        «open» = r.«open»;
        file =
            record {
              sequence = f.sequence;
              opened = f.opened;
              appended = t;
              high = high_stays i;
              low = low_stays i;
              format = sym (eqb-true f.format h.format p3.0) i;
              count = f.count + 1;
              octets = f.octets + n;
            };
      }

  not_full : (t : ℕ) → full (joined_route r n t) ≡ false
  not_full t = ap (λ (b : Bool). ltb 0 r.settings.most && b) (not-true (eqb (r.file.count + 1) r.settings.most) p6.1) ∙ and-false (ltb 0 r.settings.most)

-- What placing it leaves is the definition's.
module _ (r : Route) (a : Arrival) (body : List ℕ) (t : ℕ) (e : joins r (header_for a) (record_size a (length body)) ≡ true) where
  abbrev h : RecordHeader
  h = header_for a

  abbrev n : ℕ
  n = record_size a (length body)

  no_turn : turns r a (length body) ≡ false
  no_turn = λ i. no_difference r h n e i || no_excess r h n e i

  stays : ready r a (length body) t ≡ r
  stays = λ i. cond (no_turn i) (opened_route (closed_route r) t) (cond ((p1 r h n e).0 i) r (opened_route r t))

  held : holding r a (length body) t ≡ joined_route r n t
  held = ap (λ (q : Route). appended_route q h n t) stays ∙ joined_is r h n e t

  no_fill : full (holding r a (length body) t) ≡ false
  no_fill = ap full held ∙ not_full r h n e t

  none_needed : placed_size r a (length body) t ≡ 0
  none_needed = λ i. cond (no_turn i) (closed_size r) 0 + cond (no_fill i) (closed_size (holding r a (length body) t)) 0

  pub joined_place : (node : Node) (from : ℕ) (store output : List ℕ) {q : Route} {store' : List ℕ} → q ≡ joined_route r n t
      → store' ≡ splice store (from + r.file.octets) (record_octets (record_of a body))
      → left (record { fits = true; route = q; files = 0; octets = 0 }) store' output ≡ place_of node from r store output t a body
  joined_place node from store output {q} {store'} eq es =
      (λ i. left (record { fits = true; route = eq i; files = 0; octets = 0 }) (es i) (sym (splice_nil output 0) i))
      ∙ sym
      ((λ i. cond (ltb (length output) (none_needed i)) (left (too_long r (placed_size r a (length body) t)) store output) there)
      ∙ ap (λ (b : Bool). cond b (left (too_long r (placed_size r a (length body) t)) store output) there) (le-ltb (length output) 0 (omega arith))
      ∙ (λ i.
      left
      (record {
        fits = true;
        route = cond (no_fill i) (closed_route (holding r a (length body) t)) (held i);
        files = cond (no_turn i) 1 0 + cond (no_fill i) 1 0;
        octets = none_needed i;
      })
      (splice store (from + (stays i).file.octets) (record_octets (record_of a body)))
      (splice output 0
      (closed_if (no_turn i) node r (turn_reason r a) store from ++ closed_if (no_fill i) node (holding r a (length body) t) 3 (store_from from r store a body t) from))))
    where
      there : Left
      there =
          left
          (record {
            fits = true;
            route = finished r a (length body) t;
            files = placed_files r a (length body) t;
            octets = placed_size r a (length body) t;
          })
          (store_from from r store a body t)
          (splice output 0
          (closed_if (turns r a (length body)) node r (turn_reason r a) store from
          ++ closed_if (full (holding r a (length body) t)) node (holding r a (length body) t) 3 (store_from from r store a body t) from))

-- What putting it there needs.
module _ (r : Route) (a : Arrival) (body : List ℕ) (t from : ℕ) (store : List ℕ) (s : Suitable r a (length body) t) (region : from + r.settings.limit ≤ length store)
    (e : joins r (header_for a) (record_size a (length body)) ≡ true) where
  fits : header_size r.settings.octets (header_for a).release (header_for a).release + r.file.octets + record_size a (length body) ≤ r.settings.limit
  fits = leb-true (header_size r.settings.octets (header_for a).release (header_for a).release + r.file.octets + record_size a (length body)) r.settings.limit (p6 r (header_for a) (record_size a (length body)) e).0

  pub joined_appendable : {h : RecordHeader} → h ≡ header_for a → Appendable store from r.settings.limit r.file.octets h body
  joined_appendable eh =
      let u = s.usable in
      rw eh
      (record {
        narrow = record { release = u.release; version = u.version; format = u.format; ts = u.ts };
        short = s.short;
        region = region;
        room = omega (arith, fits);
      })

  pub joined_fits : {k : ℕ} → k ≡ record_size a (length body) → (r.file.count + 1 < 2 ^ 32) × (r.file.octets + k < 2 ^ 32)
  joined_fits ek =
      let f = s.within.file (p1 r (header_for a) (record_size a (length body)) e).0 in
      (omega (arith, fits, f.records, s.within.settings.limit_most), omega (arith, fits, s.within.settings.limit_most))
