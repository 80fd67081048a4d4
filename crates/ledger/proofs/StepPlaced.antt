-- One event (Steps): RECEIVE of a record that is placed: the file may first close with 5 or 1, the record is appended, and the
-- file may close with 3 behind it. Assumes nothing.
use Rattle.std.specs.Prelude.{◌≡◌, refl, Bool, true, false, cond, not, ◌&&◌, ◌||◌, List, [], ◌∷◌, ◌++◌, ℕ, ◌+◌, ◌≤◌, ◌<◌, ltb, eqb, length}
use Rattle.std.proofs.Common.{sym, ap, ◌∙◌, subst, append_assoc, append-nil, add-zero, arith, lit<, length-append, ltb-false, leb-true, eqb-true, lt-ltb, eq-eqb}
use Rattle.std.proofs.lemmas.Bool.{false≢true, eqb-false, not-false}
use Rattle.octets.specs.Number.{Octets}
use Rattle.octets.specs.Splice.{splice, splice_length}
use Rattle.refusals.specs.Refusal.{or_false}
use Rattle.refusals.specs.Tests.{each}
use Rattle.record.specs.declared.RecordHeader.{RecordHeader}
use Rattle.record.specs.Release.{NarrowRelease, rank}
use Rattle.record.specs.Record.{Record, record_octets, RightRecord}
use Rattle.record.specs.Order.{narrowed, narrow_true}
use Rattle.record.specs.HeaderOctets.{record_length}
use Rattle.cdrfile.specs.File.{File, layout}
use Rattle.roundtrip.specs.Described.{RightFile}
use Rattle.state.specs.declared.RouteSettings.{RouteSettings}
use Rattle.state.specs.declared.Route.{Route}
use Rattle.state.specs.declared.OpenFile.{OpenFile as RouteFile}
use Rattle.state.specs.Manager.{Manager}
use Rattle.state.specs.Manager.{route_at, settings_at, base, regions, with_route, with_time}
use Rattle.state.specs.Size.{header_size}
use Rattle.state.specs.Bounds.{same_release, file_tests, file_right, route_right}
use Rattle.state.specs.Within.{SettingsWithin, file_within, within_file, RouteWithin, within_route, within}
use Rattle.state.specs.Keep.{route_later}
use Rattle.filing.specs.Closing.{closed_file, closed_size}
use Rattle.events.specs.Rules.{opened_route, closed_route, appended_route, high_with, low_with, differs, exceeds, full, header_for, record_size}
use Rattle.events.specs.declared.Arrival.{Arrival}
use Rattle.events.specs.Receive.{record_of, turns, ready, finished, store_with, turned_file, filled_file, placed_size, placed_files}
use Rattle.ledger.specs.Ledger.{OpenFile, Current, none, some, Line, Ledger, line_at, highest, lowest, size_of, file_from, close_line, with_current, received_line, append_to, Closing, lengths, Entry, differs_from, exceeds_with, Ready, open_for, turn_over, ready_by, append_entry, places}
use Rattle.ledger.specs.Ledger.{with_line, with_time as with_book_time}
use Rattle.ledger.specs.Run.{joined}
use Rattle.ledger.proofs.Agrees.{AgreesOpen, AgreesLine, Agrees}
use Rattle.events.specs.Right.{FileFacts, Appends, opened_right, appended_right}
use Rattle.ledger.proofs.Files.{closed_same, size_is, file_right_lem}
use Rattle.ledger.proofs.Lines.{line_closed, line_live, open_agrees, close_agrees, received_agrees, append_agrees, same_format, differs_agrees, exceeds_agrees, full_agrees, differs_closed, exceeds_closed, record_size_lem}
use Rattle.ledger.proofs.Regions.{few, bias_right, region_within, regions_count, route_same, base_with, agrees_with, lines_elsewhere}
use Rattle.ledger.proofs.Steps.{AllRightFiles, state_kept}

-- Closings one behind another.
joined_append : (cs ds : List Closing) → joined (cs ++ ds) ≡ joined cs ++ joined ds
joined_append [] ds = refl
joined_append (c ∷ cs) ds =
    ap (λ (l : List ℕ). layout c.file ++ l) (joined_append cs ds) ∙ sym (append_assoc (layout c.file) (joined cs) (joined ds))

lengths_append : (cs ds : List Closing) → lengths (cs ++ ds) ≡ lengths cs + lengths ds
lengths_append [] ds = omega arith
lengths_append (c ∷ cs) ds = omega (arith, lengths_append cs ds)

pub length_joined : (cs : List Closing) → length (joined cs) ≡ lengths cs
length_joined [] = refl
length_joined (c ∷ cs) = length-append (layout c.file) (joined cs) ∙ ap (λ (n : ℕ). length (layout c.file) + n) (length_joined cs)

pub right_append : (cs ds : List Closing) → AllRightFiles cs → AllRightFiles ds → AllRightFiles (cs ++ ds)
right_append [] ds p q = q
right_append (c ∷ cs) ds p q = (p.0, right_append cs ds p.1 q)

-- The file of an open route, laid out by the ledger: how long it is, and that it is right.
module _ {store : List ℕ} {b : ℕ} {r : Route} {x : Line} {f : OpenFile} (al : AgreesLine store b r x) (o : AgreesOpen store b r f) (l : Ledger) (s : SettingsWithin r.settings) where
  size_sized : closed_size r ≡ size_of x.settings f.records
  size_sized =
      let settings = al.settings in
      let high : r.file.high ≡ highest x.settings.release f.records = o.high ∙ ap (λ (s : RouteSettings). highest s.release f.records) settings in
      let low : r.file.low ≡ lowest x.settings.release f.records = o.low ∙ ap (λ (s : RouteSettings). lowest s.release f.records) settings in
      let octets = o.octets in
      λ j. header_size (settings j).octets (high j) (low j) + octets j

  filter_twenty : length x.settings.filter ≡ 20
  filter_twenty = subst (λ (s : RouteSettings). length s.filter ≡ 20) al.settings al.held.filter

  filter_short : x.settings.octets ≤ 20
  filter_short = omega (arith, s.octets, ap (λ (s : RouteSettings). s.octets) al.settings)

  size_closed : (reason : ℕ) → closed_size r ≡ length (layout (file_from l x f reason))
  size_closed reason = size_sized ∙ sym (size_is l x f reason filter_twenty filter_short)

  right_closed : (reason : ℕ) → reason < 256 → r.file.opened ≤ r.file.appended → r.file.appended ≤ 52595999 → l.bias < 2879
      → (length l.address ≡ 16) × Octets l.address → closed_size r ≤ r.settings.limit → RightFile (file_from l x f reason)
  right_closed reason small opened appended bias address size =
      file_right_lem l x f reason
      (record {
        records = o.right;
        release = subst (λ (s : RouteSettings). NarrowRelease s.release) al.settings (narrowed r.settings.release al.held.extension s.release);
        most = filter_short;
        twenty = filter_twenty;
        filter = subst (λ (s : RouteSettings). Octets s.filter) al.settings al.held.octets;
        opened = omega (arith, o.opened);
        appended = omega (arith, o.appended);
        bias = bias;
        sequence = o.held;
        reason = small;
        address = address;
        size = omega (arith, size_sized, s.limit_most);
      })

-- what the tests of an open file say, as `Right` asks for it
facts_of : {last : ℕ} {s : RouteSettings} {f : RouteFile} → file_right last s f ≡ true → FileFacts last s f
unfolding file_right
facts_of {last} {s} {f} e =
    let t = each (file_tests last s f) e in
    record {
      opened = leb-true _ _ (t 0);
      appended = leb-true _ _ (t 1);
      order = leb-true _ _ (t 2);
      same = t 3;
      high = t 4;
      low = t 5;
      format = leb-true _ _ (t 6);
      size = leb-true _ _ (t 7);
      four = leb-true _ _ (t 8);
      none = t 9;
      empty = t 10;
      plain_high = t 11;
      plain_low = t 12;
      below = t 13;
    }

-- A route with an open file that takes the record, beside what the ledger has ready for it: its file is right at time t, and
-- with the record it is within the limit and of one format, and of one release if the flag says so.
record Standing (store : List ℕ) (start : ℕ) (h : RecordHeader) (n t : ℕ) (r : Route) (y : Ready) : Type 0 where
  line : AgreesLine store start r y.line
  file : AgreesOpen store start r y.file
  within : SettingsWithin r.settings
  facts : file_right t r.settings r.file ≡ true
  fits : header_size r.settings.octets (high_with r.file h.release) (low_with r.file h.release) + r.file.octets + n ≤ r.settings.limit
  format : 0 < length y.file.records → r.file.format ≡ h.format
  alike : (r.file.count ≡ 0 → ⊥) → (r.settings.flag ≡ 0 → ⊥) → rank r.file.high ≡ rank h.release

-- what it says that an open file neither differs nor would be too long
module _ (h : RecordHeader) where
  alike_by : (r : Route) → r.settings.flag ≤ 1 → r.«open» ≡ true → differs r h ≡ false → (r.file.count ≡ 0 → ⊥) → (r.settings.flag ≡ 0 → ⊥)
      → rank r.file.high ≡ rank h.release
  alike_by r flag live e c z =
      let some : ltb 0 r.file.count ≡ true = lt-ltb 0 r.file.count (omega arith) in
      let one : eqb r.settings.flag 1 ≡ true = eq-eqb r.settings.flag 1 (omega arith) in
      let format = not (eqb r.file.format h.format) in
      let same = same_release r.file.high h.release in
      let test : (format || not same) ≡ false = sym (λ i. (live i) && (some i) && (format || (one i && not same))) ∙ e in
      eqb-true (rank r.file.high) (rank h.release) (not-false same (or_false format (not same) test).1)

  fits_by : (n : ℕ) (r : Route) → r.«open» ≡ true → exceeds r h n ≡ false
      → header_size r.settings.octets (high_with r.file h.release) (low_with r.file h.release) + r.file.octets + n ≤ r.settings.limit
  fits_by n r live e =
      let size = header_size r.settings.octets (high_with r.file h.release) (low_with r.file h.release) + r.file.octets + n in
      ltb-false r.settings.limit size (sym (ap (λ (b : Bool). b && ltb r.settings.limit size) live) ∙ e)

module _ {store : List ℕ} {start : ℕ} (h : RecordHeader) (n t : ℕ) where
  -- a fresh file
  fresh : {r : Route} {x : Line} (cs : List Closing) → AgreesLine store start r x → SettingsWithin r.settings
      → header_size r.settings.octets h.release h.release + n ≤ r.settings.limit
      → Standing store start h n t (opened_route r t) (open_for x t cs)
  fresh {r} cs al s alone =
      let new = open_agrees al t in
      record {
        line = new;
        file = new.file;
        within = s;
        facts = opened_right r.settings r.next t s.octets s.limit_least s.release;
        fits = omega arith;
        format = λ z. absurd (omega arith);
        alike = λ z. absurd (z refl);
      }

  -- the file that is open, where it neither differs nor would be too long
  stays : {r : Route} {x : Line} {f : OpenFile} (cs : List Closing) → AgreesLine store start r x → AgreesOpen store start r f → RouteWithin t r
      → differs r h ≡ false → exceeds r h n ≡ false → Standing store start h n t r (record { line = x; file = f; closings = cs })
  stays {r} cs al o w d e =
      record {
        line = al;
        file = o;
        within = w.settings;
        facts = within_file t r.settings r.file (w.file o.live);
        fits = fits_by h n r o.live e;
        format = same_format o h d;
        alike = alike_by h r w.settings.flag o.live d;
      }

-- The route ready for the record, with the octets, the size and the number of the files that close before it.
record Readied (store : List ℕ) (start : ℕ) (h : RecordHeader) (n t : ℕ) (r : Route) (file : List ℕ) (size count : ℕ) (y : Ready) : Type 0 where
  stands : Standing store start h n t r y
  joins : file ≡ joined y.closings
  sizes : size ≡ lengths y.closings
  counts : count ≡ length y.closings
  files : AllRightFiles y.closings

-- what the manager makes ready, by the tests
abbrev ready_of : Route → ℕ → Bool → Bool → Bool → Route
ready_of r t d e live = cond (d || e) (opened_route (closed_route r) t) (cond live r (opened_route r t))

abbrev turned_of : Manager → List ℕ → ℕ → Bool → Bool → List ℕ
turned_of m store i d e = cond (d || e) (closed_file m store i (cond d 5 1)) []

module _ {store : List ℕ} {m : Manager} {l : Ledger} (a : Agrees store m l) (i : ℕ) (mine : i < m.count) (t : ℕ) (later : m.last ≤ t) (most : t ≤ 52595999)
    (h : RecordHeader) (n : ℕ) (alone : header_size (settings_at m i).octets h.release h.release + n ≤ (settings_at m i).limit) where
  here : AgreesLine store (base m i) (route_at m i) (received_line (line_at l i))
  here = received_agrees (a.lines i mine)

  bounds : RouteWithin t (route_at m i)
  bounds = route_later ((within m a.right).routes i mine) later

  bias_small : l.bias < 2879
  bias_small = omega (arith, bias_right a, a.bias)

  address_right : (length l.address ≡ 16) × Octets l.address
  address_right = subst (λ (x : List ℕ). (length x ≡ 16) × Octets x) a.address a.sixteen

  module _ {f : OpenFile} (o : AgreesOpen store (base m i) (route_at m i) f) where
    -- the open file closes, and another is opened
    turned : (reason : ℕ) → reason < 256
        → Readied store (base m i) h n t (opened_route (closed_route (route_at m i)) t) (closed_file m store i reason) (closed_size (route_at m i)) 1
        (turn_over l (received_line (line_at l i)) t i f reason)
    turned reason small =
        let x : Line = received_line (line_at l i) in
        let file : File = file_from l x f reason in
        let w = bounds.file o.live in
        record {
          stands = fresh h n t (record { route = i; file = file } ∷ []) (close_agrees here file) bounds.settings alone;
          joins = closed_same m store i reason l x f here o a.bias a.address ∙ sym (append-nil (layout file));
          sizes = size_closed here o l bounds.settings reason ∙ sym (add-zero (length (layout file)));
          counts = refl;
          files = (right_closed here o l bounds.settings reason small w.opened (omega (arith, w.appended)) bias_small address_right w.size, tt);
        }

    -- by the two tests
    ready_by_lem : (d e : Bool) → differs (route_at m i) h ≡ d → exceeds (route_at m i) h n ≡ e
        → Readied store (base m i) h n t (ready_of (route_at m i) t d e true) (turned_of m store i d e) (cond (d || e) (closed_size (route_at m i)) 0) (cond (d || e) 1 0)
        (cond d (turn_over l (received_line (line_at l i)) t i f 5)
        (cond e (turn_over l (received_line (line_at l i)) t i f 1) (record { line = received_line (line_at l i); file = f; closings = [] })))
    ready_by_lem true e p q = turned 5 (lit< tt)
    ready_by_lem false true p q = turned 1 (lit< tt)
    ready_by_lem false false p q = record { stands = stays h n t [] here o bounds p q; joins = refl; sizes = refl; counts = refl; files = tt }

  -- What the ledger has ready, by the file that it holds open.
  module _ (body : List ℕ) (sized : n ≡ length (record_octets (record { header = h; body = body }))) where
    abbrev Made : Bool → Bool → Bool → Ready → Type 0
    Made d e live y =
        Readied store (base m i) h n t (ready_of (route_at m i) t d e live) (turned_of m store i d e) (cond (d || e) (closed_size (route_at m i)) 0) (cond (d || e) 1 0) y

    made_none : (line_at l i).current ≡ none → Made (differs (route_at m i) h) (exceeds (route_at m i) h n) (route_at m i).«open» (open_for (received_line (line_at l i)) t [])
    made_none c =
        let closed = line_closed (a.lines i mine) c in
        let d = differs_closed (a.lines i mine) c h in
        let e = exceeds_closed (a.lines i mine) c h n in
        let made : Made false false false (open_for (received_line (line_at l i)) t []) =
        record { stands = fresh h n t [] here bounds.settings alone; joins = refl; sizes = refl; counts = refl; files = tt } in
        subst (λ (b : Bool). Made b (exceeds (route_at m i) h n) (route_at m i).«open» (open_for (received_line (line_at l i)) t [])) (sym d)
        (subst (λ (b : Bool). Made false b (route_at m i).«open» (open_for (received_line (line_at l i)) t [])) (sym e)
        (subst (λ (b : Bool). Made false false b (open_for (received_line (line_at l i)) t [])) (sym closed) made))

    made_some : (f : OpenFile) → (line_at l i).current ≡ some f
        → Made (differs (route_at m i) h) (exceeds (route_at m i) h n) (route_at m i).«open» (ready_by l (received_line (line_at l i)) t i (record { header = h; body = body }) (some f))
    made_some f c =
        let x : Line = received_line (line_at l i) in
        let y : Record = record { header = h; body = body } in
        let o : AgreesOpen store (base m i) (route_at m i) f = line_live (a.lines i mine) c in
        let d = differs (route_at m i) h in
        let e = exceeds (route_at m i) h n in
        let single : (route_at m i).settings.flag ≡ 1 → rank (route_at m i).file.low ≡ rank (route_at m i).file.high =
        λ one. (bounds.file o.live).single (λ z. omega arith) in
        let stay : Ready = record { line = x; file = f; closings = [] } in
        let same_d : d ≡ differs_from x.settings f.records y = differs_agrees here o h body single in
        let same_e : e ≡ exceeds_with x.settings f.records y = ap (λ (k : ℕ). exceeds (route_at m i) h k) sized ∙ exceeds_agrees here o h body in
        subst (λ (b : Bool). Made d e b (ready_by l x t i y (some f))) (sym o.live)
        (subst (λ (b : Bool). Made d e true (cond b (turn_over l x t i f 5) (cond (exceeds_with x.settings f.records y) (turn_over l x t i f 1) stay))) same_d
        (subst (λ (b : Bool). Made d e true (cond d (turn_over l x t i f 5) (cond b (turn_over l x t i f 1) stay))) same_e
        (ready_by_lem o d e refl refl)))

    made : (c : Current) → (line_at l i).current ≡ c
        → Made (differs (route_at m i) h) (exceeds (route_at m i) h n) (route_at m i).«open» (ready_by l (received_line (line_at l i)) t i (record { header = h; body = body }) c)
    made none c = made_none c
    made (some f) c = made_some f c

ready_settings : (r : Route) (t : ℕ) (d e live : Bool) → (ready_of r t d e live).settings ≡ r.settings
ready_settings r t true e live = refl
ready_settings r t false true live = refl
ready_settings r t false false true = refl
ready_settings r t false false false = refl

-- a record has four octets at least
four_least : (h : RecordHeader) (body : List ℕ) → 4 ≤ length (record_octets (record { header = h; body = body }))
four_least h body = omega (arith, record_length (record { header = h; body = body }), by_release (eqb h.release.release 7))
  where
    by_release : (b : Bool) → 4 ≤ cond b 5 4
    by_release true = omega arith
    by_release false = omega arith

-- a file that is not full has room for one more record
short_by : (count most : ℕ) → (ltb 0 most && eqb (count + 1) most) ≡ false → ((most ≡ 0 → ⊥) → count < most) → (most ≡ 0 → ⊥) → count + 1 < most
short_by count most e below z =
    let some : ltb 0 most ≡ true = lt-ltb 0 most (omega arith) in
    let less = below z in
    let other = eqb-false (count + 1) most (sym (ap (λ (b : Bool). b && eqb (count + 1) most) some) ∙ e) in
    omega arith

line_at_lem : {store : List ℕ} {b b' : ℕ} {r r' : Route} {x : Line} → b ≡ b' → r ≡ r' → AgreesLine store b' r' x → AgreesLine store b r x
line_at_lem p q a = rw (p, q) a

-- What an event leaves: the state and the store, and the octets, the size and the number of the files that close.
pub record Placed (store : List ℕ) (m : Manager) (file : List ℕ) (size count : ℕ) (e : Entry) : Type 0 where
  pub agrees : Agrees store m e.ledger
  pub joins : file ≡ joined e.closings
  pub sizes : size ≡ lengths e.closings
  pub counts : count ≡ length e.closings
  pub files : AllRightFiles e.closings

-- The record is appended, and the file closes if that fills it.
module _ {store : List ℕ} {m : Manager} {l : Ledger} (a : Agrees store m l) (i : ℕ) (mine : i < m.count) (t : ℕ) (later : m.last ≤ t) (most : t ≤ 52595999)
    (room : regions m ≤ length store) (h : RecordHeader) (n : ℕ) (body : List ℕ) (sized : n ≡ length (record_octets (record { header = h; body = body })))
    (right : RightRecord (record { header = h; body = body }))
    (r : Route) (same : r.settings ≡ settings_at m i) (y : Ready) (st : Standing store (base m i) h n t r y) where
  octets_within : r.file.octets + length (record_octets (record { header = h; body = body })) ≤ (settings_at m i).limit
  octets_within = omega (arith, st.fits, ap (λ (s : RouteSettings). s.limit) same)

  octets_fit : base m i + r.file.octets + length (record_octets (record { header = h; body = body })) ≤ length store
  octets_fit = omega (arith, octets_within, region_within m i m.count mine, regions_count a)

  abbrev new_store : List ℕ
  new_store = splice store (base m i + r.file.octets) (record_octets (record { header = h; body = body }))

  abbrev held : Route
  held = appended_route r h n t

  abbrev new_file : OpenFile
  new_file = append_to y.file (record { header = h; body = body }) t

  abbrev new_line : Line
  new_line = with_current y.line (some new_file)

  line_held : AgreesLine new_store (base m i) held new_line
  line_held =
      subst (λ (k : ℕ). AgreesLine new_store (base m i) (appended_route r h k t) new_line) (sym sized)
      (append_agrees st.line st.file h body t right octets_fit st.format)

  others : (j : ℕ) → j < m.count → (i ≡ j → ⊥) → AgreesLine new_store (base m j) (route_at m j) (line_at l j)
  others = lines_elsewhere a i r.file.octets (record_octets (record { header = h; body = body })) mine octets_within room

  -- it stays open
  kept_right : full held ≡ false → route_right t held ≡ true
  kept_right e =
      let facts = facts_of st.facts in
      let w = file_within t r.settings r.file st.facts in
      let appends : Appends t r.settings r.file h n t =
      record {
        before = facts;
        narrow = narrow_true h.release right.release;
        format = omega (arith, right.format);
        time = omega arith;
        some = omega (arith, four_least h body);
        alike = st.alike;
        fits = st.fits;
        short = short_by r.file.count r.settings.most e w.most;
      } in
      within_route t held (record { settings = st.within; file = λ p. file_within t r.settings held.file (appended_right appends) })

  kept : full held ≡ false → Agrees new_store (with_time (with_route m i held) t) (with_book_time (with_line l i new_line) t)
  kept e = agrees_with a i held new_line t mine line_held same (state_kept a i held t mine same (kept_right e) later most) others

  -- it closes with 3
  abbrev full_file : File
  full_file = file_from l y.line new_file 3

  filled_right : route_right t (closed_route held) ≡ true
  filled_right = within_route t (closed_route held) (record { settings = st.within; file = λ p. absurd (false≢true p) })

  filled : Agrees new_store (with_time (with_route m i (closed_route held)) t) (with_book_time (with_line l i (close_line y.line full_file)) t)
  filled =
      agrees_with a i (closed_route held) (close_line y.line full_file) t mine (close_agrees line_held full_file) same
      (state_kept a i (closed_route held) t mine same filled_right later most) others

  filled_file_lem : closed_file (with_route m i held) new_store i 3 ≡ layout full_file
  filled_file_lem =
      let eight : i < 8 = omega (arith, few a) in
      let there : AgreesLine new_store (base (with_route m i held) i) (route_at (with_route m i held) i) new_line = line_at_lem (base_with m i held same i) (route_same m i held a.eight eight) line_held in
      closed_same (with_route m i held) new_store i 3 l new_line new_file there there.file a.bias a.address

  filled_size : closed_size held ≡ length (layout full_file)
  filled_size = size_closed line_held line_held.file l st.within 3

  filled_file_right : RightFile full_file
  filled_file_right =
      let w = file_within t r.settings r.file st.facts in
      right_closed line_held line_held.file l st.within 3 (lit< tt) (omega (arith, w.opened, w.appended)) most
      (omega (arith, bias_right a, a.bias)) (subst (λ (x : List ℕ). (length x ≡ 16) × Octets x) a.address a.sixteen) (omega (arith, st.fits))

  -- by the test of a full file, behind what closed before
  module _ (file : List ℕ) (size count : ℕ) (joins : file ≡ joined y.closings) (sizes : size ≡ lengths y.closings) (counts : count ≡ length y.closings)
      (files : AllRightFiles y.closings) where
    placed_by : (b : Bool) → full held ≡ b
        → Placed new_store (with_time (with_route m i (cond b (closed_route held) held)) t) (file ++ cond b (closed_file (with_route m i held) new_store i 3) [])
        (size + cond b (closed_size held) 0) (count + cond b 1 0)
        (cond b
        (record {
          ledger = with_book_time (with_line l i (close_line y.line full_file)) t;
          closings = y.closings ++ (record { route = i; file = full_file } ∷ []);
        })
        (record { ledger = with_book_time (with_line l i new_line) t; closings = y.closings }))
    placed_by true e =
        let last : List Closing = record { route = i; file = full_file } ∷ [] in
        record {
          agrees = filled;
          joins = (λ j. joins j ++ (filled_file_lem ∙ sym (append-nil (layout full_file))) j) ∙ sym (joined_append y.closings last);
          sizes = omega (arith, sizes, filled_size, lengths_append y.closings last);
          counts = ap (λ (k : ℕ). k + 1) counts ∙ sym (length-append y.closings last);
          files = right_append y.closings last files (filled_file_right, tt);
        }
    placed_by false e =
        record {
          agrees = kept e;
          joins = append-nil file ∙ joins;
          sizes = add-zero size ∙ sizes;
          counts = add-zero count ∙ counts;
          files = files;
        }

    placed_ready : Placed new_store (with_time (with_route m i (cond (full held) (closed_route held) held)) t) (file ++ cond (full held) (closed_file (with_route m i held) new_store i 3) [])
        (size + cond (full held) (closed_size held) 0) (count + cond (full held) 1 0) (append_entry l t i (record { header = h; body = body }) y)
    placed_ready =
        subst
        (λ (b : Bool). Placed new_store (with_time (with_route m i (cond (full held) (closed_route held) held)) t) (file ++ cond (full held) (closed_file (with_route m i held) new_store i 3) [])
        (size + cond (full held) (closed_size held) 0) (count + cond (full held) 1 0)
        (cond b
        (record {
          ledger = with_book_time (with_line l i (close_line y.line full_file)) t;
          closings = y.closings ++ (record { route = i; file = full_file } ∷ []);
        })
        (record { ledger = with_book_time (with_line l i new_line) t; closings = y.closings })))
        (full_agrees st.line st.file h body n t) (placed_by (full held) refl)

-- A placed record.
module _ {store : List ℕ} {m : Manager} {l : Ledger} (a : Agrees store m l) (i : ℕ) (mine : i < m.count) (t : ℕ) (later : m.last ≤ t) (most : t ≤ 52595999)
    (room : regions m ≤ length store) (v : Arrival) (body : List ℕ) (right : RightRecord (record_of v body))
    (alone : header_size (settings_at m i).octets (header_for v).release (header_for v).release + record_size v (length body) ≤ (settings_at m i).limit) where
  -- the route ready for the record
  prepared : Readied store (base m i) (header_for v) (record_size v (length body)) t (ready (route_at m i) v (length body) t) (turned_file m store i v (length body))
      (cond (turns (route_at m i) v (length body)) (closed_size (route_at m i)) 0) (cond (turns (route_at m i) v (length body)) 1 0)
      (ready_by l (received_line (line_at l i)) t i (record_of v body) (line_at l i).current)
  prepared = made a i mine t later most (header_for v) (record_size v (length body)) alone body (record_size_lem v body) (line_at l i).current refl

  prepared_settings : (ready (route_at m i) v (length body) t).settings ≡ settings_at m i
  prepared_settings =
      ready_settings (route_at m i) t (differs (route_at m i) (header_for v)) (exceeds (route_at m i) (header_for v) (record_size v (length body))) (route_at m i).«open»

  pub placed : Placed (store_with m store i v body t) (with_time (with_route m i (finished (route_at m i) v (length body) t)) t)
      (turned_file m store i v (length body) ++ filled_file m store i v body t) (placed_size (route_at m i) v (length body) t) (placed_files (route_at m i) v (length body) t)
      (places l t i (record_of v body))
  placed =
      let r = route_at m i in
      placed_ready a i mine t later most room (header_for v) (record_size v (length body)) body (record_size_lem v body) right (ready r v (length body) t) prepared_settings
      (ready_by l (received_line (line_at l i)) t i (record_of v body) (line_at l i).current) prepared.stands (turned_file m store i v (length body))
      (cond (turns r v (length body)) (closed_size r) 0) (cond (turns r v (length body)) 1 0) prepared.joins prepared.sizes prepared.counts prepared.files

  pub placed_long : length (store_with m store i v body t) ≡ length store
  placed_long =
      splice_length store (base m i + (ready (route_at m i) v (length body) t).file.octets) (record_octets (record_of v body))
      (octets_fit a i mine t later most room (header_for v) (record_size v (length body)) body (record_size_lem v body) right (ready (route_at m i) v (length body) t) prepared_settings
      (ready_by l (received_line (line_at l i)) t i (record_of v body) (line_at l i).current) prepared.stands)
