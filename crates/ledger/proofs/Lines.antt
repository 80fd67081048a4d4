-- What the manager does to a route agrees with what the ledger does to a line: opening, closing, losing, noting and appending,
-- and the decisions that RECEIVE and TICK take by a route (document 01, Routing and loss, The events). Assumes nothing.
use Rattle.std.specs.Prelude.{◌≡◌, refl, Bool, true, false, cond, not, ◌&&◌, ◌||◌, List, [], ◌∷◌, ◌++◌, ℕ, ◌+◌, ◌%◌, ◌^◌, ◌≤◌, ◌<◌, ltb, leb, eqb, length, take, drop}
use Rattle.std.proofs.Common.{sym, ◌∙◌, subst, append_assoc, append-nil, le_refl, le_trans, add_assoc, arith, length-append, length-take-le, take-add, drop_at, drop-drop, ltb-true, ltb-false, eqb-true, lt-ltb}
use Rattle.std.proofs.Math.Path.{ap}
use Rattle.std.proofs.Math.Dec.{eqb-suc-zero}
use Rattle.std.proofs.lemmas.Bool.{not-false}
use Rattle.octets.specs.Splice.{splice, splice_take, splice_there, splice_length}
use Rattle.refusals.specs.Refusal.{or_false}
use Rattle.record.specs.declared.Release.{Release}
use Rattle.record.specs.declared.RecordHeader.{RecordHeader}
use Rattle.record.specs.Release.{rank}
use Rattle.record.specs.Record.{Record, record_octets, records_octets, RightRecord, AllRight}
use Rattle.record.specs.HeaderOctets.{record_length}
use Rattle.cdrfile.specs.File.{File}
use Rattle.state.specs.declared.RouteSettings.{RouteSettings}
use Rattle.state.specs.declared.Route.{Route}
use Rattle.state.specs.Size.{header_size}
use Rattle.state.specs.Bounds.{same_release}
use Rattle.events.specs.declared.Arrival.{Arrival}
use Rattle.events.specs.Rules.{opened_route, closed_route, lost_route, noted_route, appended_route, later, earlier, high_with, low_with, differs, exceeds, full, due, ending, record_size}
use Rattle.events.specs.Receive.{record_of}
use Rattle.ledger.specs.Ledger.{OpenFile, Current, none, some, Line, is_open, greatest, highest, least, lowest, size_of, open_line, close_line, with_current, received_line, lost_line, noted_line, append_to, due_file, differs_one, differs_from, exceeds_with, full_with}
use Rattle.ledger.proofs.Agrees.{Formats, AgreesOpen, AgreesFile, AgreesLine}

-- Which file is open.
module _ {store : List ℕ} {b : ℕ} {r : Route} {x : Line} (a : AgreesLine store b r x) where
  pub line_closed : x.current ≡ none → r.«open» ≡ false
  line_closed e = subst (AgreesFile store b r) e a.file

  pub line_live : {f : OpenFile} → x.current ≡ some f → AgreesOpen store b r f
  line_live e = subst (AgreesFile store b r) e a.file

  open_by : (c : Current) → AgreesFile store b r c → r.«open» ≡ is_open c
  open_by none e = e
  open_by (some f) o = o.live

  pub open_same : r.«open» ≡ is_open x.current
  open_same = open_by x.current a.file

-- Opening, closing, losing and noting.
module _ {store : List ℕ} {b : ℕ} {r : Route} {x : Line} (a : AgreesLine store b r x) where
  pub open_agrees : (t : ℕ) → AgreesLine store b (opened_route r t) (open_line x t)
  unfolding records_octets
  open_agrees t =
      record {
        settings = a.settings;
        next = ap (λ (n : ℕ). (n + 1) % 2 ^ 32) a.next;
        losses = a.losses;
        unrouted = a.unrouted;
        file =
            record {
              live = refl;
              sequence = a.next;
              opened = refl;
              appended = refl;
              high = refl;
              low = refl;
              count = refl;
              octets = refl;
              formats = tt;
              stands = refl;
              right = tt;
              held = omega (arith, a.next, a.held_next);
            };
        held = a.held;
        held_next = omega arith;
      }

  pub close_agrees : (file : File) → AgreesLine store b (closed_route r) (close_line x file)
  close_agrees file =
      record { settings = a.settings; next = a.next; losses = refl; unrouted = refl; file = refl; held = a.held; held_next = a.held_next }

  pub received_agrees : AgreesLine store b r (received_line x)
  received_agrees =
      record { settings = a.settings; next = a.next; losses = a.losses; unrouted = a.unrouted; file = a.file; held = a.held; held_next = a.held_next }

-- a file agrees whatever the route's loss counters
file_kept : (store : List ℕ) (b : ℕ) (r : Route) (losses unrouted : ℕ) (c : Current) → AgreesFile store b r c
    → AgreesFile store b (record { settings = r.settings; next = r.next; losses = losses; unrouted = unrouted; «open» = r.«open»; file = r.file }) c
file_kept store b r losses unrouted none e = e
file_kept store b r losses unrouted (some f) o =
    record {
      live = o.live;
      sequence = o.sequence;
      opened = o.opened;
      appended = o.appended;
      high = o.high;
      low = o.low;
      count = o.count;
      octets = o.octets;
      formats = o.formats;
      stands = o.stands;
      right = o.right;
      held = o.held;
    }

module _ {store : List ℕ} {b : ℕ} {r : Route} {x : Line} (a : AgreesLine store b r x) where
  pub lost_agrees : AgreesLine store b (lost_route r) (lost_line x)
  lost_agrees =
      record {
        settings = a.settings;
        next = a.next;
        losses = ap (λ (n : ℕ). n + 1) a.losses;
        unrouted = a.unrouted;
        file = file_kept store b r (r.losses + 1) r.unrouted x.current a.file;
        held = a.held;
        held_next = a.held_next;
      }

  pub noted_agrees : AgreesLine store b (noted_route r) (noted_line x)
  noted_agrees =
      record {
        settings = a.settings;
        next = a.next;
        losses = a.losses;
        unrouted = ap (λ (n : ℕ). n + 1) a.unrouted;
        file = file_kept store b r r.losses (r.unrouted + 1) x.current a.file;
        held = a.held;
        held_next = a.held_next;
      }

-- Records with one more behind them.
pub octets_snoc : (rs : List Record) (y : Record) → records_octets (rs ++ (y ∷ [])) ≡ records_octets rs ++ record_octets y
unfolding records_octets
octets_snoc [] y = append-nil (record_octets y)
octets_snoc (x ∷ rs) y =
    ap (λ (l : List ℕ). record_octets x ++ l) (octets_snoc rs y) ∙ sym (append_assoc (record_octets x) (records_octets rs) (record_octets y))

pub right_snoc : (rs : List Record) (y : Record) → AllRight rs → RightRecord y → AllRight (rs ++ (y ∷ []))
right_snoc [] y a p = (p, tt)
right_snoc (x ∷ rs) y a p = (a.0, right_snoc rs y a.1 p)

pub formats_snoc : (k : ℕ) (rs : List Record) (y : Record) → Formats k rs → y.header.format ≡ k → Formats k (rs ++ (y ∷ []))
formats_snoc k [] y a p = (p, tt)
formats_snoc k (x ∷ rs) y a p = (a.0, formats_snoc k rs y a.1 p)

-- the same, where the format of no records says nothing
formats_with : (k : ℕ) (rs : List Record) (y : Record) → Formats k rs → (0 < length rs → k ≡ y.header.format)
    → Formats y.header.format (rs ++ (y ∷ []))
formats_with k [] y a p = (refl, tt)
formats_with k (x ∷ rs) y a p =
    formats_snoc y.header.format (x ∷ rs) y (subst (λ (n : ℕ). Formats n (x ∷ rs)) (p (omega arith)) a) refl

greatest_snoc : (a : Release) (rs : List Record) (y : Record) → greatest a (rs ++ (y ∷ [])) ≡ later (greatest a rs) y.header.release
greatest_snoc a [] y = refl
greatest_snoc a (x ∷ rs) y = greatest_snoc (later a x.header.release) rs y

least_snoc : (a : Release) (rs : List Record) (y : Record) → least a (rs ++ (y ∷ [])) ≡ earlier (least a rs) y.header.release
least_snoc a [] y = refl
least_snoc a (x ∷ rs) y = least_snoc (earlier a x.header.release) rs y

module _ (c : Release) where
  pub highest_snoc : (rs : List Record) (y : Record)
      → highest c (rs ++ (y ∷ [])) ≡ cond (eqb (length rs) 0) y.header.release (later (highest c rs) y.header.release)
  highest_snoc [] y = refl
  highest_snoc (x ∷ rs) y =
      greatest_snoc x.header.release rs y
      ∙ ap (λ (t : Bool). cond t y.header.release (later (highest c (x ∷ rs)) y.header.release)) (sym (eqb-suc-zero (length rs)))

  pub lowest_snoc : (rs : List Record) (y : Record)
      → lowest c (rs ++ (y ∷ [])) ≡ cond (eqb (length rs) 0) y.header.release (earlier (lowest c rs) y.header.release)
  lowest_snoc [] y = refl
  lowest_snoc (x ∷ rs) y =
      least_snoc x.header.release rs y
      ∙ ap (λ (t : Bool). cond t y.header.release (earlier (lowest c (x ∷ rs)) y.header.release)) (sym (eqb-suc-zero (length rs)))

-- how long a record is, as the manager counts it
pub record_size_lem : (a : Arrival) (body : List ℕ) → record_size a (length body) ≡ length (record_octets (record_of a body))
record_size_lem a body = sym (record_length (record_of a body))

-- The store: what is written behind n elements from b on lengthens them.
part_of : (n b : ℕ) (l : List ℕ) → b ≤ length l → take n (drop b l) ≡ drop b (take (b + n) l)
part_of n b l h =
    sym (ap (drop b) (take-add b n l) ∙ drop_at (take b l) (take n (drop b l)) b (length-take-le b l h))

pub store_snoc : (store : List ℕ) (b n : ℕ) (ys : List ℕ) → b + n + length ys ≤ length store
    → take (n + length ys) (drop b (splice store (b + n) ys)) ≡ take n (drop b store) ++ ys
store_snoc store b n ys fits =
    let new = splice store (b + n) ys in
    let starts : b + n ≤ length store = omega arith in
    let long : b ≤ length new = omega (arith, splice_length store (b + n) ys fits) in
    let before : take n (drop b new) ≡ take n (drop b store) =
    part_of n b new long ∙ ap (drop b) (splice_take store (b + n) ys starts (b + n) (le_refl (b + n))) ∙ sym (part_of n b store (omega arith)) in
    let behind : take (length ys) (drop n (drop b new)) ≡ ys = ap (take (length ys)) (drop-drop n b new) ∙ splice_there store (b + n) ys starts in
    take-add n (length ys) (drop b new) ∙ (λ i. before i ++ behind i)

-- Appending.
module _ {store : List ℕ} {b : ℕ} {r : Route} {f : OpenFile} (o : AgreesOpen store b r f) (h : RecordHeader) (body : List ℕ) where
  pub high_agrees : high_with r.file h.release ≡ highest r.settings.release (f.records ++ (record { header = h; body = body } ∷ []))
  high_agrees =
      (λ i. cond (eqb (o.count i) 0) h.release (later (o.high i) h.release))
      ∙ sym (highest_snoc r.settings.release f.records (record { header = h; body = body }))

  pub low_agrees : low_with r.file h.release ≡ lowest r.settings.release (f.records ++ (record { header = h; body = body } ∷ []))
  low_agrees =
      (λ i. cond (eqb (o.count i) 0) h.release (earlier (o.low i) h.release))
      ∙ sym (lowest_snoc r.settings.release f.records (record { header = h; body = body }))

  pub octets_agree : r.file.octets + length (record_octets (record { header = h; body = body }))
      ≡ length (records_octets (f.records ++ (record { header = h; body = body } ∷ [])))
  octets_agree =
      let y : Record = record { header = h; body = body } in
      ap (λ (n : ℕ). n + length (record_octets y)) o.octets
      ∙ sym (ap length (octets_snoc f.records y) ∙ length-append (records_octets f.records) (record_octets y))

  pub count_agrees : r.file.count + 1 ≡ length (f.records ++ (record { header = h; body = body } ∷ []))
  count_agrees =
      let y : Record = record { header = h; body = body } in
      ap (λ (n : ℕ). n + 1) o.count ∙ sym (length-append f.records (y ∷ []))

  pub append_open : (t : ℕ) → RightRecord (record { header = h; body = body })
      → b + r.file.octets + length (record_octets (record { header = h; body = body })) ≤ length store
      → (0 < length f.records → r.file.format ≡ h.format)
      → AgreesOpen (splice store (b + r.file.octets) (record_octets (record { header = h; body = body }))) b
      (appended_route r h (length (record_octets (record { header = h; body = body }))) t) (append_to f (record { header = h; body = body }) t)
  append_open t right fits format =
      let y : Record = record { header = h; body = body } in
      record {
        live = o.live;
        sequence = o.sequence;
        opened = o.opened;
        appended = refl;
        high = high_agrees;
        low = low_agrees;
        count = count_agrees;
        octets = octets_agree;
        formats = formats_with r.file.format f.records y o.formats format;
        stands =
            store_snoc store b r.file.octets (record_octets y) fits
            ∙ ap (λ (l : List ℕ). l ++ record_octets y) o.stands
            ∙ sym (octets_snoc f.records y);
        right = right_snoc f.records y o.right right;
        held = o.held;
      }

pub append_agrees : {store : List ℕ} {b : ℕ} {r : Route} {x : Line} {f : OpenFile} → AgreesLine store b r x → AgreesOpen store b r f
    → (h : RecordHeader) (body : List ℕ) (t : ℕ) → RightRecord (record { header = h; body = body })
    → b + r.file.octets + length (record_octets (record { header = h; body = body })) ≤ length store
    → (0 < length f.records → r.file.format ≡ h.format)
    → AgreesLine (splice store (b + r.file.octets) (record_octets (record { header = h; body = body }))) b
    (appended_route r h (length (record_octets (record { header = h; body = body }))) t)
    (with_current x (some (append_to f (record { header = h; body = body }) t)))
append_agrees a o h body t right fits format =
    record {
      settings = a.settings;
      next = a.next;
      losses = a.losses;
      unrouted = a.unrouted;
      file = append_open o h body t right fits format;
      held = a.held;
      held_next = a.held_next;
    }

-- A file whose lowest and highest release are the same has that release in every record.

-- every record's release has the rank
abbrev Ranks : ℕ → List Record → Type 0
Ranks k [] = Unit {0}
Ranks k (x ∷ xs) = (rank x.header.release ≡ k) × Ranks k xs

later_from : (a b : Release) → (rank a ≤ rank (later a b)) × (rank b ≤ rank (later a b))
later_from a b = by_test (ltb (rank a) (rank b)) refl
  where
    by_test : (t : Bool) → ltb (rank a) (rank b) ≡ t → (rank a ≤ rank (cond t b a)) × (rank b ≤ rank (cond t b a))
    by_test true e = let l = ltb-true (rank a) (rank b) e in (omega arith, le_refl (rank b))
    by_test false e = (le_refl (rank a), ltb-false (rank a) (rank b) e)

earlier_to : (a b : Release) → (rank (earlier a b) ≤ rank a) × (rank (earlier a b) ≤ rank b)
earlier_to a b = by_test (ltb (rank b) (rank a)) refl
  where
    by_test : (t : Bool) → ltb (rank b) (rank a) ≡ t → (rank (cond t b a) ≤ rank a) × (rank (cond t b a) ≤ rank b)
    by_test true e = let l = ltb-true (rank b) (rank a) e in (omega arith, le_refl (rank b))
    by_test false e = (le_refl (rank a), ltb-false (rank b) (rank a) e)

squeezed : (p b a q k n : ℕ) → p ≤ b → b ≤ a → a ≤ q → p ≤ n → n ≤ q → p ≡ k → q ≡ k → (a ≡ k) × (b ≡ k) × (n ≡ k)
squeezed p b a q k n pb ba aq pn nq e f = (omega arith, omega arith, omega arith)

-- the search for both ends from a and b, which lie one above the other
one_rank : (k : ℕ) (a b : Release) (rs : List Record) → rank b ≤ rank a → rank (greatest a rs) ≡ k → rank (least b rs) ≡ k
    → (rank a ≡ k) × (rank b ≡ k) × Ranks k rs
one_rank k a b [] l g m = (g, m, tt)
one_rank k a b (x ∷ rs) l g m =
    let up = later_from a x.header.release in
    let down = earlier_to b x.header.release in
    let rest = one_rank k (later a x.header.release) (earlier b x.header.release) rs (le_trans down.0 (le_trans l up.0)) g m in
    let t = squeezed (rank (earlier b x.header.release)) (rank b) (rank a) (rank (later a x.header.release)) k (rank x.header.release) down.0 l up.0 down.1 up.1 rest.1 rest.0 in
    (t.0, t.1, (t.2, rest.2))

-- Decisions: records differ. All have the file's format, and with flag 1 its high (state's bounds make low and high the same), so each
-- differs from the new one exactly when the file's fields do.
flag_by : (t : Bool) (flag m n k : ℕ) → eqb flag 1 ≡ t → (flag ≡ 1 → m ≡ n) → (t && not (eqb m k)) ≡ (t && not (eqb n k))
flag_by true flag m n k e p = ap (λ (i : ℕ). not (eqb i k)) (p (eqb-true flag 1 e))
flag_by false flag m n k e p = refl

or_self : (t : Bool) → (t || t) ≡ t
or_self true = refl
or_self false = refl

or_none : (t : Bool) → (t || false) ≡ t
or_none true = refl
or_none false = refl

module _ (s : RouteSettings) (y : Record) (format k : ℕ) where
  abbrev fields_differ : Bool
  fields_differ = not (eqb format y.header.format) || (eqb s.flag 1 && not (eqb k (rank y.header.release)))

  one_differs : (x : Record) → x.header.format ≡ format → (s.flag ≡ 1 → rank x.header.release ≡ k) → differs_one s x y ≡ fields_differ
  one_differs x e f =
      let flag = flag_by (eqb s.flag 1) s.flag (rank x.header.release) k (rank y.header.release) refl f in
      λ i. not (eqb (e i) y.header.format) || flag i

  all_differ : (x : Record) (rs : List Record) → Formats format (x ∷ rs) → (s.flag ≡ 1 → Ranks k (x ∷ rs)) → differs_from s (x ∷ rs) y ≡ fields_differ
  all_differ x [] e f = (λ i. one_differs x e.0 (λ o. (f o).0) i || false) ∙ or_none fields_differ
  all_differ x (z ∷ rs) e f = (λ i. one_differs x e.0 (λ o. (f o).0) i || all_differ z rs e.1 (λ o. (f o).1) i) ∙ or_self fields_differ

module _ (r : Route) (h : RecordHeader) (body : List ℕ) (live : r.«open» ≡ true) (flagged : r.settings.flag ≡ 1 → rank r.file.low ≡ rank r.file.high) where
  differs_by : (rs : List Record) → r.file.count ≡ length rs → Formats r.file.format rs
      → r.file.high ≡ highest r.settings.release rs → r.file.low ≡ lowest r.settings.release rs
      → differs r h ≡ differs_from r.settings rs (record { header = h; body = body })
  differs_by [] count formats high low = rw (live, count)
  differs_by (x ∷ rs) count formats high low =
      let first = x.header.release in
      let some : ltb 0 r.file.count ≡ true = lt-ltb 0 r.file.count (omega arith) in
      let ranks : r.settings.flag ≡ 1 → Ranks (rank r.file.high) (x ∷ rs) =
      λ e.
      let t = one_rank (rank r.file.high) first first rs (le_refl (rank first)) (ap rank (sym high)) (ap rank (sym low) ∙ flagged e) in
      (t.0, t.2) in
      (λ i. (live i) && (some i) && fields_differ r.settings (record { header = h; body = body }) r.file.format (rank r.file.high))
      ∙ sym (all_differ r.settings (record { header = h; body = body }) r.file.format (rank r.file.high) x rs formats ranks)

-- a record that does not differ has the format of the file's records
pub same_format : {store : List ℕ} {b : ℕ} {r : Route} {f : OpenFile} → AgreesOpen store b r f → (h : RecordHeader) → differs r h ≡ false
    → 0 < length f.records → r.file.format ≡ h.format
same_format {r = r} o h e there =
    let some : ltb 0 r.file.count ≡ true = lt-ltb 0 r.file.count (omega (arith, o.count)) in
    let format = not (eqb r.file.format h.format) in
    let flag = eqb r.settings.flag 1 && not (same_release r.file.high h.release) in
    let test : (format || flag) ≡ false = sym (λ i. (o.live i) && (some i) && (format || flag)) ∙ e in
    eqb-true r.file.format h.format (not-false (eqb r.file.format h.format) (or_false format flag test).0)

module _ {store : List ℕ} {b : ℕ} {r : Route} {x : Line} {f : OpenFile} (a : AgreesLine store b r x) (o : AgreesOpen store b r f) (h : RecordHeader) (body : List ℕ) where
  pub differs_agrees : (r.settings.flag ≡ 1 → rank r.file.low ≡ rank r.file.high)
      → differs r h ≡ differs_from x.settings f.records (record { header = h; body = body })
  differs_agrees flagged =
      differs_by r h body o.live flagged f.records o.count o.formats o.high o.low
      ∙ ap (λ (s : RouteSettings). differs_from s f.records (record { header = h; body = body })) a.settings

  -- the file would be too long
  pub exceeds_agrees : exceeds r h (length (record_octets (record { header = h; body = body })))
      ≡ exceeds_with x.settings f.records (record { header = h; body = body })
  exceeds_agrees =
      let y : Record = record { header = h; body = body } in
      let n = length (record_octets y) in
      let size : header_size r.settings.octets (high_with r.file h.release) (low_with r.file h.release) + r.file.octets + n ≡ size_of r.settings (f.records ++ (y ∷ [])) =
      add_assoc (header_size r.settings.octets (high_with r.file h.release) (low_with r.file h.release)) r.file.octets n
      ∙ (λ i. header_size r.settings.octets (high_agrees o h body i) (low_agrees o h body i) + octets_agree o h body i) in
      (λ i. (o.live i) && ltb r.settings.limit (size i))
      ∙ ap (λ (s : RouteSettings). exceeds_with s f.records y) a.settings

  -- the file is full
  pub full_agrees : (n t : ℕ) → full (appended_route r h n t) ≡ full_with x.settings (f.records ++ (record { header = h; body = body } ∷ []))
  full_agrees n t =
      (λ i. ltb 0 r.settings.most && eqb (count_agrees o h body i) r.settings.most)
      ∙ ap (λ (s : RouteSettings). full_with s (f.records ++ (record { header = h; body = body } ∷ []))) a.settings

module _ {store : List ℕ} {b : ℕ} {r : Route} {x : Line} (a : AgreesLine store b r x) where
  -- the file is due
  pub due_agrees : {f : OpenFile} → AgreesOpen store b r f → (t : ℕ) → due t r ≡ due_file t x f
  due_agrees o t = λ i. (o.live i) && ltb 0 (a.settings i).age && leb (o.opened i + (a.settings i).age) t

  -- with no file open nothing differs, exceeds or ends
  module _ (closed : x.current ≡ none) where
    pub differs_closed : (h : RecordHeader) → differs r h ≡ false
    differs_closed h = rw (line_closed a closed)

    pub exceeds_closed : (h : RecordHeader) (n : ℕ) → exceeds r h n ≡ false
    exceeds_closed h n = rw (line_closed a closed)

    pub ending_closed : (t : ℕ) (met : Bool) → ending t r met ≡ false
    ending_closed t met = rw (line_closed a closed)
