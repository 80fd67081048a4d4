-- The files that the ledger lays out (document 01, File header, The ledger of demand 3): a route's closing writes the very file
-- that the ledger lays out, as long as the size rule says, and that file is one that document 01 describes. Assumes nothing.
use Rattle.std.specs.Prelude.{◌≡◌, refl, Bool, true, false, cond, List, [], ◌∷◌, ℕ, ◌+◌, ◌≤◌, ◌<◌, ◌^◌, max, min, eqb, ltb, length}
use Rattle.std.proofs.Common.{sym, ap, ◌∙◌, arith, lit<, length-take-le, ltb-true, ltb-false}
use Rattle.octets.specs.Number.{Octets, octets_cons, octets_take}
use Rattle.timestamp.specs.LocalTime.{timestamp_of, timestamp_right}
use Rattle.record.specs.declared.Release.{Release}
use Rattle.record.specs.Release.{NarrowRelease, rank}
use Rattle.record.specs.Record.{Record, AllRight, records_octets, highest as greatest_rank_of, lowest as least_rank_of}
use Rattle.record.specs.Order.{rank_small}
use Rattle.cdrfile.specs.File.{file_octets, layout}
use Rattle.roundtrip.specs.Described.{Ordered, RightFile}
use Rattle.cdrfile.specs.Laws.{file_length}
use Rattle.counts.specs.Counts.{count_octets}
use Rattle.counts.specs.Laws.{counts_octets}
use Rattle.state.specs.declared.RouteSettings.{RouteSettings}
use Rattle.state.specs.Manager.{Manager}
use Rattle.state.specs.Manager.{route_at, filter_of, base}
use Rattle.state.specs.Size.{header_size}
use Rattle.state.specs.Loss.{indicator}
use Rattle.filing.specs.Closing.{closed_file, closed_size, header_size_lem}
use Rattle.events.specs.Rules.{later, earlier}
use Rattle.ledger.specs.Ledger.{OpenFile, Line, Ledger, greatest, highest, least, lowest, size_of, file_from}
use Rattle.ledger.proofs.Agrees.{AgreesOpen, AgreesLine}

-- The greatest and the least release of some records have the greatest and the least place in the order.
module _ (a b : Release) where
  later_rank : rank (later a b) ≡ max (rank a) (rank b)
  later_rank = go (ltb (rank a) (rank b)) refl
    where
      go : (t : Bool) → ltb (rank a) (rank b) ≡ t → rank (cond t b a) ≡ max (rank a) (rank b)
      go true e = omega (arith, ltb-true (rank a) (rank b) e)
      go false e = omega (arith, ltb-false (rank a) (rank b) e)

  earlier_rank : rank (earlier a b) ≡ min (rank a) (rank b)
  earlier_rank = go (ltb (rank b) (rank a)) refl
    where
      go : (t : Bool) → ltb (rank b) (rank a) ≡ t → rank (cond t b a) ≡ min (rank a) (rank b)
      go true e = omega (arith, ltb-true (rank b) (rank a) e)
      go false e = omega (arith, ltb-false (rank b) (rank a) e)

  either_narrow : NarrowRelease a → NarrowRelease b → (t : Bool) → NarrowRelease (cond t b a)
  either_narrow m n true = n
  either_narrow m n false = m

max_regroup : (a b c : ℕ) → max (max a b) c ≡ max a (max b c)
max_regroup a b c = omega arith

min_regroup : (a b c : ℕ) → min (min a b) c ≡ min a (min b c)
min_regroup a b c = omega arith

max_none : (a : ℕ) → a ≡ max a 0
max_none a = omega arith

min_none : (a : ℕ) → a < 65536 → a ≡ min a 65535
min_none a h = omega arith

min_small : (a b n : ℕ) → n ≡ min a b → a < 65536 → n < 65536
min_small a b n e h = omega arith

-- from a release on
greatest_rank : (r : Release) (xs : List Record) → rank (greatest r xs) ≡ max (rank r) (greatest_rank_of xs)
unfolding greatest_rank_of
greatest_rank r [] = max_none (rank r)
greatest_rank r (x ∷ xs) =
    greatest_rank (later r x.header.release) xs
    ∙ ap (λ (n : ℕ). max n (greatest_rank_of xs)) (later_rank r x.header.release)
    ∙ max_regroup (rank r) (rank x.header.release) (greatest_rank_of xs)

least_rank : (r : Release) (xs : List Record) → rank r < 65536 → rank (least r xs) ≡ min (rank r) (least_rank_of xs)
unfolding least_rank_of
least_rank r [] h = min_none (rank r) h
least_rank r (x ∷ xs) h =
    let e = earlier_rank r x.header.release in
    least_rank (earlier r x.header.release) xs (min_small (rank r) (rank x.header.release) (rank (earlier r x.header.release)) e h)
    ∙ ap (λ (n : ℕ). min n (least_rank_of xs)) e
    ∙ min_regroup (rank r) (rank x.header.release) (least_rank_of xs)

greatest_narrow : (r : Release) (xs : List Record) → NarrowRelease r → AllRight xs → NarrowRelease (greatest r xs)
greatest_narrow r [] n a = n
greatest_narrow r (x ∷ xs) n a =
    let y = x.header.release in
    greatest_narrow (later r y) xs (either_narrow r y n a.0.release (ltb (rank r) (rank y))) a.1

least_narrow : (r : Release) (xs : List Record) → NarrowRelease r → AllRight xs → NarrowRelease (least r xs)
least_narrow r [] n a = n
least_narrow r (x ∷ xs) n a =
    let y = x.header.release in
    least_narrow (earlier r y) xs (either_narrow r y n a.0.release (ltb (rank y) (rank r))) a.1

-- of a file's records, or the configured release where there are none
module _ (c : Release) where
  pub highest_rank : (x : Record) (xs : List Record) → rank (highest c (x ∷ xs)) ≡ greatest_rank_of (x ∷ xs)
  unfolding greatest_rank_of
  highest_rank x xs = greatest_rank x.header.release xs

  pub lowest_rank : (x : Record) (xs : List Record) → AllRight (x ∷ xs) → rank (lowest c (x ∷ xs)) ≡ least_rank_of (x ∷ xs)
  unfolding least_rank_of
  lowest_rank x xs a = least_rank x.header.release xs (rank_small a.0.release)

  pub highest_narrow : (rs : List Record) → NarrowRelease c → AllRight rs → NarrowRelease (highest c rs)
  highest_narrow [] n a = n
  highest_narrow (x ∷ xs) n a = greatest_narrow x.header.release xs a.0.release a.1

  pub lowest_narrow : (rs : List Record) → NarrowRelease c → AllRight rs → NarrowRelease (lowest c rs)
  lowest_narrow [] n a = n
  lowest_narrow (x ∷ xs) n a = least_narrow x.header.release xs a.0.release a.1

  pub ordered_file : (rs : List Record) → AllRight rs → Ordered (highest c rs) (lowest c rs) rs
  ordered_file [] a = omega arith
  ordered_file (x ∷ xs) a = (highest_rank x xs, lowest_rank x xs a)

-- How long the ledger's file is.
pub size_is : (l : Ledger) (x : Line) (f : OpenFile) (reason : ℕ) → length x.settings.filter ≡ 20 → x.settings.octets ≤ 20
    → length (layout (file_from l x f reason)) ≡ size_of x.settings f.records
size_is l x f reason twenty most =
    let file = file_from l x f reason in
    let s = x.settings in
    let body = records_octets f.records in
    let n : length (filter_of s) ≡ s.octets = length-take-le s.octets s.filter (omega arith) in
    file_length file.header (filter_of s) (count_octets x.losses x.unrouted) body (length f.records)
    ∙ ap (λ (k : ℕ). k + length body) (header_size_lem file.header (filter_of s) x.losses x.unrouted refl)
    ∙ ap (λ (k : ℕ). header_size k file.header.high file.header.low + length body) n

-- A closing writes the ledger's file.
module _ (m : Manager) (store : List ℕ) (i reason : ℕ) (l : Ledger) (x : Line) (f : OpenFile)
    (a : AgreesLine store (base m i) (route_at m i) x) (o : AgreesOpen store (base m i) (route_at m i) f) where
  high_same : (route_at m i).file.high ≡ highest x.settings.release f.records
  high_same = o.high ∙ ap (λ (s : RouteSettings). highest s.release f.records) a.settings

  low_same : (route_at m i).file.low ≡ lowest x.settings.release f.records
  low_same = o.low ∙ ap (λ (s : RouteSettings). lowest s.release f.records) a.settings

  pub closed_same : m.bias ≡ l.bias → m.address ≡ l.address → closed_file m store i reason ≡ layout (file_from l x f reason)
  unfolding closed_file
  closed_same bias address =
      let high = high_same in
      let low = low_same in
      let opened = o.opened in
      let appended = o.appended in
      let sequence = o.sequence in
      let losses = a.losses in
      let unrouted = a.unrouted in
      let settings = a.settings in
      let stands = o.stands in
      let count = o.count in
      λ j. file_octets
      (record {
        high = high j;
        low = low j;
        opened = timestamp_of (opened j) (bias j);
        appended = timestamp_of (appended j) (bias j);
        sequence = sequence j;
        reason = reason;
        address = 0xFF ∷ 0xFF ∷ 0xFF ∷ 0xFF ∷ address j;
        lost = indicator (losses j) (ltb 0 (unrouted j));
        statement = 2;
      })
      (filter_of (settings j))
      (count_octets (losses j) (unrouted j))
      (stands j)
      (count j)

  pub closed_size_lem : x.settings.octets ≤ 20 → closed_size (route_at m i) ≡ length (layout (file_from l x f reason))
  closed_size_lem most =
      let high = high_same in
      let low = low_same in
      let settings = a.settings in
      let octets = o.octets in
      let twenty : length x.settings.filter ≡ 20 = sym (ap (λ (s : RouteSettings). length s.filter) settings) ∙ a.held.filter in
      let same : closed_size (route_at m i) ≡ size_of x.settings f.records =
      λ j. header_size (settings j).octets (high j) (low j) + octets j in
      same ∙ sym (size_is l x f reason twenty most)

-- The ledger's file is right.
pub record Fileable (l : Ledger) (x : Line) (f : OpenFile) (code : ℕ) : Type 0 where
  pub records : AllRight f.records
  pub release : NarrowRelease x.settings.release
  pub most : x.settings.octets ≤ 20
  pub twenty : length x.settings.filter ≡ 20
  pub filter : Octets x.settings.filter
  pub opened : f.opened < 52596000
  pub appended : f.appended < 52596000
  pub bias : l.bias < 2879
  pub sequence : f.sequence < 2 ^ 32
  pub reason : code < 256
  pub address : (length l.address ≡ 16) × Octets l.address
  pub size : size_of x.settings f.records ≤ 1048576

pub indicator_small : (n : ℕ) (u : Bool) → indicator n u < 256
indicator_small n false = go (eqb n 0)
  where
    go : (t : Bool) → cond t 0 (128 + min n 127) < 256
    go true = lit< tt
    go false = omega arith
indicator_small n true = go (eqb n 0)
  where
    go : (t : Bool) → cond t 128 (min n 127) < 256
    go true = lit< tt
    go false = omega arith

module _ (l : Ledger) (x : Line) (f : OpenFile) (reason : ℕ) (h : Fileable l x f reason) where
  pub file_right_lem : RightFile (file_from l x f reason)
  file_right_lem =
      let s = x.settings in
      let n : length (filter_of s) ≡ s.octets = length-take-le s.octets s.filter (omega (arith, h.most, h.twenty)) in
      let ff : 0xFF < 256 = lit< tt in
      record {
        high = highest_narrow s.release f.records h.release h.records;
        low = lowest_narrow s.release f.records h.release h.records;
        opened = timestamp_right f.opened l.bias h.opened h.bias;
        appended = timestamp_right f.appended l.bias h.appended h.bias;
        sequence = h.sequence;
        reason = h.reason;
        address = (omega (arith, h.address.0), octets_cons ff (octets_cons ff (octets_cons ff (octets_cons ff h.address.1))));
        lost = indicator_small x.losses (ltb 0 x.unrouted);
        statement = refl;
        filter = (omega (arith, n, h.most), octets_take s.octets h.filter);
        private = (omega arith, counts_octets x.losses x.unrouted);
        records = h.records;
        ordered = ordered_file s.release f.records h.records;
        size = omega (arith, size_is l x f reason h.twenty h.most, h.size);
      }
