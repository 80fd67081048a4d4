-- The reader takes every file that document 01 describes (Reader): a right file's octets meet none of 8 to 13, and the fields,
-- the filter, the private octets and the records that stand in them are the file's. Assumes nothing.
use Rattle.std.specs.Prelude.{◌≡◌, Bool, true, false, cond, not, List, [], ◌∷◌, ◌++◌, ℕ, ◌+◌, ◌*◌, ◌-◌, ◌/◌, ◌%◌, ◌^◌, ◌≤◌, ◌<◌, eqb, length, get_or, take, drop}
use Rattle.std.proofs.Math.Path.{refl}
use Rattle.std.proofs.Common.{sym, ap, ◌∙◌, subst, append-nil, mod-eq_of_lt, arith, length-append, length-drop, take_at, drop_at, drop-drop, get_or-drop, ne_eqb, eqb-true}
use Rattle.std.proofs.Math.Decide.{ℕ_discrete}
use Rattle.std.proofs.lemmas.Bool.{eqb-false}
use Rattle.octets.specs.Number.{be, num, octets_at, num_be, octets_all}
use Rattle.refusals.specs.Refusal.{both_false}
use Rattle.timestamp.specs.declared.Timestamp.{Timestamp}
use Rattle.timestamp.specs.Timestamp.{fields_of, word_of, Right, right_narrow, word_fits, fields_word, bounds_right}
use Rattle.record.specs.declared.Release.{Release}
use Rattle.record.specs.Release.{NarrowRelease, release_octet, extension_octets}
use Rattle.record.specs.Record.{Record, record_octets, records_octets}
use Rattle.record.specs.Format.{record_some, walks}
use Rattle.record.specs.Walk.{records, walk_of, tallied}
use Rattle.cdrfile.specs.declared.Header.{Header}
use Rattle.cdrfile.specs.Statement.{stated_none, stated_there}
use Rattle.cdrfile.specs.File.{File, fixed_octets, file_octets, layout, header_length, private_octets}
use Rattle.cdrfile.specs.Order.{wrong_order}
use Rattle.roundtrip.specs.Described.{RightFile}
use Rattle.cdrfile.specs.Laws.{file_length, private_none, private_some, private_some_length, extension_seven}
use Rattle.roundtrip.proofs.Ordered.{not_wrong}
use Rattle.reader.specs.declared.Part.{Part}
use Rattle.reader.specs.Places.{header_length_at, filter_length_at, extensions_of, plain_length, private_length_at, private_part, statement_at, extensions_at, header_at}
use Rattle.reader.specs.Reader.{wrong_length, wrong_header_length, wrong_value, header_of, body_of, contents_of, part_of}
use Rattle.reader.specs.Frame.{header_frame, right_frame, frame_on, plain_taken, private_taken}
use Rattle.reader.specs.Parts.{part_within}
use Rattle.roundtrip.proofs.Accepted.{Accepted}
use Rattle.roundtrip.specs.Handed.{listed, handed_back}

-- a number's octets give the number; the left side computes to the sum of the digits, as it does wherever they stand in a list
four : (n : ℕ) → n < 2 ^ 32 → num 4 (be 4 n) 0 ≡ n
four n h = num_be 4 n [] [] ∙ mod-eq_of_lt h

two : (n : ℕ) → n < 2 ^ 16 → num 2 (be 2 n) 0 ≡ n
two n h = num_be 2 n [] [] ∙ mod-eq_of_lt h

stamp : (t : Timestamp) → Right t → fields_of (num 4 (be 4 (word_of t)) 0) ≡ t
stamp t r = let n = right_narrow t r in ap fields_of (four (word_of t) (word_fits t n)) ∙ fields_word t n

-- what octets 1 to 50 say
record Fixed (xs : List ℕ) (total header count filter : ℕ) (h : Header) : Type 0 where
  is_total : num 4 xs 0 ≡ total
  is_header : num 4 xs 4 ≡ header
  is_high : get_or xs 8 0 ≡ release_octet h.high
  is_low : get_or xs 9 0 ≡ release_octet h.low
  is_opened : fields_of (num 4 xs 10) ≡ h.opened
  is_appended : fields_of (num 4 xs 14) ≡ h.appended
  is_count : num 4 xs 18 ≡ count
  is_sequence : num 4 xs 22 ≡ h.sequence
  is_reason : get_or xs 26 0 ≡ h.reason
  is_address : octets_at 20 xs 27 ≡ h.address
  is_lost : get_or xs 47 0 ≡ h.lost
  is_filter : num 2 xs 48 ≡ filter

fixed_again : (total header count filter : ℕ) (h : Header) (rest : List ℕ) → total < 2 ^ 32 → header < 2 ^ 32 → count < 2 ^ 32 → filter < 2 ^ 16
    → Right h.opened → Right h.appended → h.sequence < 2 ^ 32 → length h.address ≡ 20
    → Fixed (fixed_octets total header count filter h ++ rest) total header count filter h
unfolding fixed_octets
fixed_again total header count filter h rest t n c f o a s l =
    record {
      is_total = four total t;
      is_header = four header n;
      is_high = refl;
      is_low = refl;
      is_opened = stamp h.opened o;
      is_appended = stamp h.appended a;
      is_count = four count c;
      is_sequence = four h.sequence s;
      is_reason = refl;
      is_address = octets_all 20 h.address l;
      is_lost = refl;
      is_filter = two filter f;
    }

-- each record has octets, so that the number of CDRs is bounded by the file's length
count_most : (rs : List Record) → length rs ≤ length (records_octets rs)
unfolding records_octets
count_most [] = omega arith
count_most (r ∷ rs) = omega (arith, count_most rs, record_some r, length-append (record_octets r) (records_octets rs))

-- xs has n octets and then ys
record From (n : ℕ) (xs ys : List ℕ) : Type 0 where
  within : n ≤ length xs
  is : drop n xs ≡ ys

module _ {n : ℕ} {xs : List ℕ} where
  next : (a : List ℕ) {b : List ℕ} → From n xs (a ++ b) → From (n + length a) xs b
  next a {b} f =
      let l = length-drop n xs in
      let m = ap length f.is in
      let k = length-append a b in
      record {
        within = omega (arith, f.within);
        is = sym (drop-drop (length a) n xs) ∙ ap (drop (length a)) f.is ∙ drop_at a b (length a) refl;
      }

  from_octet : {y : ℕ} {ys : List ℕ} → From n xs (y ∷ ys) → get_or xs n 0 ≡ y
  from_octet f = let z : n ≡ n + 0 = omega arith in ap (λ (k : ℕ). get_or xs k 0) z ∙ sym (get_or-drop n xs 0 0) ∙ ap (λ (l : List ℕ). get_or l 0 0) f.is

from_two : {n : ℕ} {xs : List ℕ} (m : ℕ) {ys : List ℕ} → From n xs (be 2 m ++ ys) → m < 2 ^ 16 → num 2 xs n ≡ m
from_two m f h = let g = next (m / 256 % 256 ∷ []) f in (λ i. from_octet f i * 256 + (from_octet g i * 1 + 0)) ∙ two m h

-- what stands from n on is the part that starts there
from_part : {xs : List ℕ} (a b : List ℕ) (p : Part) → From p.start xs (a ++ b) → length a ≡ p.octets → part_of xs p ≡ a
from_part {xs} a b p f e =
    let l = length-drop p.start xs in
    let m = ap length f.is in
    let k = length-append a b in
    part_within xs p f.within (omega arith) ∙ ap (take p.octets) f.is ∙ take_at a b p.octets e

-- A release and its extension octet.
module _ (r : Release) where
  extensions_again : NarrowRelease r → {o : ℕ} → o ≡ release_octet r → extensions_of o ≡ length (extension_octets r)
  extensions_again n {o} e =
      let q : o / 32 ≡ r.release = omega (arith, n.version) in
      ap (λ (x : ℕ). cond (eqb x 7) 1 0) q ∙ counted (eqb r.release 7)
    where
      counted : (b : Bool) → cond b 1 0 ≡ length (cond b (r.extension ∷ []) [])
      counted true = refl
      counted false = refl

  from_extension : {n : ℕ} {xs : List ℕ} (post : List ℕ) → From n xs (extension_octets r ++ post) → r.release ≡ 7 → get_or xs n 0 ≡ r.extension
  from_extension {n} {xs} post f s = from_octet (subst (λ (l : List ℕ). From n xs (l ++ post)) (extension_seven r s) f)

  -- an absent extension is 0
  taken : NarrowRelease r → (b : Bool) → eqb r.release 7 ≡ b → {g : ℕ} → (r.release ≡ 7 → g ≡ r.extension) → cond b g 0 ≡ r.extension
  taken n true e h = h (eqb-true _ _ e)
  taken n false e h = sym (n.absent (eqb-false _ _ e))

  release_again : NarrowRelease r → {o g : ℕ} → o ≡ release_octet r → (r.release ≡ 7 → g ≡ r.extension)
      → record { release = o / 32; extension = cond (eqb (o / 32) 7) g 0; version = o % 32 } ≡ r
  release_again n {o} {g} e h =
      let a : o / 32 ≡ r.release = omega (arith, n.version) in
      let c : o % 32 ≡ r.version = omega (arith, n.version) in
      let b : cond (eqb (o / 32) 7) g 0 ≡ r.extension = ap (λ (x : ℕ). cond (eqb x 7) g 0) a ∙ taken n (eqb r.release 7) refl h in
      λ i. record { release = a i; extension = b i; version = c i }

nil_of : (xs : List ℕ) → length xs ≡ 0 → xs ≡ []
nil_of [] e = refl
nil_of (x ∷ xs) e = let z : ⊥ = omega arith in absurd z

-- what stands behind the private extension
abbrev extended : File → List ℕ
extended f = extension_octets f.header.high ++ (extension_octets f.header.low ++ records_octets f.records)

-- A file's octets xs, of which only this is known: so nothing computes.
record Laid (f : File) (xs : List ℕ) : Type 0 where
  says : Fixed xs (length xs) (header_length f.header f.filter f.private) (length f.records) (length f.filter) f.header
  behind : From 50 xs (f.filter ++ (private_octets f.header.statement f.private ++ extended f))
  short : length xs ≤ 1048576

module _ (f : File) (r : RightFile f) where
  -- the lengths and the count are within four octets
  laid_says : (n k : ℕ) → n + k ≤ 1048576 → length f.records ≤ k → (rest : List ℕ)
      → Fixed (fixed_octets (n + k) n (length f.records) (length f.filter) f.header ++ rest) (n + k) n (length f.records) (length f.filter) f.header
  laid_says n k most many rest =
      fixed_again (n + k) n (length f.records) (length f.filter) f.header rest (omega arith) (omega arith) (omega arith) (omega (arith, r.filter.0))
      r.opened r.appended r.sequence r.address.0

  long : length (layout f) ≡ header_length f.header f.filter f.private + length (records_octets f.records)
  long = file_length f.header f.filter f.private (records_octets f.records) (length f.records)

  small : header_length f.header f.filter f.private + length (records_octets f.records) ≤ 1048576
  small = omega (arith, r.size, long)

  laid_fixed : Fixed (layout f) (header_length f.header f.filter f.private + length (records_octets f.records)) (header_length f.header f.filter f.private) (length f.records) (length f.filter) f.header
  unfolding file_octets
  laid_fixed = laid_says (header_length f.header f.filter f.private) (length (records_octets f.records)) small (count_most f.records) _

  laid_behind : From 50 (layout f) (f.filter ++ (private_octets f.header.statement f.private ++ extended f))
  unfolding file_octets fixed_octets
  laid_behind = record { within = omega arith; is = refl }

  laid : Laid f (layout f)
  laid =
      record {
        says = subst (λ (t : ℕ). Fixed (layout f) t (header_length f.header f.filter f.private) (length f.records) (length f.filter) f.header) (sym long) laid_fixed;
        behind = laid_behind;
        short = r.size;
      }

-- the frame is right, and the private octets are where it says
record Framed (f : File) (xs : List ℕ) : Type 0 where
  length_right : wrong_length xs ≡ false
  header_right : wrong_header_length xs ≡ false
  part : Part
  is : private_part xs ≡ part
  is_statement : statement_at xs ≡ f.header.statement
  octets : length f.private ≡ part.octets
  there : From part.start xs (f.private ++ extended f)

-- What the reader finds in them.
module _ (f : File) (r : RightFile f) {xs : List ℕ} (l : Laid f xs) where
  -- the reader sees an extension octet exactly where one was written
  high_extensions : extensions_of (get_or xs 8 0) ≡ length (extension_octets f.header.high)
  high_extensions = extensions_again f.header.high r.high l.says.is_high

  low_extensions : extensions_of (get_or xs 9 0) ≡ length (extension_octets f.header.low)
  low_extensions = extensions_again f.header.low r.low l.says.is_low

  -- the header without a private extension
  plain_again : plain_length xs ≡ 50 + length f.filter + (length (extension_octets f.header.high) + length (extension_octets f.header.low))
  plain_again = λ i. 50 + l.says.is_filter i + (high_extensions i + low_extensions i)

  -- where the parts stand
  private_there : From (50 + length f.filter) xs (private_octets f.header.statement f.private ++ extended f)
  private_there = next f.filter l.behind

  extended_there : From (50 + length f.filter + length (private_octets f.header.statement f.private)) xs (extended f)
  extended_there = next (private_octets f.header.statement f.private) private_there

  records_there : From (header_length f.header f.filter f.private) xs (records_octets f.records)
  records_there = next (extension_octets f.header.low) (next (extension_octets f.header.high) extended_there)

  within : header_length_at xs ≤ length xs
  within = omega (arith, l.says.is_header, records_there.within)

  total : 50 ≤ length xs
  total = l.behind.within

  -- refusals 8 and 9 do not apply, and the frame's private part is q
  framed : (p : Part) (m : ℕ) → header_frame xs ≡ record { refusal = 0; header = header_length_at xs; filter = filter_length_at xs; statement = m; private = p }
      → m ≡ f.header.statement → (q : Part) → p ≡ q → length f.private ≡ q.octets → From q.start xs (f.private ++ extended f) → Framed f xs
  framed p m e stated q same octets there =
      let g = frame_on xs total l.short l.says.is_total ∙ e in
      let w = right_frame xs refl (λ i. (g i).refusal) in
      record {
        length_right = w.length_right;
        header_right = w.header_right;
        part = q;
        is = sym (λ i. (w.is i).private) ∙ (λ i. (g i).private) ∙ same;
        is_statement = sym (λ i. (w.is i).statement) ∙ (λ i. (g i).statement) ∙ stated;
        octets = octets;
        there = there;
      }

  -- with no private extension the header is no longer than its other parts
  framed_none : f.header.statement ≡ 0 → Framed f xs
  framed_none z =
      let nothing = private_none f.header.statement f.private z in
      let none = stated_none f.header.statement f.private r.statement z in
      let n = ap length nothing in
      framed (record { start = 50 + filter_length_at xs; octets = 0 }) 0
      (plain_taken xs within (l.says.is_header ∙ sym (plain_again ∙ omega arith)))
      (sym z)
      (record { start = 50 + length f.filter; octets = 0 })
      (λ i. record { start = 50 + l.says.is_filter i; octets = 0 })
      none
      (subst (λ (a : List ℕ). From (50 + length f.filter) xs (a ++ extended f)) (nothing ∙ sym (nil_of f.private none)) private_there)

  module _ (some : f.header.statement ≡ 0 → ⊥) where
    -- with one it is, and the octets' length stands before them, be it 0
    both_there : From (50 + length f.filter) xs (be 2 (length f.private) ++ (f.private ++ extended f))
    both_there = subst (λ (a : List ℕ). From (50 + length f.filter) xs (a ++ extended f)) (private_some f.header.statement f.private some) private_there

    private_length : private_length_at xs ≡ length f.private
    private_length = ap (λ (n : ℕ). num 2 xs (50 + n)) l.says.is_filter ∙ from_two (length f.private) both_there (omega (arith, r.private.0))

    framed_some : Framed f xs
    framed_some =
        let n = private_some_length f.header.statement f.private some in
        let s : header_length_at xs ≡ plain_length xs + 2 + private_length_at xs = omega (arith, l.says.is_header, plain_again, private_length) in
        let start : 50 + length f.filter + 2 ≡ 52 + length f.filter = omega arith in
        framed (record { start = 52 + filter_length_at xs; octets = private_length_at xs }) (cond (eqb (private_length_at xs) 0) 1 2)
        (private_taken xs (omega arith) within s)
        (ap (λ (k : ℕ). cond (eqb k 0) 1 2) private_length ∙ stated_there f.header.statement f.private r.statement some)
        (record { start = 52 + length f.filter; octets = length f.private })
        (λ i. record { start = 52 + l.says.is_filter i; octets = private_length i })
        refl
        (subst (λ (m : ℕ). From m xs (f.private ++ extended f)) start (next (be 2 (length f.private)) both_there))

  frame_again : Framed f xs
  frame_again = by_statement (ℕ_discrete f.header.statement 0)
    where
      by_statement : Dec (f.header.statement ≡ 0) → Framed f xs
      by_statement (yes z) = framed_none z
      by_statement (no some) = framed_some some

  -- the release extensions are where the reader looks for them
  high_there : From (extensions_at xs) xs (extended f)
  high_there =
      let w = frame_again in
      let e : w.part.start + length f.private ≡ extensions_at xs = ap (λ (n : ℕ). w.part.start + n) w.octets ∙ sym (λ i. (w.is i).start + (w.is i).octets) in
      subst (λ (n : ℕ). From n xs (extended f)) e (next f.private w.there)

  low_there : From (extensions_at xs + extensions_of (get_or xs 8 0)) xs (extension_octets f.header.low ++ records_octets f.records)
  low_there =
      subst (λ (n : ℕ). From (extensions_at xs + n) xs (extension_octets f.header.low ++ records_octets f.records)) (sym high_extensions)
      (next (extension_octets f.header.high) high_there)

  header_found : header_of xs ≡ f.header
  unfolding header_at
  header_found =
      let high = release_again f.header.high r.high l.says.is_high (from_extension f.header.high (extension_octets f.header.low ++ records_octets f.records) high_there) in
      let low = release_again f.header.low r.low l.says.is_low (from_extension f.header.low (records_octets f.records) low_there) in
      λ i. record {
        high = high i;
        low = low i;
        opened = l.says.is_opened i;
        appended = l.says.is_appended i;
        sequence = l.says.is_sequence i;
        reason = l.says.is_reason i;
        address = l.says.is_address i;
        lost = l.says.is_lost i;
        statement = frame_again.is_statement i;
      }

  value_again : wrong_value (header_of xs) (filter_length_at xs) (private_part xs) ≡ false
  value_again =
      let w = frame_again in
      let a = ap not (bounds_right f.header.opened r.opened) in
      let b = ap not (bounds_right f.header.appended r.appended) in
      let c = ne_eqb (length f.filter) 65535 (λ z. omega (arith, r.filter.0)) in
      let d = ne_eqb w.part.octets 65535 (λ z. omega (arith, r.private.0, w.octets)) in
      (λ i. wrong_value (header_found i) (l.says.is_filter i) (w.is i)) ∙ both_false (both_false (both_false a b) c) d

  body_again : body_of xs ≡ records_octets f.records
  body_again = ap (λ (n : ℕ). drop n xs) l.says.is_header ∙ records_there.is

  walk_again : walk_of (body_of xs) ≡ records f.records
  walk_again = walks (body_of xs) f.records r.records (sym body_again)

  completed : Accepted xs f.records
  completed =
      record {
        length_right = frame_again.length_right;
        header_right = frame_again.header_right;
        value_right = value_again;
        walk = walk_again;
        count = l.says.is_count;
        order = (λ i. wrong_order (header_found i).high (header_found i).low (tallied (records f.records))) ∙ not_wrong f.header.high f.header.low f.records r.ordered;
      }

  filter_again : part_of xs (record { start = 50; octets = filter_length_at xs }) ≡ f.filter
  filter_again = from_part f.filter (private_octets f.header.statement f.private ++ extended f) (record { start = 50; octets = filter_length_at xs }) l.behind (sym l.says.is_filter)

  private_again : part_of xs (private_part xs) ≡ f.private
  private_again = let w = frame_again in ap (part_of xs) w.is ∙ from_part f.private (extended f) w.part w.there w.octets

  -- the records are all that is left
  records_part : part_of xs (record { start = header_length_at xs; octets = length xs - header_length_at xs }) ≡ records_octets f.records
  records_part =
      let n = length-drop (header_length_at xs) xs in
      from_part (records_octets f.records) [] (record { start = header_length_at xs; octets = length xs - header_length_at xs })
      (record { within = within; is = body_again ∙ sym (append-nil (records_octets f.records)) })
      (sym (ap length body_again) ∙ n)

  records_again : listed (walk_of (part_of xs (record { start = header_length_at xs; octets = length xs - header_length_at xs }))) ≡ f.records
  records_again = ap (λ (b : List ℕ). listed (walk_of b)) (records_part ∙ sym body_again) ∙ ap listed walk_again

  handed : handed_back xs (contents_of xs) ≡ f
  handed = λ i. record { header = header_found i; filter = filter_again i; private = private_again i; records = records_again i }

module _ (f : File) (r : RightFile f) where
  -- none of 8 to 13 applies
  pub complete : Accepted (layout f) f.records
  complete = completed f r (laid f r)

  -- the header's fields are the file's
  pub header_again : header_of (layout f) ≡ f.header
  header_again = header_found f r (laid f r)

  -- and so is all that a caller gets back
  pub handed_again : handed_back (layout f) (contents_of (layout f)) ≡ f
  handed_again = handed f r (laid f r)
