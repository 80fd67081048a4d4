-- Right fields are found again at the places that the reader takes them from (Reading): the laws under the reader's
-- completeness. Assumes nothing.
use Rattle.std.specs.Prelude.{◌≡◌, Bool, true, false, cond, not, ◌&&◌, ℕ, zero, suc, ◌+◌, ◌-◌, ◌*◌, ◌^◌, ◌≤◌, ◌<◌, eqb, leb, ltb, get_or, drop}
use Rattle.std.proofs.Math.Path.{refl}
use Rattle.std.proofs.Common.{sym, ap, ◌∙◌, true≢false, mod-eq_of_lt, arith, length-append, get_or-append-add, eq-eqb, ne_eqb, eqb-true, leb-true, lt-ltb, le-ltb}
use mathlib.Core.List.{List, [], ◌∷◌, ◌++◌, append_assoc}
use Rattle.std.proofs.Math.Decide.{dec_lt}
use Rattle.std.proofs.Math.ListN.{length, get_or-append}
use Rattle.std.proofs.lemmas.List.{get_or_at}
use Rattle.std.proofs.Math.Seq.{take_at, drop-append-add}
use Rattle.refusals.specs.Tests.{both, each}
use Rattle.filename.specs.declared.Fields.{Fields}
use Rattle.filename.specs.Name.{letter_or_digit, plain, fields_tests, fields_right, private_right, right, delimiter, sign_octet, closing, private_part, spelled}
use Rattle.numerals.specs.Decimal.{digits, width, decimal, digits_length, width_holds, width_most}
use Rattle.filename.specs.Decimal.{value_digits}
use Rattle.filename.specs.Cases.{right_node, right_fields, right_private, node_short}
use Rattle.filename.specs.Reading.{before, value_at, node_length, count_place, count_length, closing_place, fields_of, node_of, private_of}

-- at most n octets
pub before_most : (stop : ℕ) (xs : List ℕ) (k n : ℕ) → before stop xs k n ≤ n
before_most stop xs k zero = omega arith
before_most stop xs k (suc n) =
    most (before_most stop xs k n) (eqb (before stop xs k n) n && not (eqb (get_or xs (k + n) 0) stop))
  where
    most : before stop xs k n ≤ n → (b : Bool) → cond b (suc n) (before stop xs k n) ≤ suc n
    most h true = omega arith
    most h false = omega arith

-- all octets count that are no stop
pub before_all : (stop : ℕ) (xs : List ℕ) (k n : ℕ) → ((i : ℕ) → i < n → get_or xs (k + i) 0 ≡ stop → ⊥) → before stop xs k n ≡ n
before_all stop xs k zero h = refl
before_all stop xs k (suc n) h =
    let e = before_all stop xs k n (λ i l. h i (omega arith)) in
    rw (e, eq-eqb n n refl, ne_eqb (get_or xs (k + n) 0) stop (h n (omega arith)))

-- and none from the first stop on, at w
stop_ends : (b : Bool) (n m : ℕ) → cond (b && false) n m ≡ m
stop_ends true n m = refl
stop_ends false n m = refl

before_stops : (stop : ℕ) (xs : List ℕ) (k w d : ℕ) → ((i : ℕ) → i < w → get_or xs (k + i) 0 ≡ stop → ⊥) → get_or xs (k + w) 0 ≡ stop → before stop xs k (d + w) ≡ w
before_stops stop xs k w zero h s = let e : 0 + w ≡ w = omega arith in ap (before stop xs k) e ∙ before_all stop xs k w h
before_stops stop xs k w (suc zero) h s =
    let e : suc zero + w ≡ suc w = omega arith in
    ap (before stop xs k) e
    ∙ ap (λ (b : Bool). cond (eqb (before stop xs k w) w && not b) (suc w) (before stop xs k w)) (eq-eqb (get_or xs (k + w) 0) stop s)
    ∙ stop_ends (eqb (before stop xs k w) w) (suc w) (before stop xs k w)
    ∙ before_all stop xs k w h
before_stops stop xs k w (suc (suc d)) h s =
    let e : suc (suc d) + w ≡ suc (suc d + w) = omega arith in
    let past = before_stops stop xs k w (suc d) h s in
    ap (before stop xs k) e
    ∙ ap (λ (b : Bool). cond (b && not (eqb (get_or xs (k + (suc d + w)) 0) stop)) (suc (suc d + w)) (before stop xs k (suc d + w))) (ne_eqb (before stop xs k (suc d + w)) (suc d + w) (λ z. absurd (let q : ⊥ = omega arith in q)))
    ∙ past

pub before_is : (stop : ℕ) (xs : List ℕ) (k w n : ℕ) → w ≤ n → ((i : ℕ) → i < w → get_or xs (k + i) 0 ≡ stop → ⊥) → get_or xs (k + w) 0 ≡ stop → before stop xs k n ≡ w
before_is stop xs k w n l h s =
    let e : n - w + w ≡ n = omega arith in
    ap (before stop xs k) (sym e) ∙ before_stops stop xs k w (n - w) h s

-- each octet of a plain part is a letter or digit
pub plain_each : (xs : List ℕ) (n i : ℕ) → plain xs n ≡ true → i < n → letter_or_digit (get_or xs i 0) ≡ true
plain_each xs zero i e l = let z : ⊥ = omega arith in absurd z
plain_each xs (suc n) i e l =
    let t = both (plain xs n) (letter_or_digit (get_or xs n 0)) e in
    by (dec_lt i n) (λ h. plain_each xs n i t.0 h) t.1
  where
    by : Dec (i < n) → (i < n → letter_or_digit (get_or xs i 0) ≡ true) → letter_or_digit (get_or xs n 0) ≡ true → letter_or_digit (get_or xs i 0) ≡ true
    by (yes h) f g = f h
    by (no h) f g = let e : i ≡ n = omega arith in rw e g

-- and so no underscore
pub plain_other : (xs : List ℕ) (n i : ℕ) → plain xs n ≡ true → i < n → get_or xs i 0 ≡ 95 → ⊥
plain_other xs n i e l z = true≢false (sym (plain_each xs n i e l) ∙ ap letter_or_digit z)

-- a decimal digit is no point
pub digit_least : (w n i : ℕ) → i < w → 48 ≤ get_or (digits w n) i 0
digit_least zero n i l = let z : ⊥ = omega arith in absurd z
digit_least (suc w) n zero l = omega arith
digit_least (suc w) n (suc i) l = digit_least w n i (omega arith)

-- a number behind a part
pub value_behind : (w : ℕ) (a xs : List ℕ) (k : ℕ) → value_at w (a ++ xs) (length a + k) ≡ value_at w xs k
value_behind zero a xs k = refl
value_behind (suc w) a xs k =
    let e : length a + k + 1 ≡ length a + (k + 1) = omega arith in
    (λ i. (get_or-append-add a xs k 0 i - 48) * 10 ^ w + (ap (value_at w (a ++ xs)) e ∙ value_behind w a xs (k + 1)) i)

-- a sign that was written is read again
sign_kept : (s : ℕ) → s ≤ 1 → cond (eqb (sign_octet s) 43) 1 0 ≡ s
sign_kept zero h = refl
sign_kept (suc zero) h = refl
sign_kept (suc (suc s)) h = let z : ⊥ = omega arith in absurd z

-- a private part that is there has a point at least, one that is not has nothing
has_kept : (n has : ℕ) (private : List ℕ) → has ≤ 1 → cond (ltb n (n + length (private_part has private))) 1 0 ≡ has
has_kept n zero private h = rw (le-ltb n (n + 0) (omega arith))
has_kept n (suc zero) private h = rw (lt-ltb n (n + suc (length private)) (omega arith))
has_kept n (suc (suc s)) private h = let z : ⊥ = omega arith in absurd z

none : (xs : List ℕ) → length xs ≡ 0 → [] ≡ xs
none [] e = refl
none (x ∷ xs) e = let z : ⊥ = omega arith in absurd z

-- behind its point is the private part
private_kept : (has : ℕ) (private : List ℕ) → has ≤ 1 → private_right has private ≡ true → drop 1 (private_part has private) ≡ private
private_kept zero private h r = none private (eqb-true (length private) 0 r)
private_kept (suc zero) private h r = refl
private_kept (suc (suc s)) private h r = let z : ⊥ = omega arith in absurd z

-- The octets of a name, part by part.
module _ (f : Fields) (node private : List ℕ) where
  abbrev tail : List ℕ
  tail = private_part f.has private

  abbrev name : List ℕ
  name = node ++ (delimiter ++ (decimal f.count ++ (closing f ++ tail)))

  -- what stands before the running count, and before the closing
  abbrev start : List ℕ
  start = node ++ delimiter

  abbrev front : List ℕ
  front = (node ++ delimiter) ++ decimal f.count

  from_start : name ≡ start ++ (decimal f.count ++ (closing f ++ tail))
  from_start = sym (append_assoc node delimiter (decimal f.count ++ (closing f ++ tail)))

  from_front : name ≡ front ++ (closing f ++ tail)
  from_front = from_start ∙ sym (append_assoc start (decimal f.count) (closing f ++ tail))

  start_length : length start ≡ length node + 3
  start_length = length-append node delimiter

  front_length : length front ≡ length node + 3 + width f.count
  front_length = length-append start (decimal f.count) ∙ (λ i. start_length i + digits_length (width f.count) f.count i)

  module _ (short : length node ≤ 20) (letters : plain node (length node) ≡ true) where
    node_found : node_length name ≡ length node
    node_found =
        before_is 95 name 0 (length node) 20 short
        (λ i l z.
        let e : 0 + i ≡ i = omega arith in
        plain_other node (length node) i letters l (sym (get_or-append node (delimiter ++ (decimal f.count ++ (closing f ++ tail))) 0 i l) ∙ ap (λ (k : ℕ). get_or name k 0) (sym e) ∙ z))
        (let e : 0 + length node ≡ length node = omega arith in
        ap (λ (k : ℕ). get_or name k 0) e ∙ get_or_at node 95 (45 ∷ 95 ∷ (decimal f.count ++ (closing f ++ tail))) 0 (length node) refl)

    place_found : count_place name ≡ length node + 3
    place_found = ap (λ (k : ℕ). k + 3) node_found

    -- an octet of the running count
    digit_at : (i : ℕ) → i < width f.count → get_or name (length node + 3 + i) 0 ≡ get_or (decimal f.count) i 0
    digit_at i l =
        (λ j. get_or (from_start j) (sym start_length j + i) 0)
        ∙ get_or-append-add start (decimal f.count ++ (closing f ++ tail)) i 0
        ∙ get_or-append (decimal f.count) (closing f ++ tail) 0 i (rw (digits_length (width f.count) f.count) l)

    count_found : count_length name ≡ width f.count
    count_found =
        ap (λ (k : ℕ). before 46 name k 10) place_found
        ∙ before_is 46 name (length node + 3) (width f.count) 10 (width_most 9 f.count)
        (λ i l z. let m = digit_least (width f.count) f.count i l in let e = digit_at i l in let q : ⊥ = omega arith in q)
        (ap (λ (k : ℕ). get_or name k 0) (sym front_length) ∙ ap (λ (l : List ℕ). get_or l (length front) 0) from_front ∙ get_or_at front 46 _ 0 (length front) refl)

    closing_found : closing_place name ≡ length front
    closing_found = (λ i. place_found i + count_found i) ∙ sym front_length

    count_read : f.count ≤ 4294967295 → value_at (count_length name) name (count_place name) ≡ f.count
    count_read small =
        let w : ℕ = width f.count in
        (λ i. value_at (count_found i) (from_start i) ((place_found ∙ sym start_length) i))
        ∙ value_digits w f.count start (closing f ++ tail)
        ∙ mod-eq_of_lt (width_holds 9 f.count (omega arith))

    -- a number of the closing, w digits behind its first octets
    closing_value : (w k n : ℕ) (a r : List ℕ) → closing f ++ tail ≡ a ++ (digits w n ++ r) → length a ≡ k → n < 10 ^ w → value_at w name (closing_place name + k) ≡ n
    closing_value w k n a r e l h =
        (λ i. value_at w (from_front i) (closing_found i + k))
        ∙ value_behind w front (closing f ++ tail) k
        ∙ (λ i. value_at w (e i) (sym l i))
        ∙ value_digits w n a r
        ∙ mod-eq_of_lt h

    sign_found : f.sign ≤ 1 → cond (eqb (get_or name (closing_place name + 16) 0) 43) 1 0 ≡ f.sign
    sign_found h =
        (λ i. cond (eqb (get_or (from_front i) (closing_found i + 16) 0) 43) 1 0)
        ∙ ap (λ (o : ℕ). cond (eqb o 43) 1 0) (get_or-append-add front (closing f ++ tail) 16 0)
        ∙ sign_kept f.sign h

    name_length : length name ≡ length front + 21 + length tail
    name_length = ap length from_front ∙ length-append front (closing f ++ tail) ∙ omega arith

    has_found : f.has ≤ 1 → cond (ltb (closing_place name + 21) (length name)) 1 0 ≡ f.has
    has_found h = (λ i. cond (ltb (closing_found i + 21) (name_length i)) 1 0) ∙ has_kept (length front + 21) f.has private h

    private_found : f.has ≤ 1 → private_right f.has private ≡ true → drop (closing_place name + 22) name ≡ private
    private_found h r =
        (λ i. drop (closing_found i + 22) (from_front i))
        ∙ drop-append-add front (closing f ++ tail) 22
        ∙ private_kept f.has private h r

-- the bounds of right fields
pub record Ranges (f : Fields) : Type 0 where
  pub count : f.count ≤ 4294967295
  pub year : f.year < 10 ^ 4
  pub month : f.month < 10 ^ 2
  pub day : f.day < 10 ^ 2
  pub hour : f.hour < 10 ^ 2
  pub minute : f.minute < 10 ^ 2
  pub sign : f.sign ≤ 1
  pub dev_hour : f.dev_hour < 10 ^ 2
  pub dev_minute : f.dev_minute < 10 ^ 2
  pub has : f.has ≤ 1

pub ranges : (f : Fields) → fields_right f ≡ true → Ranges f
unfolding fields_right
ranges f e =
    let t = each (fields_tests f) e in
    let below : (n m : ℕ) → leb n m ≡ true → n < m + 1 = λ n m h. let l = leb-true n m h in omega arith in
    record {
      count = leb-true f.count 4294967295 (t 1);
      year = let l = below f.year 2100 (t 3) in omega arith;
      month = let l = below f.month 12 (t 5) in omega arith;
      day = let l = below f.day 31 (t 7) in omega arith;
      hour = let l = below f.hour 23 (t 8) in omega arith;
      minute = let l = below f.minute 59 (t 9) in omega arith;
      sign = leb-true f.sign 1 (t 10);
      dev_hour = let l = below f.dev_hour 23 (t 11) in omega arith;
      dev_minute = let l = below f.dev_minute 59 (t 12) in omega arith;
      has = leb-true f.has 1 (t 13);
    }

-- right fields, node identifier and private part are what is read from their spelling
module _ (f : Fields) (node private : List ℕ) (e : right f node private ≡ true) where
  abbrev in_range : Ranges f
  in_range = ranges f (right_fields f node private e)

  abbrev short : length node ≤ 20
  short = node_short node (right_node f node private e)

  abbrev letters : plain node (length node) ≡ true
  letters = (both (leb 1 (length node) && leb (length node) 20) (plain node (length node)) (right_node f node private e)).1

  pub fields_read : fields_of (spelled f node private) ≡ f
  unfolding fields_of spelled
  fields_read =
      let at : (w k n : ℕ) (a r : List ℕ) → closing f ++ private_part f.has private ≡ a ++ (digits w n ++ r) → length a ≡ k → n < 10 ^ w
      → value_at w (name f node private) (closing_place (name f node private) + k) ≡ n = closing_value f node private short letters in
      λ i.
      record {
        count = count_read f node private short letters in_range.count i;
        year = at 4 1 f.year (46 ∷ []) _ refl refl in_range.year i;
        month = at 2 5 f.month (46 ∷ digits 4 f.year) _ refl refl in_range.month i;
        day = at 2 7 f.day (46 ∷ (digits 4 f.year ++ digits 2 f.month)) _ refl refl in_range.day i;
        hour = at 2 12 f.hour (46 ∷ (digits 4 f.year ++ digits 2 f.month ++ digits 2 f.day ++ delimiter)) _ refl refl in_range.hour i;
        minute =
            at 2 14 f.minute (46 ∷ (digits 4 f.year ++ digits 2 f.month ++ digits 2 f.day ++ delimiter ++ digits 2 f.hour)) _ refl refl in_range.minute i;
        sign = sign_found f node private short letters in_range.sign i;
        dev_hour =
            at 2 17 f.dev_hour
            (46 ∷ (digits 4 f.year ++ digits 2 f.month ++ digits 2 f.day ++ delimiter ++ digits 2 f.hour ++ digits 2 f.minute ++ (sign_octet f.sign ∷ [])))
            _ refl refl in_range.dev_hour i;
        dev_minute =
            at 2 19 f.dev_minute
            (46 ∷ (digits 4 f.year ++ digits 2 f.month ++ digits 2 f.day ++ delimiter ++ digits 2 f.hour ++ digits 2 f.minute ++ (sign_octet f.sign ∷ []) ++ digits 2 f.dev_hour))
            _ refl refl in_range.dev_minute i;
        has = has_found f node private short letters in_range.has i;
      }

  pub node_read : node_of (spelled f node private) ≡ node
  unfolding node_of spelled
  node_read = take_at node (delimiter ++ (decimal f.count ++ (closing f ++ private_part f.has private))) _ (sym (node_found f node private short letters))

  pub private_read : private_of (spelled f node private) ≡ private
  unfolding private_of spelled
  private_read = private_found f node private short letters in_range.has (right_private f node private e)
