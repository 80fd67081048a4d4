-- A timestamp's word and what makes a timestamp right: document 01, Timestamps (000, 6.1.1.5), and document 02, ask 2.
-- The word is the sum of the fields by powers of two, and the fields come back by quotients and remainders: nobody need read bit operations.
-- Stricter than the standard, the day must exist in its month; 29 February always does, since no year is written. As in the standard, either
-- sign is right, also where the deviation is 0, and is kept as read.
-- The sign is no part of `right`, since one bit has no wrong value; where it comes from elsewhere, `Right` and `Narrow` bound it.
-- Laws: tests and bounds agree, a right timestamp fits its bits, and word and fields are each other's inverse. Assumes nothing.
use Rattle.std.specs.Prelude.{◌≡◌, Bool, true, List, [], ◌∷◌, leb, ltb}
use Prim.Native.Nat.{ℕ, ◌+◌, ◌*◌, ◌/◌, ◌%◌, ◌^◌, ◌<◌, ◌≤◌}
use native.Mathlib.Omega.{arith}
use Rattle.std.proofs.Common.{leb-true, le-leb, ltb-true, lt-ltb}
use Rattle.refusals.specs.Tests.{all_of, each}
use Rattle.calendar.specs.Calendar.{longest}
use Rattle.calendar.specs.Bound.{longest_le}
use Rattle.timestamp.specs.declared.Timestamp.{Timestamp}

-- each field within its bits, from the top bit: month 4, day 5, hour 5, minute 6, sign 1, deviation hours 5, deviation minutes 6
pub record Narrow (t : Timestamp) : Type 0 where
  pub month : t.month < 2 ^ 4
  pub day : t.day < 2 ^ 5
  pub hour : t.hour < 2 ^ 5
  pub minute : t.minute < 2 ^ 6
  pub sign : t.sign < 2 ^ 1
  pub dev_hour : t.dev_hour < 2 ^ 5
  pub dev_minute : t.dev_minute < 2 ^ 6

abbrev narrow_tests : Timestamp → List Bool
narrow_tests t =
    ltb t.month (2 ^ 4)
    ∷ ltb t.day (2 ^ 5)
    ∷ ltb t.hour (2 ^ 5)
    ∷ ltb t.minute (2 ^ 6)
    ∷ ltb t.sign (2 ^ 1)
    ∷ ltb t.dev_hour (2 ^ 5)
    ∷ ltb t.dev_minute (2 ^ 6)
    ∷ []

-- the test of the same
abbrev pub narrow : Timestamp → Bool
narrow t = all_of (narrow_tests t)

-- the word: each field by the power of two that the bits below it make
unfoldable pub word_of : Timestamp → ℕ
word_of t =
    t.month * 2 ^ 28 + t.day * 2 ^ 23 + t.hour * 2 ^ 18 + t.minute * 2 ^ 12 + t.sign * 2 ^ 11 + t.dev_hour * 2 ^ 6 + t.dev_minute

-- the fields of a word below 2 ^ 32
unfoldable pub fields_of : ℕ → Timestamp
fields_of w =
    record {
      month = w / 2 ^ 28;
      day = w / 2 ^ 23 % 2 ^ 5;
      hour = w / 2 ^ 18 % 2 ^ 5;
      minute = w / 2 ^ 12 % 2 ^ 6;
      sign = w / 2 ^ 11 % 2 ^ 1;
      dev_hour = w / 2 ^ 6 % 2 ^ 5;
      dev_minute = w % 2 ^ 6;
    }

-- month is 1 to 12, day 1 to the month's longest, hours 0 to 23, minutes 0 to 59, both deviations likewise
abbrev right_tests : Timestamp → List Bool
right_tests t =
    leb 1 t.month
    ∷ leb t.month 12
    ∷ leb 1 t.day
    ∷ leb t.day (longest t.month)
    ∷ leb t.hour 23
    ∷ leb t.minute 59
    ∷ leb t.dev_hour 23
    ∷ leb t.dev_minute 59
    ∷ []

-- a timestamp read is right
abbrev pub right : Timestamp → Bool
right t = all_of (right_tests t)

-- the same as bounds, with that of the sign
pub record Right (t : Timestamp) : Type 0 where
  pub month_low : 1 ≤ t.month
  pub month_high : t.month ≤ 12
  pub day_low : 1 ≤ t.day
  pub day_high : t.day ≤ longest t.month
  pub hour : t.hour ≤ 23
  pub minute : t.minute ≤ 59
  pub sign : t.sign < 2
  pub dev_hour : t.dev_hour ≤ 23
  pub dev_minute : t.dev_minute ≤ 59

module _ (t : Timestamp) where
  -- the tests say what the bounds say
  pub narrow_bounds : narrow t ≡ true → Narrow t
  narrow_bounds e =
      let test = each (narrow_tests t) e in
      record {
        month = ltb-true _ _ (test 0);
        day = ltb-true _ _ (test 1);
        hour = ltb-true _ _ (test 2);
        minute = ltb-true _ _ (test 3);
        sign = ltb-true _ _ (test 4);
        dev_hour = ltb-true _ _ (test 5);
        dev_minute = ltb-true _ _ (test 6);
      }

  pub bounds_narrow : Narrow t → narrow t ≡ true
  bounds_narrow n =
      rw (
        lt-ltb _ _ n.month,
        lt-ltb _ _ n.day,
        lt-ltb _ _ n.hour,
        lt-ltb _ _ n.minute,
        lt-ltb _ _ n.sign,
        lt-ltb _ _ n.dev_hour,
        lt-ltb _ _ n.dev_minute,
      )

  pub right_bounds : right t ≡ true → t.sign < 2 → Right t
  right_bounds e s =
      let test = each (right_tests t) e in
      record {
        month_low = leb-true _ _ (test 0);
        month_high = leb-true _ _ (test 1);
        day_low = leb-true _ _ (test 2);
        day_high = leb-true _ _ (test 3);
        hour = leb-true _ _ (test 4);
        minute = leb-true _ _ (test 5);
        sign = s;
        dev_hour = leb-true _ _ (test 6);
        dev_minute = leb-true _ _ (test 7);
      }

  pub bounds_right : Right t → right t ≡ true
  bounds_right r =
      rw (
        le-leb _ _ r.month_low,
        le-leb _ _ r.month_high,
        le-leb _ _ r.day_low,
        le-leb _ _ r.day_high,
        le-leb _ _ r.hour,
        le-leb _ _ r.minute,
        le-leb _ _ r.dev_hour,
        le-leb _ _ r.dev_minute,
      )

  -- a right timestamp fits its bits
  pub right_narrow : Right t → Narrow t
  right_narrow r = omega (arith, longest_le t.month)

  -- the same of one that the test finds right
  pub tested_narrow : right t ≡ true → t.sign < 2 → Narrow t
  tested_narrow e s = right_narrow (right_bounds e s)

  -- a timestamp that fits its bits has a word of 32 bits
  pub word_fits : Narrow t → word_of t < 2 ^ 32
  unfolding word_of
  word_fits n = omega arith

  -- and that word's fields are the timestamp's
  pub fields_word : Narrow t → fields_of (word_of t) ≡ t
  unfolding word_of fields_of
  fields_word n =
      let w : ℕ = word_of t in
      let a : w / 2 ^ 28 ≡ t.month = omega arith in
      let b : w / 2 ^ 23 % 2 ^ 5 ≡ t.day = omega arith in
      let c : w / 2 ^ 18 % 2 ^ 5 ≡ t.hour = omega arith in
      let d : w / 2 ^ 12 % 2 ^ 6 ≡ t.minute = omega arith in
      let e : w / 2 ^ 11 % 2 ^ 1 ≡ t.sign = omega arith in
      let f : w / 2 ^ 6 % 2 ^ 5 ≡ t.dev_hour = omega arith in
      let g : w % 2 ^ 6 ≡ t.dev_minute = omega arith in
      λ i. record { month = a i; day = b i; hour = c i; minute = d i; sign = e i; dev_hour = f i; dev_minute = g i }

-- the fields of a word of 32 bits fit theirs
pub narrow_fields : (w : ℕ) → w < 2 ^ 32 → Narrow (fields_of w)
unfolding fields_of
narrow_fields w h = omega arith

-- the fields pushed in one by one, with a name for each part of the word
joined : (t : Timestamp) {a b c d e w : ℕ} → t.month * 2 ^ 5 + t.day ≡ a → a * 2 ^ 5 + t.hour ≡ b → b * 2 ^ 6 + t.minute ≡ c
    → c * 2 ^ 1 + t.sign ≡ d → d * 2 ^ 5 + t.dev_hour ≡ e → e * 2 ^ 6 + t.dev_minute ≡ w → word_of t ≡ w
unfolding word_of
joined t i j k l m n = omega arith

-- a word's fields make the word again
pub word_fields : (w : ℕ) → w < 2 ^ 32 → word_of (fields_of w) ≡ w
unfolding fields_of
word_fields w h =
    joined (fields_of w) {a = w / 2 ^ 23} {b = w / 2 ^ 18} {c = w / 2 ^ 12} {d = w / 2 ^ 11} {e = w / 2 ^ 6}
    (omega arith) (omega arith) (omega arith) (omega arith) (omega arith) (omega arith)
