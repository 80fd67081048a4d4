-- The timestamp of a minute at a node's offset from UTC: document 01, Timestamps (000, 6.1.1.5).
-- Minutes count from 2000-01-01 00:00 UTC, 0 to 52,595,999. The offset is carried as `bias`, the offset and 1,439, as the settings of document 01 carry it: 0 to 2,878.
-- So local time counts from 1999-12-31 00:00, and no number is negative. Stricter than the standard: offset 0 is written with plus, where that leaves the sign free.
-- Assumes nothing.
use Rattle.std.specs.Prelude.{◌≡◌, Bool, true, false, cond, ℕ, ◌+◌, ◌*◌, ◌-◌, ◌/◌, ◌%◌, ◌^◌, ◌<◌, leb}
use Rattle.std.proofs.Common.{arith, lit<}
use Rattle.calendar.specs.Calendar.{date_of}
use Rattle.calendar.specs.Bound.{date_bounded}
use Rattle.timestamp.specs.declared.Timestamp.{Timestamp}
use Rattle.timestamp.specs.Timestamp.{Narrow, Right, word_of, right_narrow, word_fits}

-- the local time in minutes from 1999-12-31 00:00: minutes + 1,440, plus the offset, which is bias - 1,439
abbrev pub local_time : ℕ → ℕ → ℕ
local_time minutes bias = minutes + bias + 1

-- how far the offset is from 0
abbrev pub deviation : ℕ → ℕ
deviation bias = (bias - 1439) + (1439 - bias)

unfoldable pub timestamp_of : ℕ → ℕ → Timestamp
timestamp_of minutes bias =
    record {
      month = (date_of (local_time minutes bias / 1440)).month;
      day = (date_of (local_time minutes bias / 1440)).day;
      hour = local_time minutes bias % 1440 / 60;
      minute = local_time minutes bias % 60;
      sign = cond (leb 1439 bias) 1 0;
      dev_hour = deviation bias / 60;
      dev_minute = deviation bias % 60;
    }

-- its hour and minute are the minute of the local day
pub local_minute : (minutes bias : ℕ) → (timestamp_of minutes bias).hour * 60 + (timestamp_of minutes bias).minute ≡ local_time minutes bias % 1440
unfolding timestamp_of
local_minute minutes bias = omega arith

sign_lt : (t : Bool) → cond t 1 0 < 2
sign_lt true = lit< tt
sign_lt false = lit< tt

module _ (minutes bias : ℕ) (in_time : minutes < 52596000) (in_day : bias < 2879) where
  -- the timestamp of a minute in range, at an offset in range, is right
  pub timestamp_right : Right (timestamp_of minutes bias)
  unfolding timestamp_of
  timestamp_right =
      let date = date_bounded (local_time minutes bias / 1440) (omega arith) in
      record {
        month_low = date.month_low;
        month_high = date.month_high;
        day_low = date.day_low;
        day_high = date.day_high;
        hour = omega arith;
        minute = omega arith;
        sign = sign_lt (leb 1439 bias);
        dev_hour = omega arith;
        dev_minute = omega arith;
      }

  -- so it fits its bits, and its word 32
  pub timestamp_narrow : Narrow (timestamp_of minutes bias)
  timestamp_narrow = right_narrow (timestamp_of minutes bias) timestamp_right

  pub timestamp_word : word_of (timestamp_of minutes bias) < 2 ^ 32
  timestamp_word = word_fits (timestamp_of minutes bias) timestamp_narrow
