-- `timestamp::at` meets its contract, field by field: the date is the calendar's, the hours and minutes are the definition's own arithmetic.
-- Local time stays below 36,527 days, which the calendar requires. Assumes nothing.
use mathlib.Core.Path.{◌≡◌, ◌∙◌, refl}
use mathlib.Core.Bool.{Bool, true, false, cond}
use mir.Val.{bool_byte}
use lib.Dec.{leb}
use Prim.Native.Nat.{◌+◌, ◌/◌, ◌%◌}
use Rattle.timestamp.specs.LocalTime.{timestamp_of}
use Rattle.timestamp.proofs.at.Goals as goal

-- a test as a number
byte_is : (b : Bool) → bool_byte b ≡ cond b 1 0
byte_is true = refl
byte_is false = refl

pub returns : goal.returns
unfolding timestamp_of
returns c =
    let a = c.args in
    let t = a.minutes + a.bias + 1 in
    let date = c.local_date-date.ensures in
    let dev = c.abs_diff-deviation.ensures in
    λ i. record {
      month = (date i).month;
      day = (date i).day;
      hour = t % 1440 / 60;
      minute = t % 60;
      sign = (c.from.ensures ∙ byte_is (leb 1439 a.bias)) i;
      dev_hour = dev i / 60;
      dev_minute = dev i % 60;
    }
