-- `timestamp::unpack` meets its contract: a mask of k ones takes the remainder by 2 ^ k.
-- Assumes nothing.
use Prim.Native.Nat.{◌/◌, ◌^◌}
use lib.Bits.{and_mask}
use Rattle.timestamp.specs.Timestamp.{fields_of}
use Rattle.timestamp.proofs.unpack.Goals as goal

pub returns : goal.returns
unfolding fields_of
returns c =
    let w = c.args.w in
    λ i. record {
      month = w / 2 ^ 28;
      day = and_mask (w / 2 ^ 23) 5 i;
      hour = and_mask (w / 2 ^ 18) 5 i;
      minute = and_mask (w / 2 ^ 12) 6 i;
      sign = and_mask (w / 2 ^ 11) 1 i;
      dev_hour = and_mask (w / 2 ^ 6) 5 i;
      dev_minute = and_mask w 6 i;
    }
