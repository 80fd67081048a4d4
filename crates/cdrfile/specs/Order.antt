-- The test of high and low, which the reader and the writer share: refusal 13 (document 01, Reader and Refusals). That it says
-- what a right file asks of them is shown in roundtrip (Ordered.antt). Assumes nothing.
use Rattle.std.specs.Prelude.{Bool, cond, not, ◌&&◌, eqb, ltb}
use Rattle.record.specs.declared.Release.{Release}
use Rattle.record.specs.Release.{rank}
use Rattle.record.specs.Walk.{Tallied}

-- of what a walk found: with records high or low is not the greatest or least; without any low is above high
abbrev pub wrong_order : Release → Release → Tallied → Bool
wrong_order high low t = cond (eqb t.count 0) (ltb (rank high) (rank low)) (not (eqb (rank high) t.high && eqb (rank low) t.low))
