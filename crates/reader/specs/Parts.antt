-- The cases of a part of a file. Assumes nothing.
use Rattle.std.specs.Prelude.{◌≡◌, refl, Bool, true, false, ◌&&◌, List, [], ℕ, ◌-◌, ◌≤◌, ◌<◌, length, take, drop, leb}
use borrow.Author.Tests.{le-leb, lt-leb}
use Rattle.reader.specs.declared.Part.{Part}
use Rattle.reader.specs.Reader.{part_of}

and_false : (a : Bool) {b : Bool} → b ≡ false → (a && b) ≡ false
and_false true e = e
and_false false e = refl

module _ (xs : List ℕ) (p : Part) where
  pub part_past : length xs < p.start → part_of xs p ≡ []
  unfolding part_of
  part_past h = rw (lt-leb _ _ h)

  pub part_over : length xs - p.start < p.octets → part_of xs p ≡ []
  unfolding part_of
  part_over h = rw (and_false (leb p.start (length xs)) (lt-leb _ _ h))

  pub part_within : p.start ≤ length xs → p.octets ≤ length xs - p.start → part_of xs p ≡ take p.octets (drop p.start xs)
  unfolding part_of
  part_within a b = rw (le-leb _ _ a, le-leb _ _ b)
