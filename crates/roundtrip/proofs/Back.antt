-- What the reader hands back of an accepted file is the file that its octets say. Assumes nothing.
use Rattle.std.specs.Prelude.{◌≡◌, refl, List, ℕ, zero, suc, ◌-◌, length}
use Rattle.std.proofs.Common.{ap, ◌∙◌, arith}
use Rattle.record.specs.Record.{Record}
use Rattle.record.specs.Walk.{walk_of, part_from}
use Rattle.reader.specs.Places.{header_length_at, filter_length_at, private_part}
use Rattle.reader.specs.Reader.{body_of, part_of, verdict, settled, contents_of, read_of}
use Rattle.reader.specs.Frame.{sized, records_begin}
use Rattle.reader.specs.Parts.{part_within}
use Rattle.roundtrip.specs.Handed.{listed, handed_back}
use Rattle.roundtrip.proofs.Accepted.{Accepted}
use Rattle.roundtrip.proofs.Sound.{file_at}

-- the answer's number is the verdict
settled_number : (n : ℕ) (xs : List ℕ) → (settled n xs).refusal ≡ n
settled_number zero xs = refl
settled_number (suc n) xs = refl

pub read_number : (xs : List ℕ) → (read_of xs).refusal ≡ verdict xs
unfolding read_of
read_number xs = settled_number (verdict xs) xs

module _ {xs : List ℕ} (rs : List Record) (a : Accepted xs rs) where
  pub records_back : part_of xs (record { start = header_length_at xs; octets = length xs - header_length_at xs }) ≡ body_of xs
  records_back =
      let s = sized xs a.length_right a.header_right in
      part_within xs _ s.within (omega arith) ∙ part_from xs (header_length_at xs)

  pub back : handed_back xs (contents_of xs) ≡ file_at xs rs
  back =
      let s = sized xs a.length_right a.header_right in
      let b = records_begin xs s in
      let filter = part_within xs (record { start = 50; octets = filter_length_at xs }) s.long (omega (arith, s.within, s.sum)) in
      let private = part_within xs (private_part xs) (omega (arith, b, s.within)) (omega (arith, b, s.within)) in
      λ i. record { header = (contents_of xs).header; filter = filter i; private = private i; records = ((λ j. listed (walk_of (records_back j))) ∙ ap listed a.walk) i }
