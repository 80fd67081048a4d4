-- FILE NAMES (document 02, ask 1), stated alone: read this file without its proof (Proof.antt).
--
-- In plain words. A set of fields is the numbers, the node identifier and the private part; the name of a right set is its spelling. Of any
-- octets, sets of fields and outputs each clause of `Names` says:
--
-- `accepted`: the reader accepts octets exactly when they are the name of a right set of fields.
-- `refused`: any other octets get refusal 20, and zeros for the fields and lengths.
-- `handed_back_lem`: the set that the reader hands back of octets that it accepts is right, and its name is these octets.
-- `only_these`: of the name of a right set the reader hands back this set, so that no other has the name.
-- `apart`: two right sets with one name are the same set.
-- `written`: the writer puts the name of a right set over the start of an output that is long enough, answers the name's length, and the octets behind it stay.
-- `wrong`: a set that is not right gets refusal 20, whatever the output's length, and the output stays.
-- `too_long`: a right set with a name longer than the output gets refusal 21, and the output stays.
-- `written_read`: the reader accepts what the writer wrote, and hands back the set that was written.
-- `read_written`: what the reader accepts, the writer writes again into an output that is long enough, octet for octet, and the octets behind it stay.
--
-- `read_of` and `write_of` are the definitions that the contracts of filename::read and filename::write cite, over every input;
-- `right` and `spelled` (Name) are the grammar.
use Rattle.std.specs.Prelude.{◌≡◌, true, ◌↔◌, List, ◌++◌, ℕ, ◌-◌, ◌≤◌, ◌<◌, length, take, drop}
use Rattle.filename.specs.declared.Fields.{Fields}
use Rattle.filename.specs.Name.{right, spelled}
use Rattle.filename.specs.Writing.{After, after, answered, write_of}
use Rattle.filename.specs.Reading.{no_name, read_of}

-- a set of fields: the numbers, the node identifier and the private part
pub record Parts : Type 0 where
  pub fields : Fields
  pub node : List ℕ
  pub private : List ℕ

abbrev pub Right : Parts → Type 0
Right p = right p.fields p.node p.private ≡ true

abbrev pub spelling : Parts → List ℕ
spelling p = spelled p.fields p.node p.private

-- a right name
abbrev pub Named : List ℕ → Type 0
Named xs = (p : Parts) × Right p × (spelling p ≡ xs)

-- what a caller takes from the reader's answer: the node identifier begins the name, the private part ends it
abbrev pub handed_back : List ℕ → Parts
handed_back xs =
    record {
      fields = (read_of xs).fields;
      node = take (read_of xs).node xs;
      private = drop (length xs - (read_of xs).private) xs;
    }

-- a call of the writer
abbrev pub writing : Parts → List ℕ → After
writing p output = write_of p.fields p.node p.private output

pub record Names : Type 0 where
  -- the reader accepts exactly the right names
  pub accepted : (xs : List ℕ) → ((read_of xs).refusal ≡ 0) ↔ Named xs
  -- and answers all others with 20 and zeros
  pub refused : (xs : List ℕ) → (Named xs → ⊥) → read_of xs ≡ no_name
  -- what it hands back is right and has this name
  pub handed_back_lem : (xs : List ℕ) → (read_of xs).refusal ≡ 0 → Right (handed_back xs) × (spelling (handed_back xs) ≡ xs)
  -- and is the only set that has
  pub only_these : (p : Parts) → Right p → handed_back (spelling p) ≡ p
  -- two sets of fields with one name are one set
  pub apart : (p q : Parts) → Right p → Right q → spelling p ≡ spelling q → p ≡ q
  -- the writer writes right fields where they fit, and the octets behind the name stay
  pub written : (p : Parts) (output : List ℕ) → Right p → length (spelling p) ≤ length output
      → writing p output ≡ after (answered 0 (length (spelling p))) (spelling p ++ drop (length (spelling p)) output)
  -- 20 goes before 21, and both leave the output unchanged
  pub wrong : (p : Parts) (output : List ℕ) → (Right p → ⊥) → writing p output ≡ after (answered 20 0) output
  pub too_long : (p : Parts) (output : List ℕ) → Right p → length output < length (spelling p) → writing p output ≡ after (answered 21 0) output
  -- what the writer wrote is read back
  pub written_read : (p : Parts) (output : List ℕ) → (writing p output).answer.refusal ≡ 0
      → ((read_of (take (writing p output).answer.octets (writing p output).output)).refusal ≡ 0)
      × (handed_back (take (writing p output).answer.octets (writing p output).output) ≡ p)
  -- what the reader accepts, the writer writes again, octet for octet
  pub read_written : (xs output : List ℕ) → (read_of xs).refusal ≡ 0 → length xs ≤ length output
      → writing (handed_back xs) output ≡ after (answered 0 (length xs)) (xs ++ drop (length xs) output)
