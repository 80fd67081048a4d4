-- Names by evaluation of the definitions that the contracts cite (000, 6.2; document 02, ask 1), with names as text: the clause's examples; the
-- octets beside the letters and digits; each range at its ends and beside them; the marks and digits in their places; and what the writer makes
-- of right fields and of wrong ones.
use Rattle.std.specs.Prelude.{◌≡◌, refl, List, [], ◌∷◌, ◌++◌, ℕ, replicate}
use Prim.Native.String.{String}
use Rattle.octets.specs.Splice.{splice}
use Rattle.numerals.specs.Text.{ascii}
use Rattle.filename.specs.declared.Fields.{Fields}
use Rattle.filename.specs.declared.Name.{Name}
use Rattle.filename.specs.Name.{fields_right, right, spelled}
use Rattle.filename.specs.Reading.{fields_of, node_of, private_of, same, no_name, judged, read_of}
use Rattle.filename.specs.Writing.{After, after, answered, verdict, write_of}

abbrev fields : (count year month day hour minute sign dev_hour dev_minute has : ℕ) → Fields
fields count year month day hour minute sign dev_hour dev_minute has =
    record {
      count = count;
      year = year;
      month = month;
      day = day;
      hour = hour;
      minute = minute;
      sign = sign;
      dev_hour = dev_hour;
      dev_minute = dev_minute;
      has = has;
    }

-- what a name says: the lengths of its node identifier and of its private part, and its fields
abbrev says : ℕ → ℕ → Fields → Name
says node private f = record { refusal = 0; node = node; private = private; fields = f }

abbrev Reads : String → Name → Type 0
Reads text name = read_of (ascii text) ≡ name

-- it is no name: refusal 20
abbrev NoName : String → Type 0
NoName text = read_of (ascii text) ≡ no_name

-- The examples of the clause.
pub record Examples : Type 0 where
  -- file 1234 of 1 April 2005, 23:15 local time, two hours ahead of UTC
  pub first : Reads "CGFNodeId_-_1234.20050401_-_2315+0200" (says 9 0 (fields 1234 2005 4 1 23 15 1 2 0 0))
  -- as printed, with an extension: refusal 20
  pub second : NoName "CGFNodeId_-_44.20051224_-_1700-1130.thankgoditschristmas.abc"
  -- file 44 of 24 December 2005, 17:00 local time, eleven hours and a half behind UTC, with private information
  pub second_without : Reads "CGFNodeId_-_44.20051224_-_1700-1130.thankgoditschristmas" (says 9 20 (fields 44 2005 12 24 17 0 0 11 30 1))
  -- with an extension and an empty private part: refusal 20
  pub third : NoName "CGFNodeId_-_44.20051224_-_1700-1130..abc"

pub examples : Examples
unfolding read_of judged right fields_right spelled same fields_of node_of private_of
examples = record { first = refl; second = refl; second_without = refl; third = refl }

-- The edges of ask 1 stand in names that have the least of all else: node A, count 1, 1 January 1999, 00:00, +0000.
abbrev least : Fields
least = fields 1 1999 1 1 0 0 1 0 0 0

abbrev least_private : Fields
least_private = fields 1 1999 1 1 0 0 1 0 0 1

-- names with this node identifier, and with this private part
abbrev with_node : List ℕ → List ℕ
with_node node = node ++ ascii "_-_1.19990101_-_0000+0000"

abbrev with_private : List ℕ → List ℕ
with_private private = ascii "A_-_1.19990101_-_0000+0000." ++ private

-- what is read of an octet as the first of two in the node identifier, and as the last of two in the private part
abbrev both : ℕ → List Name
both c = read_of (with_node (c ∷ 65 ∷ [])) ∷ read_of (with_private (65 ∷ c ∷ [])) ∷ []

abbrev Taken : ℕ → Type 0
Taken c = both c ≡ says 2 0 least ∷ says 1 2 least_private ∷ []

abbrev Refused : ℕ → Type 0
Refused c = both c ≡ no_name ∷ no_name ∷ []

abbrev pub Letters : Type 0
Letters =
    -- 0 to 9
    Refused 0x2F × Taken 0x30 × Taken 0x39 × Refused 0x3A
    -- A to Z
    × Refused 0x40 × Taken 0x41 × Taken 0x5A × Refused 0x5B
    -- a to z
    × Refused 0x60 × Taken 0x61 × Taken 0x7A × Refused 0x7B
    -- A and z with the top bit: above ASCII there are no letters
    × Refused 0xC1 × Refused 0xFA
    -- the octet beside A in the other places: between two letters, last in the node identifier, first in the private part
    × (read_of (with_node (65 ∷ 0x40 ∷ 65 ∷ [])) ≡ no_name) × (read_of (with_node (65 ∷ 0x40 ∷ [])) ≡ no_name)
    × (read_of (with_private (65 ∷ 0x40 ∷ 65 ∷ [])) ≡ no_name) × (read_of (with_private (0x40 ∷ 65 ∷ [])) ≡ no_name)

pub letters : Letters
unfolding read_of judged right fields_right spelled same fields_of node_of private_of
letters = (refl, refl, refl, refl, refl, refl, refl, refl, refl, refl, refl, refl, refl, refl, refl, refl, refl, refl)

abbrev pub Lengths : Type 0
Lengths =
    -- the node identifier: 0, 1, 20 and 21 octets
    (read_of (with_node []) ≡ no_name) × (read_of (with_node (replicate 1 65)) ≡ says 1 0 least)
    × (read_of (with_node (replicate 20 65)) ≡ says 20 0 least) × (read_of (with_node (replicate 21 65)) ≡ no_name)
    -- the private part: 0, 1, 32 and 33 octets
    × (read_of (with_private []) ≡ no_name) × (read_of (with_private (replicate 1 65)) ≡ says 1 1 least_private)
    × (read_of (with_private (replicate 32 65)) ≡ says 1 32 least_private) × (read_of (with_private (replicate 33 65)) ≡ no_name)

pub lengths : Lengths
unfolding read_of judged right fields_right spelled same fields_of node_of private_of
lengths = (refl, refl, refl, refl, refl, refl, refl, refl)

-- All numbers but the one in question and the sign are the least of their ranges, so that these are read too.
abbrev pub Numbers : Type 0
Numbers =
    -- the running count: none, 0, 4,294,967,295 and one more; a leading zero, and eleven digits
    NoName "A_-_.19990101_-_0000+0000"
    × NoName "A_-_0.19990101_-_0000+0000"
    × Reads "A_-_4294967295.19990101_-_0000+0000" (says 1 0 (fields 4294967295 1999 1 1 0 0 1 0 0 0))
    × NoName "A_-_4294967296.19990101_-_0000+0000"
    × NoName "A_-_01.19990101_-_0000+0000"
    × NoName "A_-_10000000000.19990101_-_0000+0000"
    -- the year: 1998, 2100 and 2101
    × NoName "A_-_1.19980101_-_0000+0000"
    × Reads "A_-_1.21000101_-_0000+0000" (says 1 0 (fields 1 2100 1 1 0 0 1 0 0 0))
    × NoName "A_-_1.21010101_-_0000+0000"
    -- the month: 0, 12 and 13
    × NoName "A_-_1.19990001_-_0000+0000"
    × Reads "A_-_1.19991201_-_0000+0000" (says 1 0 (fields 1 1999 12 1 0 0 1 0 0 0))
    × NoName "A_-_1.19991301_-_0000+0000"
    -- the day: 0, 31 and 32; 31 in any month
    × NoName "A_-_1.19990100_-_0000+0000"
    × Reads "A_-_1.19990131_-_0000+0000" (says 1 0 (fields 1 1999 1 31 0 0 1 0 0 0))
    × NoName "A_-_1.19990132_-_0000+0000"
    × Reads "A_-_1.19990231_-_0000+0000" (says 1 0 (fields 1 1999 2 31 0 0 1 0 0 0))
    -- the hour: 23 and 24
    × Reads "A_-_1.19990101_-_2300+0000" (says 1 0 (fields 1 1999 1 1 23 0 1 0 0 0))
    × NoName "A_-_1.19990101_-_2400+0000"
    -- the minute: 59 and 60
    × Reads "A_-_1.19990101_-_0059+0000" (says 1 0 (fields 1 1999 1 1 0 59 1 0 0 0))
    × NoName "A_-_1.19990101_-_0060+0000"
    -- the sign: -0000 is another set of fields than +0000
    × Reads "A_-_1.19990101_-_0000-0000" (says 1 0 (fields 1 1999 1 1 0 0 0 0 0 0))
    -- the hours of the deviation: 23 and 24
    × Reads "A_-_1.19990101_-_0000+2300" (says 1 0 (fields 1 1999 1 1 0 0 1 23 0 0))
    × NoName "A_-_1.19990101_-_0000+2400"
    -- its minutes: 59 and 60
    × Reads "A_-_1.19990101_-_0000+0059" (says 1 0 (fields 1 1999 1 1 0 0 1 0 59 0))
    × NoName "A_-_1.19990101_-_0000+0060"

pub numbers : Numbers
unfolding read_of judged right fields_right spelled same fields_of node_of private_of
numbers = (refl, refl, refl, refl, refl, refl, refl, refl, refl, refl, refl, refl, refl, refl, refl, refl, refl, refl, refl, refl, refl, refl, refl, refl, refl)

abbrev pub Grammar : Type 0
Grammar =
    -- delimiters of one underscore, as the clause's picture of a name has them
    NoName "A_1.19990101_-_0000+0000"
    × NoName "A_-_1.19990101_0000+0000"
    -- a minus in the place of the point
    × NoName "A_-_1-19990101_-_0000+0000"
    -- an octet in the place of the sign that is neither of the two
    × NoName "A_-_1.19990101_-_0000*0000"
    -- octets beside the digits: the colon is 10 more than 0, and 0: has the value of 10
    × NoName "A_-_:.19990101_-_0000+0000"
    × NoName "A_-_1.19990:01_-_0000+0000"
    × NoName "A_-_1.1999010/_-_0000+0000"
    -- an octet cut, and one more without a point
    × NoName "A_-_1.19990101_-_0000+000"
    × NoName "A_-_1.19990101_-_0000+0000A"
    -- nothing
    × (read_of [] ≡ no_name)

pub grammar : Grammar
unfolding read_of judged right fields_right spelled same fields_of node_of private_of
grammar = (refl, refl, refl, refl, refl, refl, refl, refl, refl, refl)

-- What the writer leaves of an output of n octets 0xEE, and its answer.
abbrev leaves : Fields → List ℕ → List ℕ → ℕ → After
leaves f node private n = write_of f node private (replicate n 0xEE)

-- it refuses, and the output stays
abbrev Refuses : ℕ → Fields → List ℕ → List ℕ → ℕ → Type 0
Refuses refusal f node private n = leaves f node private n ≡ after (answered refusal 0) (replicate n 0xEE)

-- refusal 20 of fields with node identifier A, into an output that is long enough for any name
abbrev Wrong : Fields → List ℕ → Type 0
Wrong f private = Refuses 20 f (65 ∷ []) private 87

abbrev pub Writes : Type 0
Writes =
    -- the clause's first example, and the second without its extension
    (leaves (fields 1234 2005 4 1 23 15 1 2 0 0) (ascii "CGFNodeId") [] 37
    ≡ after (answered 0 37) (ascii "CGFNodeId_-_1234.20050401_-_2315+0200"))
    × (leaves (fields 44 2005 12 24 17 0 0 11 30 1) (ascii "CGFNodeId") (ascii "thankgoditschristmas") 56
    ≡ after (answered 0 56) (ascii "CGFNodeId_-_44.20051224_-_1700-1130.thankgoditschristmas"))
    -- a name of 26 octets into 27, of which the last stays, into 26, and into 25: refusal 21
    × (leaves least (65 ∷ []) [] 27 ≡ after (answered 0 26) (ascii "A_-_1.19990101_-_0000+0000" ++ (0xEE ∷ [])))
    × (leaves least (65 ∷ []) [] 26 ≡ after (answered 0 26) (ascii "A_-_1.19990101_-_0000+0000"))
    × Refuses 21 least (65 ∷ []) [] 25
    -- with a private part of one octet it has 28
    × (leaves least_private (65 ∷ []) (66 ∷ []) 28 ≡ after (answered 0 28) (ascii "A_-_1.19990101_-_0000+0000.B"))
    × Refuses 21 least_private (65 ∷ []) (66 ∷ []) 27
    -- the longest name: 87 octets
    × (leaves (fields 4294967295 2100 12 31 23 59 1 23 59 1) (replicate 20 65) (replicate 32 66) 87
    ≡ after (answered 0 87) (ascii "AAAAAAAAAAAAAAAAAAAA_-_4294967295.21001231_-_2359+2359.BBBBBBBBBBBBBBBBBBBBBBBBBBBBBBBB"))
    -- refusal 20 is tested before 21
    × Refuses 20 (fields 0 1999 1 1 0 0 1 0 0 0) (65 ∷ []) [] 0

pub writes : Writes
unfolding write_of verdict right fields_right spelled splice
writes = (refl, refl, refl, refl, refl, refl, refl, refl, refl)

abbrev pub WritesNone : Type 0
WritesNone =
    -- octets though the fields say that there is no private part; none though they say that there is one; 33 octets; a point; the octet beside Z; and
    -- a `has` of 2
    Wrong least (66 ∷ [])
    × Wrong least_private []
    × Wrong least_private (replicate 33 66)
    × Wrong least_private (66 ∷ 46 ∷ 66 ∷ [])
    × Wrong least_private (66 ∷ 0x5B ∷ [])
    × Wrong (fields 1 1999 1 1 0 0 1 0 0 2) []
    -- a node identifier of no octets, of 21, with an underscore, and with the octet beside A
    × Refuses 20 least [] [] 87
    × Refuses 20 least (replicate 21 65) [] 87
    × Refuses 20 least (65 ∷ 95 ∷ 65 ∷ []) [] 87
    × Refuses 20 least (65 ∷ 0x40 ∷ []) [] 87
    -- the running count, the year, the month, the day: one below and one above
    × Wrong (fields 0 1999 1 1 0 0 1 0 0 0) [] × Wrong (fields 4294967296 1999 1 1 0 0 1 0 0 0) []
    × Wrong (fields 1 1998 1 1 0 0 1 0 0 0) [] × Wrong (fields 1 2101 1 1 0 0 1 0 0 0) []
    × Wrong (fields 1 1999 0 1 0 0 1 0 0 0) [] × Wrong (fields 1 1999 13 1 0 0 1 0 0 0) []
    × Wrong (fields 1 1999 1 0 0 0 1 0 0 0) [] × Wrong (fields 1 1999 1 32 0 0 1 0 0 0) []
    -- hour 24, minute 60, sign 2, deviation hours 24 and minutes 60
    × Wrong (fields 1 1999 1 1 24 0 1 0 0 0) [] × Wrong (fields 1 1999 1 1 0 60 1 0 0 0) []
    × Wrong (fields 1 1999 1 1 0 0 2 0 0 0) []
    × Wrong (fields 1 1999 1 1 0 0 1 24 0 0) [] × Wrong (fields 1 1999 1 1 0 0 1 0 60 0) []

pub writes_none : WritesNone
unfolding write_of verdict right fields_right spelled splice
writes_none = (refl, refl, refl, refl, refl, refl, refl, refl, refl, refl, refl, refl, refl, refl, refl, refl, refl, refl, refl, refl, refl, refl, refl)
