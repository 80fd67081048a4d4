-- The reader of names over any octets (document 02, ask 1): it takes fields from their places, and accepts them exactly when they
-- are right and their spelling is the name; else 20. So a place that holds something else than the grammar asks need not be
-- judged where it is read: its fields have another spelling. Assumes nothing.
use Rattle.std.specs.Prelude.{Bool, cond, not, ◌&&◌, List, ℕ, zero, suc, ◌+◌, ◌-◌, ◌*◌, ◌^◌, ltb, eqb, length, get_or, take, drop}
use Rattle.octets.specs.Alike.{alike}
use Rattle.filename.specs.declared.Fields.{Fields}
use Rattle.filename.specs.declared.Name.{Name}
use Rattle.filename.specs.Name.{right, spelled}

-- how many octets stand from k on before the first `stop`, at most n
abbrev pub before : ℕ → List ℕ → ℕ → ℕ → ℕ
before stop xs k zero = 0
before stop xs k (suc n) =
    cond (eqb (before stop xs k n) n && not (eqb (get_or xs (k + n) 0) stop)) (suc n) (before stop xs k n)

-- the number of the w decimal digits from k on
abbrev pub value_at : ℕ → List ℕ → ℕ → ℕ
value_at zero xs k = 0
value_at (suc w) xs k = (get_or xs k 0 - 48) * 10 ^ w + value_at w xs (k + 1)

-- the node identifier ends before the first underscore, the running count before the next point
abbrev pub node_length : List ℕ → ℕ
node_length xs = before 95 xs 0 20

abbrev pub count_place : List ℕ → ℕ
count_place xs = node_length xs + 3

abbrev pub count_length : List ℕ → ℕ
count_length xs = before 46 xs (count_place xs) 10

-- the point before the date; date and time stand behind it at fixed places, then the point before the private part
abbrev pub closing_place : List ℕ → ℕ
closing_place xs = count_place xs + count_length xs

-- the fields, with the closing's point at `at`
abbrev pub fields_from : List ℕ → ℕ → ℕ → Fields
fields_from xs count at =
    record {
      count = count;
      year = value_at 4 xs (at + 1);
      month = value_at 2 xs (at + 5);
      day = value_at 2 xs (at + 7);
      hour = value_at 2 xs (at + 12);
      minute = value_at 2 xs (at + 14);
      sign = cond (eqb (get_or xs (at + 16) 0) 43) 1 0;
      dev_hour = value_at 2 xs (at + 17);
      dev_minute = value_at 2 xs (at + 19);
      has = cond (ltb (at + 21) (length xs)) 1 0;
    }

unfoldable pub fields_of : List ℕ → Fields
fields_of xs = fields_from xs (value_at (count_length xs) xs (count_place xs)) (closing_place xs)

unfoldable pub node_of : List ℕ → List ℕ
node_of xs = take (node_length xs) xs

unfoldable pub private_of : List ℕ → List ℕ
private_of xs = drop (closing_place xs + 22) xs

-- two lists are the same octets
unfoldable pub same : List ℕ → List ℕ → Bool
same xs ys = eqb (length xs) (length ys) && alike xs ys (length xs)

-- what a name says, from its fields, its node identifier at the start and its private part at the end
abbrev pub named : Fields → List ℕ → List ℕ → Name
named f node private = record { refusal = 0; node = length node; private = length private; fields = f }

abbrev pub no_fields : Fields
no_fields =
    record {
      count = 0;
      year = 0;
      month = 0;
      day = 0;
      hour = 0;
      minute = 0;
      sign = 0;
      dev_hour = 0;
      dev_minute = 0;
      has = 0;
    }

-- no name: refusal 20, and zeros
abbrev pub no_name : Name
no_name = record { refusal = 20; node = 0; private = 0; fields = no_fields }

-- fields that were taken from their places are accepted where they are right and their spelling is the name
unfoldable pub judged : List ℕ → Fields → List ℕ → List ℕ → Name
judged xs f node private = cond (right f node private && same xs (spelled f node private)) (named f node private) no_name

unfoldable pub read_of : List ℕ → Name
read_of xs = judged xs (fields_of xs) (node_of xs) (private_of xs)
