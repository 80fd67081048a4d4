-- What a file name is (000, 6.2; document 02, ask 1): a name is right exactly when it is the spelling of right fields.
--
--     node _-_ count . YYYYMMDD _-_ HHMM s hhmm [. private]
--
-- The running count has no leading zeros; the delimiter before it and before the time is underscore, minus, underscore; the
-- private part has a point before it. The file extension is optional in the clause, so it is never there. Days are 1 to 31 in
-- every month. The sign is a field: +0000 and -0000 are different names. Assumes nothing.
use Rattle.std.specs.Prelude.{Bool, true, cond, ◌&&◌, ◌||◌, List, [], ◌∷◌, ◌++◌, ℕ, zero, suc, leb, eqb, length, get_or}
use Rattle.refusals.specs.Tests.{all_of}
use Rattle.numerals.specs.Decimal.{digits, decimal}
use Rattle.filename.specs.declared.Fields.{Fields}

-- an ASCII letter or digit: 0 to 9, A to Z, a to z
abbrev pub letter_or_digit : ℕ → Bool
letter_or_digit c = (leb 48 c && leb c 57) || (leb 65 c && leb c 90) || (leb 97 c && leb c 122)

-- the first n octets are letters and digits
abbrev pub plain : List ℕ → ℕ → Bool
plain xs zero = true
plain xs (suc n) = plain xs n && letter_or_digit (get_or xs n 0)

-- 1 to 20 letters and digits
abbrev pub node_right : List ℕ → Bool
node_right node = leb 1 (length node) && leb (length node) 20 && plain node (length node)

abbrev pub fields_tests : Fields → List Bool
fields_tests f =
    leb 1 f.count
    ∷ leb f.count 4294967295
    ∷ leb 1999 f.year
    ∷ leb f.year 2100
    ∷ leb 1 f.month
    ∷ leb f.month 12
    ∷ leb 1 f.day
    ∷ leb f.day 31
    ∷ leb f.hour 23
    ∷ leb f.minute 59
    ∷ leb f.sign 1
    ∷ leb f.dev_hour 23
    ∷ leb f.dev_minute 59
    ∷ leb f.has 1
    ∷ []

unfoldable pub fields_right : Fields → Bool
fields_right f = all_of (fields_tests f)

-- 1 to 32 letters and digits where the private part is there, no octets where it is not
abbrev pub private_right : ℕ → List ℕ → Bool
private_right has private =
    cond (eqb has 1) (leb 1 (length private) && leb (length private) 32 && plain private (length private)) (eqb (length private) 0)

unfoldable pub right : Fields → List ℕ → List ℕ → Bool
right f node private = node_right node && fields_right f && private_right f.has private

-- underscore, minus, underscore
abbrev pub delimiter : List ℕ
delimiter = 95 ∷ 45 ∷ 95 ∷ []

-- plus where the sign is 1, else minus
abbrev pub sign_octet : ℕ → ℕ
sign_octet s = cond (eqb s 1) 43 45

-- the point, the date, the delimiter and the time of closing: 21 octets
abbrev pub closing : Fields → List ℕ
closing f =
    46
    ∷ (digits 4 f.year
    ++ (digits 2 f.month
    ++ (digits 2 f.day
    ++ (delimiter
    ++ (digits 2 f.hour
    ++ (digits 2 f.minute
    ++ (sign_octet f.sign
    ∷ (digits 2 f.dev_hour ++ digits 2 f.dev_minute))))))))

-- the private part, with the point before it
abbrev pub private_part : ℕ → List ℕ → List ℕ
private_part has private = cond (eqb has 1) (46 ∷ private) []

unfoldable pub spelled : Fields → List ℕ → List ℕ → List ℕ
spelled f node private = node ++ (delimiter ++ (decimal f.count ++ (closing f ++ private_part f.has private)))
