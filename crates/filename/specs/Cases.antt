-- The cases of writing and reading a name, one for each way out of the calls, and the length of a name (Name, Writing, Reading).
-- Assumes nothing.
use Rattle.std.specs.Prelude.{◌≡◌, refl, Bool, true, false, cond, ◌&&◌, List, [], ◌∷◌, ◌++◌, ℕ, ◌+◌, ◌≤◌, ◌<◌, ◌-◌, min, leb, eqb, length, take, drop}
use Rattle.std.proofs.Math.Path.{sym}
use Rattle.std.proofs.Common.{ap, ◌∙◌, append_assoc, arith, length-append, length-drop, drop_of_length-le, take_all}
use Rattle.std.proofs.Math.Decide.{dec_lt}
use Rattle.std.proofs.Math.Seq.{take-length}
use borrow.Author.Tests.{lt-ltb, le-ltb, eq-eqb, ne_eqb, eqb-true, leb-true}
use Rattle.std.specs.Bool.{Decides}
use Rattle.std.proofs.lemmas.Bool.{false≢true}
use Rattle.octets.specs.Alike.{alike, alike_is, alike_self}
use Rattle.octets.specs.Splice.{splice, splice_then, splice_there}
use Rattle.refusals.specs.Tests.{both, each}
use Rattle.filename.specs.declared.Fields.{Fields}
use Rattle.filename.specs.declared.Name.{Name}
use Rattle.filename.specs.Name.{plain, node_right, fields_tests, fields_right, private_right, right, delimiter, closing, private_part, spelled}
use Rattle.numerals.specs.Decimal.{width, decimal, digits_length}
use Rattle.filename.specs.Writing.{after, answered, verdict, written, write_of}
use Rattle.filename.specs.Reading.{node_length, count_place, count_length, closing_place, value_at, fields_from, fields_of, node_of, private_of, same, named, no_name, judged, read_of}

-- the private part is there, or it is not
pub private_there : (has : ℕ) (private : List ℕ) → has ≡ 1 → private_part has private ≡ 46 ∷ private
private_there has private e = rw (eq-eqb has 1 e)

pub private_none : (has : ℕ) (private : List ℕ) → (has ≡ 1 → ⊥) → private_part has private ≡ []
private_none has private e = rw (ne_eqb has 1 e)

-- the parts before the private part have fixed lengths but for the node identifier and the running count
pub spelled_length : (f : Fields) (node private : List ℕ)
    → length (spelled f node private) ≡ length node + width f.count + 24 + length (private_part f.has private)
unfolding spelled
spelled_length f node private =
    simp (length-append, digits_length) (omega arith)

-- the three parts of `right`
pub right_node : (f : Fields) (node private : List ℕ) → right f node private ≡ true → node_right node ≡ true
unfolding right
right_node f node private e = (both (node_right node) (fields_right f) (both (node_right node && fields_right f) (private_right f.has private) e).0).0

pub right_fields : (f : Fields) (node private : List ℕ) → right f node private ≡ true → fields_right f ≡ true
unfolding right
right_fields f node private e = (both (node_right node) (fields_right f) (both (node_right node && fields_right f) (private_right f.has private) e).0).1

pub right_private : (f : Fields) (node private : List ℕ) → right f node private ≡ true → private_right f.has private ≡ true
unfolding right
right_private f node private e = (both (node_right node && fields_right f) (private_right f.has private) e).1

-- so the node identifier is short, and so is the private part
pub node_short : (node : List ℕ) → node_right node ≡ true → length node ≤ 20
node_short node e =
    let t = both (leb 1 (length node) && leb (length node) 20) (plain node (length node)) e in
    leb-true (length node) 20 (both (leb 1 (length node)) (leb (length node) 20) t.0).1

pub private_short : (has : ℕ) (private : List ℕ) → private_right has private ≡ true → length private ≤ 32
private_short has private e = by (eqb has 1) e
  where
    by : (b : Bool) → cond b (leb 1 (length private) && leb (length private) 32 && plain private (length private)) (eqb (length private) 0) ≡ true → length private ≤ 32
    by true h =
        let t = both (leb 1 (length private) && leb (length private) 32) (plain private (length private)) h in
        leb-true (length private) 32 (both (leb 1 (length private)) (leb (length private) 32) t.0).1
    by false h = let z = eqb-true (length private) 0 h in omega arith

module _ (f : Fields) (node private output : List ℕ) where
  pub write_wrong : right f node private ≡ false → after (answered 20 0) output ≡ write_of f node private output
  unfolding write_of verdict
  write_wrong a = sym (rw a)

  module _ (a : right f node private ≡ true) where
    pub write_short : length output < length (spelled f node private) → after (answered 21 0) output ≡ write_of f node private output
    unfolding write_of verdict
    write_short h = sym (rw (a, lt-ltb _ _ h))

    pub write_done : length (spelled f node private) ≤ length output → written f node private output ≡ write_of f node private output
    unfolding write_of verdict
    write_done h = sym (rw (a, le-ltb _ _ h))

-- what is written behind what was written at the start
behind : (output a b ys zs : List ℕ) (n : ℕ) → a ≡ splice output 0 ys → b ≡ splice a n zs → n ≡ length ys → b ≡ splice output 0 (ys ++ zs)
behind output a b ys zs n h k e =
    k ∙ ap (λ (l : List ℕ). splice l n zs) h ∙ splice_then output 0 ys (omega arith) zs n (omega arith)

-- the five parts, each written behind the one before it, are the name
pub spelled_made : (f : Fields) (node private output a b c d e : List ℕ) (n : ℕ) → n ≡ width f.count → a ≡ splice output 0 node
    → b ≡ splice a (length node) delimiter
    → c ≡ splice b (length node + 3) (decimal f.count)
    → d ≡ splice c (length node + 3 + n) (closing f)
    → e ≡ splice d (length node + 24 + n) (private_part f.has private)
    → e ≡ splice output 0 (spelled f node private)
unfolding spelled
spelled_made f node private output a b c d e n w h1 h2 h3 h4 h5 =
    let two = behind output a b node delimiter (length node) h1 h2 refl in
    let l2 : length node + 3 ≡ length (node ++ delimiter) = sym (length-append node delimiter) in
    let three = behind output b c (node ++ delimiter) (decimal f.count) (length node + 3) two h3 l2 in
    let l3 : length node + 3 + n ≡ length ((node ++ delimiter) ++ decimal f.count) =
    simp (length-append, digits_length) (omega arith) in
    let four = behind output c d ((node ++ delimiter) ++ decimal f.count) (closing f) (length node + 3 + n) three h4 l3 in
    let l4 : length node + 24 + n ≡ length (((node ++ delimiter) ++ decimal f.count) ++ closing f) =
    simp (length-append, digits_length) (omega arith) in
    let five = behind output d e (((node ++ delimiter) ++ decimal f.count) ++ closing f) (private_part f.has private) (length node + 24 + n) four h5 l4 in
    five ∙ simp append_assoc

-- the first octets of a list that the name was written over are the name
pub spelled_there : (f : Fields) (node private : List ℕ) (xs buffer : List ℕ) (n : ℕ) → buffer ≡ splice xs 0 (spelled f node private) → n ≡ length (spelled f node private)
    → take n buffer ≡ spelled f node private
spelled_there f node private xs buffer n e l =
    (λ i. take (l i) (e i)) ∙ splice_there xs 0 (spelled f node private) (omega arith)

-- the same octets are the same list, and only they are
pub same_is : (xs ys : List ℕ) → same xs ys ≡ true → xs ≡ ys
unfolding same
same_is xs ys e =
    let t = both (eqb (length xs) (length ys)) (alike xs ys (length xs)) e in
    alike_is xs ys (eqb-true (length xs) (length ys) t.0) t.1

pub same_self : (xs : List ℕ) → same xs xs ≡ true
unfolding same
same_self xs = rw (eq-eqb (length xs) (length xs) refl) (alike_self xs (length xs))

-- what a test of that says
pub same_told : (r : Bool) (xs ys : List ℕ) → Decides r (xs ≡ ys) → same xs ys ≡ r
same_told true xs ys d = ap (same xs) (sym (d.0 refl)) ∙ same_self xs
same_told false xs ys d = go (same xs ys) refl
  where
    go : (b : Bool) → same xs ys ≡ b → same xs ys ≡ false
    go true e = absurd (false≢true (d.1 (same_is xs ys e)))
    go false e = e

module _ (xs : List ℕ) (f : Fields) (node private : List ℕ) where
  pub judged_wrong : right f node private ≡ false → no_name ≡ judged xs f node private
  unfolding judged
  judged_wrong a = sym (rw a)

  module _ (a : right f node private ≡ true) where
    pub judged_other : same xs (spelled f node private) ≡ false → no_name ≡ judged xs f node private
    unfolding judged
    judged_other b = sym (rw (a, b))

    pub judged_named : same xs (spelled f node private) ≡ true → named f node private ≡ judged xs f node private
    unfolding judged
    judged_named b = sym (rw (a, b))

-- a running count that is right is below 2 ^ 32
pub count_most : (f : Fields) → fields_right f ≡ true → f.count ≤ 4294967295
unfolding fields_right
count_most f e = leb-true f.count 4294967295 (each (fields_tests f) e 1)

-- a greater one makes no name
pub beyond_wrong : (f : Fields) (node private : List ℕ) → 4294967295 < f.count → right f node private ≡ false
beyond_wrong f node private h = by (right f node private) refl
  where
    by : (b : Bool) → right f node private ≡ b → b ≡ false
    by true e = let m = count_most f (right_fields f node private e) in let z : ⊥ = omega arith in absurd z
    by false e = refl

pub read_beyond : (xs : List ℕ) → 4294967295 < value_at (count_length xs) xs (count_place xs) → no_name ≡ read_of xs
unfolding read_of fields_of
read_beyond xs h = judged_wrong xs (fields_of xs) (node_of xs) (private_of xs) (beyond_wrong (fields_of xs) (node_of xs) (private_of xs) h)

-- a part that ends, or begins, where the list does at the latest
pub take_least : (n : ℕ) (xs : List ℕ) → take (min n (length xs)) xs ≡ take n xs
take_least n xs = by (dec_lt n (length xs))
  where
    by : Dec (n < length xs) → take (min n (length xs)) xs ≡ take n xs
    by (yes h) = let e : min n (length xs) ≡ n = omega arith in ap (λ (m : ℕ). take m xs) e
    by (no h) = let e : min n (length xs) ≡ length xs = omega arith in ap (λ (m : ℕ). take m xs) e ∙ take-length xs ∙ sym (take_all n xs (omega arith))

pub drop_least : (n : ℕ) (xs : List ℕ) → drop (min n (length xs)) xs ≡ drop n xs
drop_least n xs = by (dec_lt n (length xs))
  where
    by : Dec (n < length xs) → drop (min n (length xs)) xs ≡ drop n xs
    by (yes h) = let e : min n (length xs) ≡ n = omega arith in ap (λ (m : ℕ). drop m xs) e
    by (no h) =
        let e : min n (length xs) ≡ length xs = omega arith in
        ap (λ (m : ℕ). drop m xs) e ∙ drop_of_length-le xs {i = length xs} (omega arith) ∙ sym (drop_of_length-le xs {i = n} (omega arith))

-- all that is behind a place
rest_all : (k : ℕ) (xs : List ℕ) → take (length xs - k) (drop k xs) ≡ drop k xs
rest_all k xs = take_all (length xs - k) (drop k xs) (rw (length-drop k xs) (omega arith))

-- what the code puts together from the places that it worked out
pub read_made : (xs : List ℕ) (r : Name) (f : Fields) (node digits count start end : ℕ) → node ≡ node_length xs → digits ≡ count_length xs
    → count ≡ value_at (count_length xs) xs (count_place xs)
    → f ≡ fields_from xs count (node + 3 + digits)
    → start ≡ min node (length xs)
    → end ≡ min (node + 3 + digits + 22) (length xs)
    → r ≡ judged xs f (take start xs) (take (length xs - end) (drop end xs))
    → r ≡ read_of xs
unfolding read_of fields_of node_of private_of
read_made xs r f node digits count start end n d v h a b e =
    let place : node + 3 + digits ≡ closing_place xs = λ i. n i + 3 + d i in
    let fields : f ≡ fields_of xs = h ∙ (λ i. fields_from xs (v i) (place i)) in
    let first : take start xs ≡ node_of xs = ap (λ (k : ℕ). take k xs) (a ∙ ap (λ (k : ℕ). min k (length xs)) n) ∙ take_least (node_length xs) xs in
    let last : drop end xs ≡ private_of xs = ap (λ (k : ℕ). drop k xs) (b ∙ ap (λ (k : ℕ). min (k + 22) (length xs)) place) ∙ drop_least (closing_place xs + 22) xs in
    e ∙ (λ i. judged xs (fields i) (first i) ((rest_all end xs ∙ last) i))
