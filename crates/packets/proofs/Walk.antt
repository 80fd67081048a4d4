-- A packet gone through from record to record (document 02, ask 8): what is known at its n-th, which starts at `at`, and how it ends.
-- Assumes nothing.
use Rattle.std.specs.Prelude.{◌≡◌, refl, Bool, true, false, cond, not, ◌&&◌, ◌||◌, List, [], ◌∷◌, ℕ, zero, suc, ◌+◌, ◌-◌, ◌*◌, ◌^◌, ◌≤◌, ◌<◌, leb, eqb, length, get_or, take, drop}
use Rattle.std.proofs.Common.{sym, ap, ◌∙◌, arith, zero-add, length-drop, drop_of_length-le, drop-drop, get_or-drop, le-leb, ne_eqb, eqb-true}
use Rattle.std.proofs.lemmas.Bool.{lt-leb, eqb-false}
use Rattle.octets.specs.Number.{num}
use Rattle.packets.specs.Packet.{arrival_of, size_of, first_of, whole, records_in, wrong_packet, delivered, count_of}

pub record Walking (xs : List ℕ) (at n : ℕ) : Type 0 where
  pub inside : at ≤ length xs
  pub few : n ≤ 64
  pub wholly : whole 64 xs ≡ whole (64 - n) (drop at xs)
  pub many : length (records_in 64 xs) ≡ n + length (records_in (64 - n) (drop at xs))

pub walk_begins : (xs : List ℕ) → Walking xs 0 0
walk_begins xs = record { inside = omega arith; few = omega arith; wholly = refl; many = sym (zero-add (length (records_in 64 xs))) }

module _ {xs : List ℕ} {at n : ℕ} (v : Walking xs at n) where
  abbrev rest : List ℕ
  rest = drop at xs

  -- the answer of what is left
  abbrev answer_of : Bool → ℕ → ℕ
  answer_of b k = cond (not b) 65 k

  counted : count_of xs ≡ answer_of (whole (64 - n) rest) (n + length (records_in (64 - n) rest))
  unfolding wrong_packet delivered
  counted = λ i. answer_of (v.wholly i) (v.many i)

  -- nothing is left
  pub walk_ends : length xs ≤ at → n ≡ count_of xs
  walk_ends h =
      let e = drop_of_length-le xs {i = at} h in
      sym (counted ∙ (λ i. answer_of (whole (64 - n) (e i)) (n + length (records_in (64 - n) (e i)))) ∙ by_fuel (64 - n))
    where
      by_fuel : (k : ℕ) → answer_of (whole k []) (n + length (records_in k [])) ≡ n
      by_fuel zero = omega arith
      by_fuel (suc k) = omega arith

  module _ (some : at < length xs) where
    left : eqb (length rest) 0 ≡ false
    left = ne_eqb (length rest) 0 (λ z. omega (arith, length-drop at xs))

    -- a 65th
    pub walk_many : n ≡ 64 → 65 ≡ count_of xs
    walk_many e =
        let z : 64 - n ≡ 0 = omega arith in
        sym (counted ∙ (λ i. answer_of (whole (z i) rest) (n + length (records_in (z i) rest))) ∙ ap (λ (b : Bool). answer_of b (n + 0)) left)

    module _ (more : n < 64) where
      fuel : 64 - n ≡ suc (63 - n)
      fuel = omega arith

      abbrev next : List ℕ
      next = drop (size_of rest) rest

      stepped : count_of xs ≡ answer_of (leb (size_of rest) (length rest) && whole (63 - n) next) (n + suc (length (records_in (63 - n) next)))
      stepped =
          counted
          ∙ (λ i. answer_of (whole (fuel i) rest) (n + length (records_in (fuel i) rest)))
          ∙ (λ i. answer_of (left i || (leb (size_of rest) (length rest) && whole (63 - n) next)) (n + length (cond (left i) [] (first_of rest ∷ records_in (63 - n) next))))

      -- a cut one
      pub walk_cut : length xs - at < size_of rest → 65 ≡ count_of xs
      walk_cut h =
          let cut = lt-leb (size_of rest) (length rest) (omega (arith, length-drop at xs)) in
          sym (stepped ∙ (λ i. answer_of (cut i && whole (63 - n) next) (n + suc (length (records_in (63 - n) next)))))

      -- the next
      pub walk_on : size_of rest ≤ length xs - at → Walking xs (at + size_of rest) (n + 1)
      walk_on h =
          let fits = le-leb (size_of rest) (length rest) (omega (arith, length-drop at xs)) in
          let e : 63 - n ≡ 64 - (n + 1) = omega arith in
          let d = drop-drop (size_of rest) at xs in
          record {
            inside = omega arith;
            few = omega arith;
            wholly =
                v.wholly
                ∙ ap (λ (k : ℕ). whole k rest) fuel
                ∙ (λ i. left i || (fits i && whole (63 - n) next))
                ∙ (λ i. whole (e i) (d i));
            many =
                v.many
                ∙ ap (λ (k : ℕ). n + length (records_in k rest)) fuel
                ∙ (λ i. n + length (cond (left i) [] (first_of rest ∷ records_in (63 - n) next)))
                ∙ omega (arith, length_same e d);
          }
        where
          length_same : {k l : ℕ} {a b : List ℕ} → k ≡ l → a ≡ b → length (records_in k a) ≡ length (records_in l b)
          length_same p q = λ i. length (records_in (p i) (q i))

-- A number behind a place, from the octets of the whole.
pub num_drop : (xs : List ℕ) (at w k : ℕ) → num w (drop at xs) k ≡ num w xs (at + k)
num_drop xs at zero k = refl
num_drop xs at (suc w) k =
    let e : at + (k + 1) ≡ at + k + 1 = omega arith in
    λ i. get_or-drop at xs k 0 i * 256 ^ w + (num_drop xs at w (k + 1) ∙ ap (num w xs) e) i

-- The size of the record at a place, from the places of its octets.
pub size_at : (xs : List ℕ) (at : ℕ) {key body : ℕ} → key ≡ get_or xs (at + 5) 0 → body ≡ num 4 xs (at + 11) → 15 + key + body ≡ size_of (drop at xs)
size_at xs at p q = λ i. 15 + (p ∙ sym (get_or-drop at xs 5 0)) i + (q ∙ sym (num_drop xs at 4 11)) i

-- And what it says.
pub arrival_at : (xs : List ℕ) (at : ℕ)
    → record { mark = get_or xs (at + 4) 0; release = get_or xs (at + 6) 0; version = get_or xs (at + 7) 0; extension = get_or xs (at + 8) 0; format = get_or xs (at + 9) 0; ts = get_or xs (at + 10) 0 }
    ≡ arrival_of (drop at xs)
arrival_at xs at =
    λ i.
    record {
      mark = sym (get_or-drop at xs 4 0) i;
      release = sym (get_or-drop at xs 6 0) i;
      version = sym (get_or-drop at xs 7 0) i;
      extension = sym (get_or-drop at xs 8 0) i;
      format = sym (get_or-drop at xs 9 0) i;
      ts = sym (get_or-drop at xs 10 0) i;
    }

-- Its time, its key and its body.
module _ (xs : List ℕ) (at : ℕ) where
  pub time_at : num 4 xs at ≡ num 4 (drop at xs) 0
  time_at = let e : at ≡ at + 0 = omega arith in ap (num 4 xs) e ∙ sym (num_drop xs at 4 0)

  pub key_at : take (at + 15 + get_or xs (at + 5) 0 - (at + 15)) (drop (at + 15) xs) ≡ (first_of (drop at xs)).key
  key_at =
      let e : at + 15 + get_or xs (at + 5) 0 - (at + 15) ≡ get_or xs (at + 5) 0 = omega arith in
      λ i. take ((e ∙ sym (get_or-drop at xs 5 0)) i) (sym (drop-drop 15 at xs) i)

  pub body_at : {body : ℕ} → body ≡ num 4 xs (at + 11)
      → take (at + 15 + get_or xs (at + 5) 0 + body - (at + 15 + get_or xs (at + 5) 0)) (drop (at + 15 + get_or xs (at + 5) 0) xs) ≡ (first_of (drop at xs)).body
  body_at {body} p =
      let k = get_or xs (at + 5) 0 in
      let e : at + 15 + k + body - (at + 15 + k) ≡ body = omega arith in
      let f : at + 15 + k ≡ at + (15 + k) = omega arith in
      (λ i. take ((e ∙ p ∙ sym (num_drop xs at 4 11)) i) (drop (f i) xs))
      ∙ (λ i. take (num 4 (drop at xs) 11) (drop (at + (15 + sym (get_or-drop at xs 5 0) i)) xs))
      ∙ ap (take (num 4 (drop at xs) 11)) (sym (drop-drop (15 + get_or (drop at xs) 5 0) at xs))

-- There are no more than are looked for, 64 in all.
pub records_few : (k : ℕ) (l : List ℕ) → length (records_in k l) ≤ k
records_few zero l = omega arith
records_few (suc k) l = go (eqb (length l) 0) (records_few k (drop (size_of l) l))
  where
    go : (b : Bool) → length (records_in k (drop (size_of l) l)) ≤ k → length (cond b [] (first_of l ∷ records_in k (drop (size_of l) l))) ≤ suc k
    go true h = omega arith
    go false h = omega arith

pub count_few : (xs : List ℕ) → length (delivered xs) ≤ 64
unfolding delivered
count_few xs = records_few 64 xs

-- The same by what is left of the packet.
pub record Resting (xs rest : List ℕ) (n : ℕ) : Type 0 where
  pub at : ℕ
  pub walking : Walking xs at n
  pub is : rest ≡ drop at xs

pub rest_begins : (xs : List ℕ) → Resting xs xs 0
rest_begins xs = record { at = 0; walking = walk_begins xs; is = refl }

module _ {xs rest : List ℕ} {n : ℕ} (v : Resting xs rest n) where
  size_is : length rest ≡ length xs - v.at
  size_is = ap length v.is ∙ length-drop v.at xs

  -- nothing is left
  pub rest_ends : true ≡ eqb (length rest) 0 → n ≡ count_of xs
  rest_ends e = walk_ends v.walking (omega (arith, size_is, eqb-true (length rest) 0 (sym e)))

  module _ (some : false ≡ eqb (length rest) 0) where
    inside : v.at < length xs
    inside = omega (arith, size_is, eqb-false (length rest) 0 (sym some))

    -- a 65th
    pub rest_many : n ≡ 64 → 65 ≡ count_of xs
    rest_many e = walk_many v.walking inside e

    module _ (more : n < 64) where
      -- a cut one
      pub rest_cut : length rest < size_of rest → 65 ≡ count_of xs
      rest_cut h = walk_cut v.walking inside more (omega (arith, size_is, h, ap size_of v.is))

      -- the next
      pub rest_on : {rest' : List ℕ} → size_of rest ≤ length rest → rest' ≡ drop (size_of rest) rest → Resting xs rest' (n + 1)
      rest_on h e =
          record {
            at = v.at + size_of (drop v.at xs);
            walking = walk_on v.walking inside more (omega (arith, size_is, h, ap size_of v.is));
            is = e ∙ (λ i. drop (size_of (v.is i)) (v.is i)) ∙ drop-drop (size_of (drop v.at xs)) v.at xs;
          }
