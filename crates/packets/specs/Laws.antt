-- Packets and lists of records (document 02, ask 8): a packet that is not refused is the octets of its records, and records whose fields have
-- room in a packet are read back from theirs; so no two lists of records share a packet. Assumes nothing.
use Rattle.std.specs.Prelude.{◌≡◌, refl, Bool, true, false, cond, ◌&&◌, ◌||◌, List, [], ◌∷◌, ◌++◌, ℕ, zero, suc, ◌+◌, ◌^◌, ◌≤◌, ◌<◌, leb, eqb, length, get_or, take, drop}
use Rattle.std.proofs.Common.{sym, ap, ◌∙◌, append_assoc, arith, mod-eq_of_lt, length-append, length-drop, take-append-drop, take_at, drop_at, drop-drop, length-take-le, le-leb, ne_eqb, leb-true, eqb-true}
use Rattle.refusals.specs.Tests.{both}
use Rattle.octets.specs.Number.{be, num, num_be, be_num, octets_at, octets_at_lem, Octets, octets_drop}
use Rattle.packets.specs.Packet.{Delivered, key_length, body_length, size_of, first_of, whole, records_in, record_octets, packet_octets}

-- the fields have room in a packet
pub record Roomy (d : Delivered) : Type 0 where
  pub time : d.time < 256 ^ 4
  pub key : length d.key < 256
  pub body : length d.body < 256 ^ 4

abbrev pub AllRoomy : List Delivered → Type 0
AllRoomy [] = Unit {0}
AllRoomy (d ∷ ds) = Roomy d × AllRoomy ds

-- A record at the start of octets is read back.
module _ (d : Delivered) (rest : List ℕ) (r : Roomy d) where
  abbrev xs : List ℕ
  xs = record_octets d ++ rest

  abbrev behind : List ℕ
  behind =
      d.arrival.mark ∷ length d.key ∷ d.arrival.release ∷ d.arrival.version ∷ d.arrival.extension ∷ d.arrival.format ∷ d.arrival.ts
      ∷ ((be 4 (length d.body) ++ (d.key ++ d.body)) ++ rest)

  time_back : num 4 xs 0 ≡ d.time
  time_back = num_be 4 d.time [] behind ∙ mod-eq_of_lt r.time

  -- the eleven octets before the body's length
  abbrev eleven : List ℕ
  eleven =
      be 4 d.time ++ (d.arrival.mark ∷ length d.key ∷ d.arrival.release ∷ d.arrival.version ∷ d.arrival.extension ∷ d.arrival.format ∷ d.arrival.ts ∷ [])

  body_back : body_length xs ≡ length d.body
  body_back = num_be 4 (length d.body) eleven ((d.key ++ d.body) ++ rest) ∙ mod-eq_of_lt r.body

  -- fifteen with it
  abbrev fifteen : List ℕ
  fifteen = eleven ++ be 4 (length d.body)

  size_back : size_of xs ≡ length (record_octets d)
  size_back = omega (arith, body_back, length-append d.key d.body)

  key_back : take (key_length xs) (drop 15 xs) ≡ d.key
  key_back = ap (take (length d.key)) (append_assoc d.key d.body rest) ∙ take_at d.key (d.body ++ rest) (length d.key) refl

  -- the octets before the body
  together : xs ≡ (fifteen ++ d.key) ++ (d.body ++ rest)
  together =
      ap (λ (l : List ℕ). fifteen ++ l) (append_assoc d.key d.body rest) ∙ sym (append_assoc fifteen d.key (d.body ++ rest))

  rest_back : drop (15 + key_length xs) xs ≡ d.body ++ rest
  rest_back = ap (drop (15 + length d.key)) together ∙ drop_at (fifteen ++ d.key) (d.body ++ rest) (15 + length d.key) (length-append fifteen d.key)

  first_back : first_of xs ≡ d
  first_back =
      let body : take (body_length xs) (drop (15 + key_length xs) xs) ≡ d.body =
      (λ i. take (body_back i) (rest_back i)) ∙ take_at d.body rest (length d.body) refl in
      λ i. record { time = time_back i; arrival = d.arrival; key = key_back i; body = body i }

  drop_back : drop (size_of xs) xs ≡ rest
  drop_back = drop_at (record_octets d) rest (size_of xs) (sym size_back)

-- and a list of them is
module _ where
  pub read_back : (ds : List Delivered) → AllRoomy ds → (n : ℕ) → length ds ≤ n → (whole n (packet_octets ds) ≡ true) × (records_in n (packet_octets ds) ≡ ds)
  read_back [] r zero h = (refl, refl)
  read_back [] r (suc n) h = (refl, refl)
  read_back (d ∷ ds) r zero h = absurd (omega arith)
  read_back (d ∷ ds) r (suc n) h =
      let p = packet_octets ds in
      let b = read_back ds r.1 n (omega arith) in
      let some : eqb (length (record_octets d ++ p)) 0 ≡ false = ne_eqb (length (record_octets d ++ p)) 0 (λ z. omega arith) in
      let fits : leb (size_of (record_octets d ++ p)) (length (record_octets d ++ p)) ≡ true =
      le-leb (size_of (record_octets d ++ p)) (length (record_octets d ++ p)) (omega (arith, size_back d p r.0, length-append (record_octets d) p)) in
      let behind = drop_back d p r.0 in (
        (λ i. some i || (fits i && whole n (behind i))) ∙ b.0,
        (λ i. cond (some i) [] (first_back d p r.0 i ∷ records_in n (behind i))) ∙ ap (λ (l : List Delivered). d ∷ l) b.1,
      )

-- so no two lists share a packet
pub no_two : (ds es : List Delivered) → AllRoomy ds → AllRoomy es → length ds ≤ 64 → length es ≤ 64 → packet_octets ds ≡ packet_octets es → ds ≡ es
no_two ds es p q h k e = sym (read_back ds p 64 h).1 ∙ ap (records_in 64) e ∙ (read_back es q 64 k).1

-- Octets that begin with a whole record are its octets and what is behind it.
module _ {xs : List ℕ} (o : Octets xs) (h : size_of xs ≤ length xs) where
  key_whole : length (take (key_length xs) (drop 15 xs)) ≡ key_length xs
  key_whole = length-take-le (key_length xs) (drop 15 xs) (omega (arith, length-drop 15 xs))

  body_whole : length (take (body_length xs) (drop (15 + key_length xs) xs)) ≡ body_length xs
  body_whole = length-take-le (body_length xs) (drop (15 + key_length xs) xs) (omega (arith, length-drop (15 + key_length xs) xs))

  parts : (first_of xs).key ++ ((first_of xs).body ++ drop (size_of xs) xs) ≡ drop 15 xs
  parts =
      let k = key_length xs in
      let b = body_length xs in
      ap (λ (l : List ℕ). take k (drop 15 xs) ++ (take b (drop (15 + k) xs) ++ l)) (sym (drop-drop b (15 + k) xs))
      ∙ ap (λ (l : List ℕ). take k (drop 15 xs) ++ l) (take-append-drop b (drop (15 + k) xs))
      ∙ ap (λ (l : List ℕ). take k (drop 15 xs) ++ l) (sym (drop-drop k 15 xs))
      ∙ take-append-drop k (drop 15 xs)

  pub record_whole : record_octets (first_of xs) ++ drop (size_of xs) xs ≡ xs
  record_whole =
      let seven = octets_at 7 xs 4 in
      let rest = (first_of xs).key ++ ((first_of xs).body ++ drop (size_of xs) xs) in
      let written : (k b : ℕ) → List ℕ = λ (k b : ℕ). be 4 (num 4 xs 0)
      ++ (get_or xs 4 0 ∷ k ∷ get_or xs 6 0 ∷ get_or xs 7 0 ∷ get_or xs 8 0 ∷ get_or xs 9 0 ∷ get_or xs 10 0 ∷ (be 4 b ++ rest)) in
      append_in
      ∙ (λ i. written (key_whole i) (body_whole i))
      ∙ ap (λ (l : List ℕ). be 4 (num 4 xs 0) ++ (seven ++ (be 4 (body_length xs) ++ l))) parts
      ∙ ap (λ (l : List ℕ). be 4 (num 4 xs 0) ++ (seven ++ l)) (be_num o 4 11 (omega arith))
      ∙ ap (λ (l : List ℕ). be 4 (num 4 xs 0) ++ l) (octets_at_lem 7 xs 4 (omega arith))
      ∙ be_num o 4 0 (omega arith)
    where
      -- what is behind the record stands behind its body
      append_in : record_octets (first_of xs) ++ drop (size_of xs) xs
          ≡ be 4 (num 4 xs 0)
          ++ (get_or xs 4 0 ∷ length (first_of xs).key ∷ get_or xs 6 0 ∷ get_or xs 7 0 ∷ get_or xs 8 0 ∷ get_or xs 9 0 ∷ get_or xs 10 0
          ∷ (be 4 (length (first_of xs).body) ++ ((first_of xs).key ++ ((first_of xs).body ++ drop (size_of xs) xs))))
      append_in =
          ap
          (λ (l : List ℕ). be 4 (num 4 xs 0)
          ++ (get_or xs 4 0 ∷ length (first_of xs).key ∷ get_or xs 6 0 ∷ get_or xs 7 0 ∷ get_or xs 8 0 ∷ get_or xs 9 0 ∷ get_or xs 10 0 ∷ (be 4 (length (first_of xs).body) ++ l)))
          (append_assoc (first_of xs).key (first_of xs).body (drop (size_of xs) xs))

-- A packet that is not refused is the octets of its records.
empty : (l : List ℕ) → length l ≡ 0 → [] ≡ l
empty [] z = refl
empty (x ∷ l) z = absurd (omega arith)

pub packet_whole : (n : ℕ) {xs : List ℕ} → Octets xs → whole n xs ≡ true → packet_octets (records_in n xs) ≡ xs
packet_whole zero {xs} o e = empty xs (eqb-true (length xs) 0 e)
packet_whole (suc n) {xs} o e = go (eqb (length xs) 0) refl (λ h. packet_whole n (octets_drop (size_of xs) o) h)
  where
    listed : Bool → List Delivered
    listed b = cond b [] (first_of xs ∷ records_in n (drop (size_of xs) xs))

    go : (b : Bool) → eqb (length xs) 0 ≡ b → (whole n (drop (size_of xs) xs) ≡ true → packet_octets (records_in n (drop (size_of xs) xs)) ≡ drop (size_of xs) xs)
        → packet_octets (listed (eqb (length xs) 0)) ≡ xs
    go true p rest = ap (λ (b : Bool). packet_octets (listed b)) p ∙ empty xs (eqb-true (length xs) 0 p)
    go false p rest =
        let some = leb (size_of xs) (length xs) && whole n (drop (size_of xs) xs) in
        let t = both (leb (size_of xs) (length xs)) (whole n (drop (size_of xs) xs)) (sym (ap (λ (b : Bool). b || some) p) ∙ e) in
        ap (λ (b : Bool). packet_octets (listed b)) p
        ∙ ap (λ (l : List ℕ). record_octets (first_of xs) ++ l) (rest t.1)
        ∙ record_whole o (leb-true (size_of xs) (length xs) t.0)
