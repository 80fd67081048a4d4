-- Set times of day in settings (document 02, ask 6): what the code that puts them into the words needs and leaves, and that accepted ones
-- are within the bounds of refusal 18. Assumes nothing.
use Rattle.std.specs.Prelude.{◌≡◌, refl, Bool, true, false, cond, ◌&&◌, ◌||◌, List, [], ◌∷◌, ◌++◌, ℕ, zero, suc, ◌+◌, ◌-◌, ◌*◌, ◌/◌, ◌%◌, ◌≤◌, ◌<◌, ltb, leb, eqb, length, get_or, set}
use Rattle.std.proofs.Common.{sym, ◌∙◌, subst, arith, add-one, zero-add, length-append, length-set, get_or-set_same, get_or-set_other, ext_get_or, ltb-true, leb-true, eqb-true, eq-eqb, ne_eqb, le-leb, lt-ltb, le-ltb}
use Rattle.std.proofs.Math.Path.{ap}
use Rattle.std.proofs.Math.Bool.{and-true, and-false}
use Rattle.std.proofs.Math.Decide.{ℕ_discrete, dec_lt}
use Rattle.std.proofs.Math.ListN.{get_or-append, get_or-eq_default}
use Rattle.std.proofs.lemmas.List.{get_or_at}
use Rattle.refusals.specs.Tests.{both}
use Rattle.refusals.specs.Below.{all_below, below_all, list_at}
use Rattle.octets.specs.Number.{num}
use Rattle.state.specs.SetTimes.{set_count, set_minute, minute_right, minute_first, minute_next, set_right_at, sets_right}
use Rattle.words.specs.Words.{manager_in, words_of}
use Rattle.words.specs.Laws.{words_length, sets_in_lem}
use Rattle.words.specs.Sets.{set_put, with_sets}
use Rattle.settings.specs.Settings.{routes_in, sets_in, set_start, set_route, set_minute_at, minutes_of, set_follows, set_time_right, set_number_at, set_times_from, manager_with}
use Rattle.settings.specs.Cases.{routes_length, sets_length}

-- The numbers of the first j set times.
module _ (xs : List ℕ) (j : ℕ) where
  numbered : (q : ℕ) → q < 200 → get_or (set_times_from xs j) q 0 ≡ set_number_at xs j q
  unfolding set_times_from
  numbered q h = list_at (set_number_at xs j) 0 200 q h ∙ ap (set_number_at xs j) (zero-add q)

  pub set_count_is : (i : ℕ) → i < 8 → set_count (set_times_from xs j) i ≡ length (minutes_of xs i j)
  set_count_is i h =
      numbered i (omega arith) ∙ ap (λ (b : Bool). cond b (length (minutes_of xs i j)) (get_or (minutes_of xs ((i - 8) / 24) j) ((i - 8) % 24) 0)) (lt-ltb i 8 h)

  -- a number behind the first eight
  minute_at : (q : ℕ) → 8 ≤ q → q < 200 → get_or (set_times_from xs j) q 0 ≡ get_or (minutes_of xs ((q - 8) / 24) j) ((q - 8) % 24) 0
  minute_at q l h = numbered q h ∙ ap (λ (b : Bool). cond b (length (minutes_of xs q j)) (get_or (minutes_of xs ((q - 8) / 24) j) ((q - 8) % 24) 0)) (le-ltb q 8 l)

  pub set_minute_is : (i p : ℕ) → i < 8 → p < 24 → set_minute (set_times_from xs j) i p ≡ get_or (minutes_of xs i j) p 0
  set_minute_is i p h l =
      let route : (8 + 24 * i + p - 8) / 24 ≡ i = omega arith in
      let place : (8 + 24 * i + p - 8) % 24 ≡ p = omega arith in
      minute_at (8 + 24 * i + p) (omega arith) (omega arith) ∙ (λ k. get_or (minutes_of xs (route k) j) (place k) 0)

-- One set time more: its route has its minute behind the others, and no other route changes.
module _ (xs : List ℕ) (j : ℕ) where
  own_minutes : (i : ℕ) → set_route xs j ≡ i → minutes_of xs i (suc j) ≡ minutes_of xs i j ++ (set_minute_at xs j ∷ [])
  own_minutes i e = rw (eq-eqb (set_route xs j) i e)

  other_minutes : (i : ℕ) → (set_route xs j ≡ i → ⊥) → minutes_of xs i (suc j) ≡ minutes_of xs i j
  other_minutes i e = rw (ne_eqb (set_route xs j) i e)

  own_length : (i : ℕ) → set_route xs j ≡ i → length (minutes_of xs i (suc j)) ≡ length (minutes_of xs i j) + 1
  own_length i e = ap length (own_minutes i e) ∙ length-append (minutes_of xs i j) (set_minute_at xs j ∷ [])

  own_last : (i : ℕ) → set_route xs j ≡ i → get_or (minutes_of xs i (suc j)) (length (minutes_of xs i j)) 0 ≡ set_minute_at xs j
  own_last i e = ap (λ (l : List ℕ). get_or l (length (minutes_of xs i j)) 0) (own_minutes i e) ∙ get_or_at (minutes_of xs i j) (set_minute_at xs j) [] 0 (length (minutes_of xs i j)) refl

  own_rest : (i p : ℕ) → set_route xs j ≡ i → (p ≡ length (minutes_of xs i j) → ⊥) → get_or (minutes_of xs i (suc j)) p 0 ≡ get_or (minutes_of xs i j) p 0
  own_rest i p e other = ap (λ (l : List ℕ). get_or l p 0) (own_minutes i e) ∙ go (dec_lt p (length (minutes_of xs i j)))
    where
      go : Dec (p < length (minutes_of xs i j)) → get_or (minutes_of xs i j ++ (set_minute_at xs j ∷ [])) p 0 ≡ get_or (minutes_of xs i j) p 0
      go (yes h) = get_or-append (minutes_of xs i j) (set_minute_at xs j ∷ []) 0 p h
      go (no h) =
          get_or-eq_default (minutes_of xs i j ++ (set_minute_at xs j ∷ [])) 0 (omega (arith, length-append (minutes_of xs i j) (set_minute_at xs j ∷ [])))
          ∙ sym (get_or-eq_default (minutes_of xs i j) 0 (omega arith))

-- in the state's numbers that is two stores
module _ (xs : List ℕ) (j : ℕ) (low : set_route xs j < 8) (few : length (minutes_of xs (set_route xs j) j) < 24) where
  abbrev r : ℕ
  r = set_route xs j

  abbrev c : ℕ
  c = length (minutes_of xs r j)

  abbrev inner : List ℕ
  inner = set (set_times_from xs j) (8 + 24 * r + c) (set_minute_at xs j)

  inner_length : length inner ≡ 200
  inner_length = length-set (set_times_from xs j) (8 + 24 * r + c) (set_minute_at xs j) ∙ sets_length xs j

  -- how many a route has
  count_each : (q : ℕ) → q < 8 → Dec (q ≡ r) → get_or (set inner r (c + 1)) q 0 ≡ get_or (set_times_from xs (suc j)) q 0
  count_each q h (yes e) =
      ap (λ (k : ℕ). get_or (set inner r (c + 1)) k 0) e
      ∙ get_or-set_same inner r (c + 1) 0 (omega (arith, inner_length))
      ∙ sym (own_length xs j r refl)
      ∙ sym (set_count_is xs (suc j) r low)
      ∙ ap (λ (k : ℕ). get_or (set_times_from xs (suc j)) k 0) (sym e)
  count_each q h (no e) =
      get_or-set_other inner r q (c + 1) 0 e
      ∙ get_or-set_other (set_times_from xs j) (8 + 24 * r + c) q (set_minute_at xs j) 0 (λ z. omega arith)
      ∙ set_count_is xs j q h
      ∙ ap length (sym (other_minutes xs j q (λ z. e (sym z))))
      ∙ sym (set_count_is xs (suc j) q h)

  -- and which
  unstored : (q : ℕ) → 8 ≤ q → q < 200 → (q ≡ 8 + 24 * r + c → ⊥) → get_or (set_times_from xs j) q 0 ≡ get_or (set_times_from xs (suc j)) q 0
  unstored q l h b = minute_at xs j q l h ∙ go (ℕ_discrete r ((q - 8) / 24)) ∙ sym (minute_at xs (suc j) q l h)
    where
      go : Dec (r ≡ (q - 8) / 24) → get_or (minutes_of xs ((q - 8) / 24) j) ((q - 8) % 24) 0 ≡ get_or (minutes_of xs ((q - 8) / 24) (suc j)) ((q - 8) % 24) 0
      go (no e) = ap (λ (m : List ℕ). get_or m ((q - 8) % 24) 0) (sym (other_minutes xs j ((q - 8) / 24) e))
      go (yes e) =
          let n : c ≡ length (minutes_of xs ((q - 8) / 24) j) = ap (λ (i : ℕ). length (minutes_of xs i j)) e in
          sym (own_rest xs j ((q - 8) / 24) ((q - 8) % 24) e (λ z. b (omega (arith, e, z, n))))

  minute_each : (q : ℕ) → 8 ≤ q → q < 200 → Dec (q ≡ 8 + 24 * r + c) → get_or inner q 0 ≡ get_or (set_times_from xs (suc j)) q 0
  minute_each q l h (yes e) =
      ap (λ (k : ℕ). get_or inner k 0) e
      ∙ get_or-set_same (set_times_from xs j) (8 + 24 * r + c) (set_minute_at xs j) 0 (omega (arith, sets_length xs j))
      ∙ sym (own_last xs j r refl)
      ∙ sym (set_minute_is xs (suc j) r c low few)
      ∙ ap (λ (k : ℕ). get_or (set_times_from xs (suc j)) k 0) (sym e)
  minute_each q l h (no e) = get_or-set_other (set_times_from xs j) (8 + 24 * r + c) q (set_minute_at xs j) 0 e ∙ unstored q l h e

  stored_each : (q : ℕ) → q < 200 → Dec (q < 8) → get_or (set inner r (c + 1)) q 0 ≡ get_or (set_times_from xs (suc j)) q 0
  stored_each q h (yes l) = count_each q l (ℕ_discrete q r)
  stored_each q h (no l) =
      get_or-set_other inner r q (c + 1) 0 (λ z. omega arith) ∙ minute_each q (omega arith) h (ℕ_discrete q (8 + 24 * r + c))

  pub stored_next : set inner r (c + 1) ≡ set_times_from xs (suc j)
  stored_next =
      let n = length-set inner r (c + 1) ∙ inner_length in
      ext_get_or 0 (set inner r (c + 1)) (set_times_from xs (suc j)) (n ∙ sym (sets_length xs (suc j))) (λ q h. stored_each q (omega (arith, n)) (dec_lt q 8))

-- What the code that puts the set times into the words needs, at the j-th.
pub record Setting (xs : List ℕ) (n j : ℕ) (words : List ℕ) : Type 0 where
  pub routes : n ≡ routes_in xs
  pub few : n ≤ 8
  pub whole : length xs ≡ set_start xs (sets_in xs)
  pub is : words ≡ words_of (manager_with xs n j)

-- words with a minute put behind those of a route
abbrev pub minute_put : List ℕ → ℕ → ℕ → List ℕ
minute_put words route minute =
    set (set words (168 + 24 * route + set_count (manager_in words).set_times route) minute) (160 + route) (set_count (manager_in words).set_times route + 1)

module _ {xs : List ℕ} {n j : ℕ} {words : List ℕ} (v : Setting xs n j words) where
  pub setting_number : length words ≡ 360
  setting_number = ap length v.is ∙ words_length (manager_with xs n j) (routes_length xs n) (sets_length xs j)

  sets_are : (manager_in words).set_times ≡ set_times_from xs j
  sets_are = ap (λ (l : List ℕ). (manager_in l).set_times) v.is ∙ sets_in_lem (manager_with xs n j) (routes_length xs n)

  pub setting_count : (i : ℕ) → i < 8 → set_count (manager_in words).set_times i ≡ length (minutes_of xs i j)
  setting_count i h = ap (λ (l : List ℕ). set_count l i) sets_are ∙ set_count_is xs j i h

  pub setting_room : j < sets_in xs → (19 + 41 * n + 4 * j ≡ set_start xs j) × (19 + 41 * n + 4 * j + 4 ≤ length xs)
  setting_room h = (omega (arith, v.routes), omega (arith, v.routes, v.whole))

  -- a right set time can be put
  module _ (right : set_time_right xs j ≡ true) where
    parts : (ltb (set_route xs j) (routes_in xs) ≡ true) × (ltb (length (minutes_of xs (set_route xs j) j)) 24 ≡ true)
    parts =
        let t = both (leb (set_minute_at xs j) 1439 && ltb (set_route xs j) (routes_in xs) && (eqb j 0 || set_follows xs (j - 1) j)) (ltb (length (minutes_of xs (set_route xs j) j)) 24) right in
        let u = both (leb (set_minute_at xs j) 1439 && ltb (set_route xs j) (routes_in xs)) (eqb j 0 || set_follows xs (j - 1) j) t.0 in
        ((both (leb (set_minute_at xs j) 1439) (ltb (set_route xs j) (routes_in xs)) u.0).1, t.1)

    low : set_route xs j < 8
    low = omega (arith, ltb-true (set_route xs j) (routes_in xs) parts.0, v.routes, v.few)

    few : length (minutes_of xs (set_route xs j) j) < 24
    few = ltb-true (length (minutes_of xs (set_route xs j) j)) 24 parts.1

    pub setting_able : {r : ℕ} → r ≡ set_route xs j → (length words ≡ 360) × (r < 8) × (set_count (manager_in words).set_times r < 24)
    setting_able e = (setting_number, omega (arith, low), omega (arith, ap (set_count (manager_in words).set_times) e, setting_count (set_route xs j) low, few))

    put_is : minute_put words (set_route xs j) (set_minute_at xs j) ≡ words_of (manager_with xs n (suc j))
    put_is =
        let r = set_route xs j in
        let c = length (minutes_of xs r j) in
        let m = manager_with xs n j in
        let inner = set (set_times_from xs j) (8 + 24 * r + c) (set_minute_at xs j) in
        let at : 168 + 24 * r + c ≡ 160 + (8 + 24 * r + c) = omega arith in
        (λ i. set (set (v.is i) (168 + 24 * r + setting_count r low i) (set_minute_at xs j)) (160 + r) (setting_count r low i + 1))
        ∙ ap (λ (q : ℕ). set (set (words_of m) q (set_minute_at xs j)) (160 + r) (c + 1)) at
        ∙ ap (λ (l : List ℕ). set l (160 + r) (c + 1)) (set_put m (routes_length xs n) (8 + 24 * r + c) (set_minute_at xs j))
        ∙ set_put (with_sets m inner) (routes_length xs n) r (c + 1)
        ∙ ap (λ (l : List ℕ). words_of (with_sets m l)) (stored_next xs j low few)

    -- and the next is looked at
    pub setting_next : {words' : List ℕ} {r minute : ℕ} → words' ≡ minute_put words r minute → r ≡ set_route xs j → minute ≡ set_minute_at xs j → Setting xs n (j + 1) words'
    setting_next e er em =
        record {
          routes = v.routes;
          few = v.few;
          whole = v.whole;
          is = e ∙ (λ i. minute_put words (er i) (em i)) ∙ put_is ∙ ap (λ (k : ℕ). words_of (manager_with xs n k)) (sym (add-one j));
        }

-- What its tests are, from the octets' places.
module _ (xs : List ℕ) (j : ℕ) where
  pub follows_first : j ≡ 0 → true ≡ (eqb j 0 || set_follows xs (j - 1) j)
  follows_first e = ap (λ (b : Bool). b || set_follows xs (j - 1) j) (sym (eq-eqb j 0 e))

  pub follows_made : {start before minute : ℕ} → start ≡ set_start xs j → (j ≡ 0 → ⊥) → before ≡ num 2 xs (start - 2) → minute ≡ num 2 xs (start + 2)
      → (ltb (get_or xs (start - 3) 0) (get_or xs (start + 1) 0) || (eqb (get_or xs (start - 3) 0) (get_or xs (start + 1) 0) && ltb before minute))
      ≡ (eqb j 0 || set_follows xs (j - 1) j)
  follows_made {start} {before} {minute} e h eb em =
      let one : start - 3 ≡ set_start xs (j - 1) + 1 = omega arith in
      let two : start - 2 ≡ set_start xs (j - 1) + 2 = omega arith in
      let route = ap (λ (k : ℕ). get_or xs k 0) one in
      let own : get_or xs (start + 1) 0 ≡ set_route xs j = ap (λ (k : ℕ). get_or xs (k + 1) 0) e in
      let late : before ≡ set_minute_at xs (j - 1) = eb ∙ ap (num 2 xs) two in
      let now : minute ≡ set_minute_at xs j = em ∙ ap (λ (k : ℕ). num 2 xs (k + 2)) e in
      (λ i. ltb (route i) (own i) || (eqb (route i) (own i) && ltb (late i) (now i)))
      ∙ ap (λ (b : Bool). b || set_follows xs (j - 1) j) (sym (ne_eqb j 0 h))

  pub set_unknown : routes_in xs ≤ set_route xs j → false ≡ set_time_right xs j
  set_unknown h =
      sym (ap (λ (b : Bool). b && (eqb j 0 || set_follows xs (j - 1) j) && ltb (length (minutes_of xs (set_route xs j) j)) 24)
      (ap (λ (b : Bool). leb (set_minute_at xs j) 1439 && b) (le-ltb (set_route xs j) (routes_in xs) h) ∙ and-false (leb (set_minute_at xs j) 1439)))

  pub set_told : set_route xs j < routes_in xs → {minute count : ℕ} {follows : Bool} → minute ≡ set_minute_at xs j → follows ≡ (eqb j 0 || set_follows xs (j - 1) j)
      → count ≡ length (minutes_of xs (set_route xs j) j) → (leb minute 1439 && follows && ltb count 24) ≡ set_time_right xs j
  set_told h em ef ec =
      let known = and-true (leb (set_minute_at xs j) 1439) in
      (λ i. leb (em i) 1439 && ef i && ltb (ec i) 24)
      ∙ sym ((λ i. leb (set_minute_at xs j) 1439 && lt-ltb (set_route xs j) (routes_in xs) h i && (eqb j 0 || set_follows xs (j - 1) j) && ltb (length (minutes_of xs (set_route xs j) j)) 24)
      ∙ (λ i. known i && (eqb j 0 || set_follows xs (j - 1) j) && ltb (length (minutes_of xs (set_route xs j) j)) 24))

-- and what it leaves
pub record SetsPut (xs : List ℕ) (n k : ℕ) (words : List ℕ) (right : Bool) : Type 0 where
  pub told : right ≡ all_below (set_time_right xs) k
  pub is : right ≡ true → words ≡ words_of (manager_with xs n k)

-- Set times that are right one behind another make lists that are within the bounds of refusal 18.
pub record ListRight (minutes : List ℕ) : Type 0 where
  pub few : length minutes ≤ 24
  pub day : (p : ℕ) → p < length minutes → get_or minutes p 0 ≤ 1439
  pub rising : (p : ℕ) → suc p < length minutes → get_or minutes p 0 < get_or minutes (suc p) 0

-- a list with a minute more
list_more : (minutes : List ℕ) (minute : ℕ) → ListRight minutes → minute ≤ 1439 → length minutes < 24
    → ((p : ℕ) → suc p ≡ length minutes → get_or minutes p 0 < minute) → ListRight (minutes ++ (minute ∷ []))
list_more minutes minute v day few last =
    record {
      few = omega (arith, length-append minutes (minute ∷ []));
      day = λ p h. by_day p h (ℕ_discrete p (length minutes));
      rising = λ p h. by_place p h (ℕ_discrete (suc p) (length minutes));
    }
  where
    before : (p : ℕ) → p < length minutes → get_or (minutes ++ (minute ∷ [])) p 0 ≡ get_or minutes p 0
    before p h = get_or-append minutes (minute ∷ []) 0 p h

    end : (p : ℕ) → p ≡ length minutes → get_or (minutes ++ (minute ∷ [])) p 0 ≡ minute
    end p e = get_or_at minutes minute [] 0 p (sym e)

    by_day : (p : ℕ) → p < length (minutes ++ (minute ∷ [])) → Dec (p ≡ length minutes) → get_or (minutes ++ (minute ∷ [])) p 0 ≤ 1439
    by_day p h (yes e) = omega (arith, end p e)
    by_day p h (no e) =
        let l : p < length minutes = omega (arith, length-append minutes (minute ∷ [])) in
        omega (arith, before p l, v.day p l)

    by_place : (p : ℕ) → suc p < length (minutes ++ (minute ∷ [])) → Dec (suc p ≡ length minutes)
        → get_or (minutes ++ (minute ∷ [])) p 0 < get_or (minutes ++ (minute ∷ [])) (suc p) 0
    by_place p h (yes e) = omega (arith, before p (omega arith), end (suc p) e, last p e)
    by_place p h (no e) =
        let l : suc p < length minutes = omega (arith, length-append minutes (minute ∷ [])) in
        omega (arith, before p (omega arith), before (suc p) l, v.rising p l)

-- what holds of the lists of the first j set times: behind the last one's route there is nothing yet, and that one is the last of its list
pub record Rows (xs : List ℕ) (j : ℕ) : Type 0 where
  pub each : (i : ℕ) → ListRight (minutes_of xs i j)
  pub above : (i : ℕ) → (j ≡ 0 → ⊥) → set_route xs (j - 1) < i → length (minutes_of xs i j) ≡ 0
  pub last : (p : ℕ) → (j ≡ 0 → ⊥) → suc p ≡ length (minutes_of xs (set_route xs (j - 1)) j) → get_or (minutes_of xs (set_route xs (j - 1)) j) p 0 ≡ set_minute_at xs (j - 1)

module _ (xs : List ℕ) where
  empty_right : ListRight []
  empty_right = record { few = omega arith; day = λ p h. absurd (omega arith); rising = λ p h. absurd (omega arith) }

  -- what it says that one follows another
  module _ (k j : ℕ) (e : set_follows xs k j ≡ true) where
    abbrev Case : Bool → Type 0
    Case b = (ltb (set_route xs k) (set_route xs j) ≡ b) × ((b || (eqb (set_route xs k) (set_route xs j) && ltb (set_minute_at xs k) (set_minute_at xs j))) ≡ true)

    same_by : (b : Bool) → Case b → (set_route xs k < set_route xs j → ⊥) → (set_route xs k ≡ set_route xs j) × (set_minute_at xs k < set_minute_at xs j)
    same_by true c h = absurd (h (ltb-true (set_route xs k) (set_route xs j) c.0))
    same_by false c h =
        let t = both (eqb (set_route xs k) (set_route xs j)) (ltb (set_minute_at xs k) (set_minute_at xs j)) c.1 in
        (eqb-true (set_route xs k) (set_route xs j) t.0, ltb-true (set_minute_at xs k) (set_minute_at xs j) t.1)

    same_route : (set_route xs k < set_route xs j → ⊥) → (set_route xs k ≡ set_route xs j) × (set_minute_at xs k < set_minute_at xs j)
    same_route h = same_by (ltb (set_route xs k) (set_route xs j)) (refl, e) h

    no_lower : set_route xs k ≤ set_route xs j
    no_lower = go (dec_lt (set_route xs k) (set_route xs j))
      where
        go : Dec (set_route xs k < set_route xs j) → set_route xs k ≤ set_route xs j
        go (yes h) = omega arith
        go (no h) = omega (arith, (same_route h).0)

  module _ (j : ℕ) (e : (eqb j 0 || set_follows xs (j - 1) j) ≡ true) where
    follows : (j ≡ 0 → ⊥) → set_follows xs (j - 1) j ≡ true
    follows h = ap (λ (b : Bool). b || set_follows xs (j - 1) j) (sym (ne_eqb j 0 h)) ∙ e

    -- the last of its route is earlier
    before_row : Rows xs j → (p : ℕ) → suc p ≡ length (minutes_of xs (set_route xs j) j) → get_or (minutes_of xs (set_route xs j) j) p 0 < set_minute_at xs j
    before_row v p h =
        let some : j ≡ 0 → ⊥ = λ z. omega (arith, h, ap (λ (k : ℕ). length (minutes_of xs (set_route xs j) k)) z) in
        let f = same_route (j - 1) j (follows some) (λ low. omega (arith, h, v.above (set_route xs j) some low)) in
        let is = v.last p some (h ∙ ap (λ (i : ℕ). length (minutes_of xs i j)) (sym f.0)) in
        omega (arith, sym (ap (λ (i : ℕ). get_or (minutes_of xs i j) p 0) f.0) ∙ is, f.1)

  row_more : (j : ℕ) → Rows xs j → set_time_right xs j ≡ true → Rows xs (suc j)
  row_more j v right =
      record {
        each = λ i. by_route i (ℕ_discrete (set_route xs j) i);
        above = λ i z low. ap length (other_minutes xs j i (λ e. omega (arith, route_is))) ∙ none_above i (omega (arith, route_is)) (ℕ_discrete j 0);
        last =
            λ p z h.
            (λ k. get_or (minutes_of xs (route_is k) (suc j)) p 0)
            ∙ ap (λ (q : ℕ). get_or (minutes_of xs (set_route xs j) (suc j)) q 0) (place p (h ∙ ap (λ (i : ℕ). length (minutes_of xs i (suc j))) route_is))
            ∙ own_last xs j (set_route xs j) refl
            ∙ sym (ap (set_minute_at xs) one);
      }
    where
      one : suc j - 1 ≡ j
      one = omega arith

      route_is : set_route xs (suc j - 1) ≡ set_route xs j
      route_is = ap (set_route xs) one

      t : (leb (set_minute_at xs j) 1439 && ltb (set_route xs j) (routes_in xs) && (eqb j 0 || set_follows xs (j - 1) j) ≡ true) × (ltb (length (minutes_of xs (set_route xs j) j)) 24 ≡ true)
      t = both (leb (set_minute_at xs j) 1439 && ltb (set_route xs j) (routes_in xs) && (eqb j 0 || set_follows xs (j - 1) j)) (ltb (length (minutes_of xs (set_route xs j) j)) 24) right

      u : (leb (set_minute_at xs j) 1439 && ltb (set_route xs j) (routes_in xs) ≡ true) × ((eqb j 0 || set_follows xs (j - 1) j) ≡ true)
      u = both (leb (set_minute_at xs j) 1439 && ltb (set_route xs j) (routes_in xs)) (eqb j 0 || set_follows xs (j - 1) j) t.0

      by_route : (i : ℕ) → Dec (set_route xs j ≡ i) → ListRight (minutes_of xs i (suc j))
      by_route i (no e) = subst ListRight (sym (other_minutes xs j i e)) (v.each i)
      by_route i (yes e) =
          subst (λ (k : ℕ). ListRight (minutes_of xs k (suc j))) e
          (subst ListRight (sym (own_minutes xs j (set_route xs j) refl))
          (list_more (minutes_of xs (set_route xs j) j) (set_minute_at xs j) (v.each (set_route xs j))
          (leb-true (set_minute_at xs j) 1439 (both (leb (set_minute_at xs j) 1439) (ltb (set_route xs j) (routes_in xs)) u.0).0)
          (ltb-true (length (minutes_of xs (set_route xs j) j)) 24 t.1)
          (before_row j u.1 v)))

      none_above : (i : ℕ) → set_route xs j < i → Dec (j ≡ 0) → length (minutes_of xs i j) ≡ 0
      none_above i low (yes e) = ap (λ (k : ℕ). length (minutes_of xs i k)) e
      none_above i low (no e) = v.above i e (omega (arith, no_lower (j - 1) j (follows j u.1 e)))

      place : (p : ℕ) → suc p ≡ length (minutes_of xs (set_route xs j) (suc j)) → p ≡ length (minutes_of xs (set_route xs j) j)
      place p h = omega (arith, own_length xs j (set_route xs j) refl)

  rows : (j : ℕ) → all_below (set_time_right xs) j ≡ true → Rows xs j
  rows zero e = record { each = λ i. empty_right; above = λ i z low. absurd (z refl); last = λ p z h. absurd (z refl) }
  rows (suc j) e =
      let t = both (all_below (set_time_right xs) j) (set_time_right xs j) e in
      row_more j (rows j t.0) t.1

-- so the state's are
module _ (xs : List ℕ) (k : ℕ) where
  abbrev sets : List ℕ
  sets = set_times_from xs k

  minute_right_lem : (i : ℕ) → i < 8 → ListRight (minutes_of xs i k) → (p : ℕ) → p < length (minutes_of xs i k) → minute_right (set_minute sets i) p ≡ true
  minute_right_lem i low v zero h =
      let a = set_minute_is xs k i 0 low (omega arith) in
      sym (minute_first (set_minute sets i) 0 refl refl) ∙ le-leb (set_minute sets i 0) 1439 (omega (arith, a, v.day 0 h))
  minute_right_lem i low v (suc p) h =
      let a = set_minute_is xs k i p low (omega (arith, v.few)) in
      let b = set_minute_is xs k i (suc p) low (omega (arith, v.few)) in
      let d = le-leb (set_minute sets i (suc p)) 1439 (omega (arith, b, v.day (suc p) h)) in
      let f = lt-ltb (set_minute sets i p) (set_minute sets i (suc p)) (omega (arith, a, b, v.rising p h)) in
      let one : suc p - 1 ≡ p = omega arith in
      sym (minute_next (set_minute sets i) (suc p) refl (λ z. omega arith) (ap (set_minute sets i) (sym one))) ∙ (λ q. d q && f q)

  list_right : (i : ℕ) → i < 8 → ListRight (minutes_of xs i k) → set_right_at sets i ≡ true
  list_right i low v =
      let c = set_count_is xs k i low in
      let d = le-leb (set_count sets i) 24 (omega (arith, c, v.few)) in
      let f = below_all (minute_right (set_minute sets i)) (set_count sets i) (λ p h. minute_right_lem i low v p (omega (arith, c))) in
      λ q. d q && f q

  pub sets_right_lem : (n : ℕ) → n ≤ 8 → all_below (set_time_right xs) k ≡ true → sets_right sets n ≡ true
  unfolding sets_right
  sets_right_lem n few e = below_all (set_right_at sets) n (λ i h. list_right i (omega arith) ((rows xs k e).each i))
