-- The step and the walk find exactly the records that document 01 describes: what they find has these octets, and right
-- records one behind another are found again. Assumes nothing.
use Rattle.std.specs.Prelude.{◌≡◌, Bool, ℕ, zero, suc, ◌+◌, ◌*◌, ◌/◌, ◌%◌, ◌≤◌, ◌<◌, length, take}
use Rattle.std.proofs.Math.Path.{refl, sym, ap, subst}
use Rattle.std.proofs.Common.{◌∙◌, length-append, length-drop, take-append-drop, drop-cons, drop-drop, length-take-le, take_at, drop_at, eqb-true}
use Rattle.std.proofs.Math.Bool.{true, false, cond}
use mathlib.Core.List.{List, [], ◌∷◌, ◌++◌, append_assoc}
use native.Mathlib.Omega.{arith}
use Rattle.std.proofs.Math.Decide.{ℕ_discrete}
use Rattle.std.proofs.Math.Dec.{eqb}
use Rattle.std.proofs.Math.ListN.{get_or, drop}
use Rattle.std.proofs.lemmas.Bool.{eqb-false}
use Rattle.octets.specs.Number.{be, Octets, be_num, octets_drop, octets_take, num_lt}
use Rattle.record.specs.declared.Release.{Release}
use Rattle.record.specs.Release.{extension_octets}
use Rattle.record.specs.Record.{Record, record_octets, RightRecord, AllRight, records_octets}
use Rattle.record.specs.Step.{cut, body_length_at, header_at, record_length_at, fields_of, record_of, inside, cut_none, header_least}
use Rattle.record.specs.Walk.{Walked, records, broken, prepend, walk_in, walk_of, walk_end, walk_cut, walk_on}

-- What a step finds.
module _ {xs : List ℕ} (o : Octets xs) (whole : cut xs ≡ false) where
  body_length_lem : length (record_of xs).body ≡ body_length_at xs
  body_length_lem =
      let i = inside xs whole in
      length-take-le (body_length_at xs) (drop (header_at xs) xs) (rw (length-drop (header_at xs) xs) (omega (arith, i.within)))

  -- the extension octet, if any, the body and what follows are what stands behind the first four octets
  behind_four : (b : Bool) (n : ℕ) → cond b 5 4 + n ≤ length xs
      → cond b (cond b (get_or xs 4 0) 0 ∷ []) [] ++ (take n (drop (cond b 5 4) xs) ++ drop (cond b 5 4 + n) xs) ≡ drop 4 xs
  behind_four true n h =
      (λ i. get_or xs 4 0 ∷ (take n (drop 5 xs) ++ sym (drop-drop n 5 xs) i))
      ∙ ap (λ (l : List ℕ). get_or xs 4 0 ∷ l) (take-append-drop n (drop 5 xs))
      ∙ sym (drop-cons xs 4 0 (omega arith))
  behind_four false n h = (λ i. take n (drop 4 xs) ++ sym (drop-drop n 4 xs) i) ∙ take-append-drop n (drop 4 xs)

  pub found_octets : record_octets (record_of xs) ++ drop (record_length_at xs) xs ≡ xs
  unfolding record_octets
  found_octets =
      let i = inside xs whole in
      let b = eqb (get_or xs 2 0 / 32) 7 in
      let third : get_or xs 2 0 / 32 * 32 + get_or xs 2 0 % 32 ≡ get_or xs 2 0 = omega arith in
      let fourth : get_or xs 3 0 / 32 * 32 + get_or xs 3 0 % 32 ≡ get_or xs 3 0 = omega arith in
      let long = i.long in
      let two : get_or xs 2 0 ∷ (get_or xs 3 0 ∷ drop 4 xs) ≡ drop 2 xs =
      ap (λ (l : List ℕ). get_or xs 2 0 ∷ l) (sym (drop-cons xs 3 0 (omega arith))) ∙ sym (drop-cons xs 2 0 (omega arith)) in
      (λ j. be 2 (body_length_lem j) ++ ((third j) ∷ ((fourth j) ∷ append_assoc (extension_octets (fields_of xs).release) (record_of xs).body (drop (record_length_at xs) xs) j)))
      ∙ ap (λ (l : List ℕ). be 2 (body_length_at xs) ++ (get_or xs 2 0 ∷ (get_or xs 3 0 ∷ l))) (behind_four b (body_length_at xs) i.within)
      ∙ ap (λ (l : List ℕ). be 2 (body_length_at xs) ++ l) two
      ∙ be_num o 2 0 (omega arith)

  narrow_found : (b : Bool) → eqb (get_or xs 2 0 / 32) 7 ≡ b → cond b (get_or xs 4 0) 0 < 256
  narrow_found true e = o.at 4
  narrow_found false e = omega arith

  absent_found : (b : Bool) → eqb (get_or xs 2 0 / 32) 7 ≡ b → (get_or xs 2 0 / 32 ≡ 7 → ⊥) → cond b (get_or xs 4 0) 0 ≡ 0
  absent_found true e h = absurd (h (eqb-true _ _ e))
  absent_found false e h = refl

  pub found_right : RightRecord (record_of xs)
  found_right =
      let i = inside xs whole in
      let t = o.at 2 in
      let f = o.at 3 in
      let n = num_lt o 2 0 in
      record {
        release =
            record {
              release = omega (arith, t);
              extension = narrow_found (eqb (get_or xs 2 0 / 32) 7) refl;
              version = omega arith;
              absent = absent_found (eqb (get_or xs 2 0 / 32) 7) refl;
            };
        format = omega (arith, f);
        ts = omega arith;
        short = let u = i.usual in omega (arith, body_length_lem, n);
        octets = octets_take (body_length_at xs) (octets_drop (header_at xs) o);
      }

-- A right record with anything behind it is found.
pub record Found (r : Record) (rest xs : List ℕ) : Type 0 where
  pub whole : cut xs ≡ false
  pub same : record_of xs ≡ r
  pub behind : drop (record_length_at xs) xs ≡ rest

-- it is enough to know the lengths, the fields and what stands behind the header
by_parts : (r : Record) (rest xs : List ℕ) (h : ℕ) → header_at xs ≡ h → body_length_at xs ≡ length r.body → fields_of xs ≡ r.header
    → drop h xs ≡ r.body ++ rest → 4 ≤ length xs → length r.body ≤ 65534 → h ≤ length xs → Found r rest xs
by_parts r rest xs h eh eb ef ed long short most =
    let n = length r.body in
    let fits : h + n ≤ length xs = omega (arith, length-drop h xs, ap length ed, length-append r.body rest) in
    let body : take (body_length_at xs) (drop (header_at xs) xs) ≡ r.body = (λ i. take (eb i) (drop (eh i) xs)) ∙ ap (take n) ed ∙ take_at r.body rest n refl in
    record {
      whole = cut_none xs long (λ z. omega (arith, eb)) (omega (arith, eh, eb));
      same = λ i. record { header = ef i; body = body i };
      behind = (λ i. drop (eh i + eb i) xs) ∙ sym (drop-drop n h xs) ∙ ap (drop n) ed ∙ drop_at r.body rest n refl;
    }

module _ (r : Record) (rest : List ℕ) (right : RightRecord r) where
  abbrev n : ℕ
  n = length r.body

  abbrev rel : Release
  rel = r.header.release

  number : n / 256 % 256 * 256 + (n / 1 % 256 * 1 + 0) ≡ n
  number = omega (arith, right.short)

  identifier : (rel.release * 32 + rel.version) / 32 ≡ rel.release
  identifier = omega (arith, right.release.version)

  version : (rel.release * 32 + rel.version) % 32 ≡ rel.version
  version = omega (arith, right.release.version)

  format : (r.header.format * 32 + r.header.ts) / 32 ≡ r.header.format
  format = omega (arith, right.ts)

  ts : (r.header.format * 32 + r.header.ts) % 32 ≡ r.header.ts
  ts = omega (arith, right.ts)

  -- the first four octets, and what stands behind them
  abbrev four : List ℕ → List ℕ
  four l = n / 256 % 256 ∷ (n / 1 % 256 ∷ ((rel.release * 32 + rel.version) ∷ ((r.header.format * 32 + r.header.ts) ∷ l)))

  -- by whether the release is 7
  find : (b : Bool) → eqb rel.release 7 ≡ b → Found r rest (record_octets r ++ rest)
  unfolding record_octets
  find true e =
      let q : eqb ((rel.release * 32 + rel.version) / 32) 7 ≡ true = ap (λ (x : ℕ). eqb x 7) identifier ∙ e in
      let p : record_octets r ++ rest ≡ four (rel.extension ∷ (r.body ++ rest)) = λ i. four ((cond (e i) (rel.extension ∷ []) [] ++ r.body) ++ rest) in
      subst (Found r rest) (sym p)
      (by_parts r rest (four (rel.extension ∷ (r.body ++ rest))) 5 (λ i. cond (q i) 5 4) number
      (λ i. record { release = record { release = identifier i; extension = cond (q i) rel.extension 0; version = version i }; format = format i; ts = ts i })
      refl (omega arith) right.short (omega arith))
  find false e =
      let q : eqb ((rel.release * 32 + rel.version) / 32) 7 ≡ false = ap (λ (x : ℕ). eqb x 7) identifier ∙ e in
      let p : record_octets r ++ rest ≡ four (r.body ++ rest) = λ i. four ((cond (e i) (rel.extension ∷ []) [] ++ r.body) ++ rest) in
      let z : cond (eqb ((rel.release * 32 + rel.version) / 32) 7) (get_or (four (r.body ++ rest)) 4 0) 0 ≡ rel.extension =
      (λ i. cond (q i) (get_or (four (r.body ++ rest)) 4 0) 0) ∙ sym (right.release.absent (eqb-false _ _ e)) in
      subst (Found r rest) (sym p)
      (by_parts r rest (four (r.body ++ rest)) 4 (λ i. cond (q i) 5 4) number
      (λ i. record { release = record { release = identifier i; extension = z i; version = version i }; format = format i; ts = ts i })
      refl (omega arith) right.short (omega arith))

  pub found_again : Found r rest (record_octets r ++ rest)
  found_again = find (eqb rel.release 7) refl

-- a record has four octets at least
pub record_some : (r : Record) → 4 ≤ length (record_octets r)
unfolding record_octets
record_some r = omega arith

-- What a walk finds is right and has these octets.
abbrev Sound : Walked → List ℕ → Type 0
Sound (records rs) xs = AllRight rs × (records_octets rs ≡ xs)
Sound broken xs = Unit {0}

sound_prepend : (r : Record) (w : Walked) (rest xs : List ℕ) → RightRecord r → Sound w rest → record_octets r ++ rest ≡ xs → Sound (prepend r w) xs
unfolding records_octets
sound_prepend r broken rest xs right s e = tt
sound_prepend r (records rs) rest xs right s e = ((right, s.0), ap (λ (l : List ℕ). record_octets r ++ l) s.1 ∙ e)

nil_of : (xs : List ℕ) → length xs ≡ 0 → xs ≡ []
nil_of [] e = refl
nil_of (x ∷ xs) e = let z : ⊥ = omega arith in absurd z

module _ (n : ℕ) (xs : List ℕ) (o : Octets xs) (s : Sound (walk_in n (drop (record_length_at xs) xs)) (drop (record_length_at xs) xs)) where
  sound_some : (length xs ≡ 0 → ⊥) → (b : Bool) → cut xs ≡ b → Sound (walk_in (suc n) xs) xs
  sound_some some true c = subst (λ (w : Walked). Sound w xs) (sym (walk_cut n xs some c)) tt
  sound_some some false c =
      subst (λ (w : Walked). Sound w xs) (sym (walk_on n xs some c))
      (sound_prepend (record_of xs) (walk_in n (drop (record_length_at xs) xs)) (drop (record_length_at xs) xs) xs (found_right o c) s (found_octets o c))

  sound_suc : Dec (length xs ≡ 0) → Sound (walk_in (suc n) xs) xs
  unfolding records_octets
  sound_suc (yes e) = subst (λ (w : Walked). Sound w xs) (sym (walk_end (suc n) xs e)) (tt, sym (nil_of xs e))
  sound_suc (no some) = sound_some some (cut xs) refl

walk_sound : (n : ℕ) (xs : List ℕ) → Octets xs → length xs ≤ n → Sound (walk_in n xs) xs
unfolding records_octets
walk_sound zero xs o h = (tt, sym (nil_of xs (omega arith)))
walk_sound (suc n) xs o h =
    let rest = drop (record_length_at xs) xs in
    let shorter : length rest ≤ n = rw (length-drop (record_length_at xs) xs) (omega (arith, header_least xs)) in
    sound_suc n xs o (walk_sound n rest (octets_drop (record_length_at xs) o) shorter) (ℕ_discrete (length xs) 0)

-- Right records one behind another are what a walk finds.
walk_complete : (rs : List Record) → AllRight rs → (n : ℕ) → length (records_octets rs) ≤ n → walk_in n (records_octets rs) ≡ records rs
unfolding records_octets
walk_complete [] a n h = walk_end n [] refl
walk_complete (r ∷ rs) a zero h = let z : ⊥ = omega (arith, length-append (record_octets r) (records_octets rs), record_some r) in absurd z
walk_complete (r ∷ rs) a (suc n) h =
    let xs = record_octets r ++ records_octets rs in
    let f = found_again r (records_octets rs) a.0 in
    let l = length-append (record_octets r) (records_octets rs) in
    let some : length xs ≡ 0 → ⊥ = λ z. omega (arith, l, record_some r) in
    walk_on n xs some f.whole
    ∙ (λ i. prepend (f.same i) (walk_in n (f.behind i)))
    ∙ ap (prepend r) (walk_complete rs a.1 n (omega (arith, l, record_some r)))

-- The walk gives some records exactly when the octets are these records, right and one behind another.
module _ (xs : List ℕ) (rs : List Record) where
  pub walked : Octets xs → walk_of xs ≡ records rs → AllRight rs × (records_octets rs ≡ xs)
  unfolding walk_of
  walked o e = subst (λ (w : Walked). Sound w xs) e (walk_sound (length xs) xs o (omega arith))

  pub walks : AllRight rs → records_octets rs ≡ xs → walk_of xs ≡ records rs
  unfolding walk_of
  walks a e = sym (λ i. walk_in (length (e i)) (e i)) ∙ walk_complete rs a (length (records_octets rs)) (omega arith)
