-- Records one behind another (document 01, Reader: "walks the rest of the file from each record's end"): the list of the
-- records that some octets are, or that one is cut; and what the reader needs of the list. Assumes nothing.
use Rattle.std.specs.Prelude.{◌≡◌, refl, true, false, cond, List, [], ◌∷◌, ℕ, zero, suc, Option, Some, None, ◌+◌, ◌-◌, ◌≤◌, max, min, eqb, length, take, drop}
use Rattle.std.proofs.Common.{sym, ap, ◌∙◌, subst, subst₂, arith, lit≤, length-drop, take_all, eq-eqb, ne_eqb}
use Rattle.record.specs.declared.RecordHeader.{RecordHeader}
use Rattle.record.specs.declared.Stepped.{Stepped}
use Rattle.record.specs.declared.Totals.{Totals}
use Rattle.record.specs.Release.{rank}
use Rattle.record.specs.Record.{Record, highest, lowest}
use Rattle.record.specs.Step.{cut, record_of, record_length_at, inside, Taken}

pub data Walked : Type 0 where
  records : List Record → Walked
  broken : Walked

abbrev pub prepend : Record → Walked → Walked
prepend r (records rs) = records (r ∷ rs)
prepend r broken = broken

-- the walk of at most n records; a record has four octets or more, so n is enough for all of them where it is the number of octets
abbrev pub walk_in : ℕ → List ℕ → Walked
walk_in zero xs = records []
walk_in (suc n) xs =
    cond (eqb (length xs) 0) (records [])
    (cond (cut xs) broken (prepend (record_of xs) (walk_in n (drop (record_length_at xs) xs))))

unfoldable pub walk_of : List ℕ → Walked
walk_of xs = walk_in (length xs) xs

-- what a walk found: refusal 0 with the number of records and the greatest and least place in the order of releases, or 11 with zeros
pub record Tallied : Type 0 where
  pub refusal : ℕ
  pub count : ℕ
  pub high : ℕ
  pub low : ℕ

abbrev broken_tally : Tallied
broken_tally = record { refusal = 11; count = 0; high = 0; low = 0 }

-- what a walk says of its records: their number, and the greatest and the least of their releases
abbrev pub tallied : Walked → Tallied
tallied (records rs) = record { refusal = 0; count = length rs; high = highest rs; low = lowest rs }
tallied broken = broken_tally

-- the same of what the code finds, and of its answer
abbrev pub found : Totals → Tallied
found t = record { refusal = 0; count = t.count; high = t.high; low = t.low }

abbrev pub answer_of : Option Totals → Tallied
answer_of (Some t) = found t
answer_of None = broken_tally

unfoldable pub tally_of : List ℕ → Tallied
tally_of xs = tallied (walk_of xs)

-- The cases of a walk.
pub walk_end : (n : ℕ) (xs : List ℕ) → length xs ≡ 0 → walk_in n xs ≡ records []
walk_end zero xs e = refl
walk_end (suc n) xs e = rw (eq-eqb _ _ e)

module _ (n : ℕ) (xs : List ℕ) (some : length xs ≡ 0 → ⊥) where
  pub walk_cut : cut xs ≡ true → walk_in (suc n) xs ≡ broken
  walk_cut e = rw (ne_eqb _ _ some, e)

  pub walk_on : cut xs ≡ false → walk_in (suc n) xs ≡ prepend (record_of xs) (walk_in n (drop (record_length_at xs) xs))
  walk_on e = rw (ne_eqb _ _ some, e)

-- A loop that goes on from a count and the greatest and least so far.
abbrev on_from : ℕ → ℕ → ℕ → Walked → Tallied
on_from k h l (records rs) = record { refusal = 0; count = k + length rs; high = max h (highest rs); low = min l (lowest rs) }
on_from k h l broken = broken_tally

lowest_most : (rs : List Record) → lowest rs ≤ 65535
unfolding lowest
lowest_most [] = lit≤ tt
lowest_most (r ∷ rs) = omega (arith, lowest_most rs)

from_none : (w : Walked) → on_from 0 0 65535 w ≡ tallied w
from_none broken = refl
from_none (records rs) =
    let c : 0 + length rs ≡ length rs = omega arith in
    let h : max 0 (highest rs) ≡ highest rs = omega arith in
    let l : min 65535 (lowest rs) ≡ lowest rs = omega (arith, lowest_most rs) in
    λ i. record { refusal = 0; count = c i; high = h i; low = l i }

max_regroup : (a b c : ℕ) → max a (max b c) ≡ max (max a b) c
max_regroup a b c = omega arith

min_regroup : (a b c : ℕ) → min a (min b c) ≡ min (min a b) c
min_regroup a b c = omega arith

min_small : (a b : ℕ) → a ≤ 65535 → min a b ≤ 65535
min_small a b h = omega arith

one_more : (k h l : ℕ) (r : Record) (w : Walked)
    → on_from k h l (prepend r w) ≡ on_from (k + 1) (max h (rank r.header.release)) (min l (rank r.header.release)) w
unfolding highest lowest
one_more k h l r broken = refl
one_more k h l r (records rs) =
    let x : ℕ = rank r.header.release in
    let c : k + suc (length rs) ≡ k + 1 + length rs = omega arith in
    let g : max h (max x (highest rs)) ≡ max (max h x) (highest rs) = max_regroup h x (highest rs) in
    let s : min l (min x (lowest rs)) ≡ min (min l x) (lowest rs) = min_regroup l x (lowest rs) in
    λ i. record { refusal = 0; count = c i; high = g i; low = s i }

-- the records before `rest` are counted in k, h and l
pub record Walking (file rest : List ℕ) (k h l : ℕ) : Type 0 where
  pub fuel : ℕ
  pub enough : length rest ≤ fuel
  pub few : k + length rest ≤ length file
  pub small : l ≤ 65535
  pub same : on_from k h l (walk_in fuel rest) ≡ tally_of file

pub walking_none : (file : List ℕ) → Walking file file 0 0 65535
unfolding tally_of walk_of
walking_none file = record { fuel = length file; enough = omega arith; few = omega arith; small = lit≤ tt; same = from_none (walk_in (length file) file) }

-- the part of a slice that starts at n
pub part_from : (xs : List ℕ) (n : ℕ) → take (length xs - n) (drop n xs) ≡ drop n xs
part_from xs n = take_all (length xs - n) (drop n xs) (omega (arith, length-drop n xs))

module _ (file rest : List ℕ) (k h l : ℕ) (some : length rest ≡ 0 → ⊥) where
  on : (f : ℕ) → length rest ≤ f → k + length rest ≤ length file → l ≤ 65535 → on_from k h l (walk_in f rest) ≡ tally_of file → cut rest ≡ false
      → Walking file (drop (record_length_at rest) rest) (k + 1) (max h (rank (record_of rest).header.release)) (min l (rank (record_of rest).header.release))
  on zero e w b s c = absurd (some (omega arith))
  on (suc f) e w b s c =
      let i = inside rest c in
      let r = record_of rest in
      record {
        fuel = f;
        enough = rw (length-drop (record_length_at rest) rest) (omega (arith, i.some, i.within));
        few = rw (length-drop (record_length_at rest) rest) (omega (arith, i.some, i.within));
        small = min_small l _ b;
        same = sym (ap (on_from k h l) (walk_on f rest some c) ∙ one_more k h l r (walk_in f (drop (record_length_at rest) rest))) ∙ s;
      }

  pub walking_on : Walking file rest k h l → cut rest ≡ false
      → Walking file (drop (record_length_at rest) rest) (k + 1) (max h (rank (record_of rest).header.release)) (min l (rank (record_of rest).header.release))
  walking_on v c = on v.fuel v.enough v.few v.small v.same c

  -- the same in a loop's terms: the rest is the part behind the record that the step found
  pub walking_taken : Walking file rest k h l → {s : Stepped} → Taken rest s → {g m : ℕ} → g ≡ max h (rank s.fields.release) → m ≡ min l (rank s.fields.release)
      → Walking file (take (length rest - (s.header + s.body)) (drop (s.header + s.body) rest)) (k + 1) g m
  walking_taken v {s} t {g} {m} eg em =
      let d = part_from rest (s.header + s.body) ∙ (λ i. drop (t.header i + t.body i) rest) in
      let pg = eg ∙ ap (λ (f : RecordHeader). max h (rank f.release)) t.fields in
      let pm = em ∙ ap (λ (f : RecordHeader). min l (rank f.release)) t.fields in
      subst (λ (r : List ℕ). Walking file r (k + 1) g m) (sym d)
      (subst₂ (λ (a b : ℕ). Walking file (drop (record_length_at rest) rest) (k + 1) a b) (sym pg) (sym pm) (walking_on v t.whole))

  break : (f : ℕ) → length rest ≤ f → on_from k h l (walk_in f rest) ≡ tally_of file → cut rest ≡ true → broken_tally ≡ tally_of file
  break zero e s c = absurd (some (omega arith))
  break (suc f) e s c = sym (ap (on_from k h l) (walk_cut f rest some c)) ∙ s

  pub walking_broken : Walking file rest k h l → cut rest ≡ true → broken_tally ≡ tally_of file
  walking_broken v c = break v.fuel v.enough v.same c

-- at the end the count, the greatest and the least are the file's
pub walking_end : (file rest : List ℕ) (k h l : ℕ) → Walking file rest k h l → length rest ≡ 0
    → record { refusal = 0; count = k; high = h; low = l } ≡ tally_of file
unfolding highest lowest
walking_end file rest k h l v e =
    let c : k ≡ k + 0 = omega arith in
    let g : h ≡ max h 0 = omega arith in
    let s : l ≡ min l 65535 = omega (arith, v.small) in
    (λ i. record { refusal = 0; count = c i; high = g i; low = s i }) ∙ sym (ap (on_from k h l) (walk_end v.fuel rest e)) ∙ v.same
