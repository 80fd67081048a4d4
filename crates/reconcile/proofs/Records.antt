-- The records that are compared, from an offset on, are those that the walk over the file finds there, each as its octets.
use Rattle.std.specs.Prelude.{◌≡◌, refl, Bool, true, false, List, [], ◌∷◌, ◌++◌, map, ℕ, zero, suc, ◌+◌, ◌-◌, ◌≤◌, length, take, drop}
use Rattle.std.proofs.Common.{sym, ap, ◌∙◌, arith, length-append, drop-drop, take_at}
use Rattle.std.proofs.Math.Decide.{ℕ_discrete}
use Rattle.std.proofs.Math.ListN.{length-drop}
use Rattle.octets.specs.Number.{Octets, octets_drop}
use Rattle.record.specs.Record.{Record, record_octets}
use Rattle.record.specs.Step.{cut, record_length_at, record_of, inside, header_least, cut_short}
use Rattle.record.specs.Walk.{Walked, records, broken, prepend, walk_in, walk_of, walk_end, walk_cut, walk_on}
use Rattle.record.specs.Format.{found_octets}
use Rattle.recordorder.specs.At.{record_at, at_whole}
use Rattle.offsets.specs.Offsets.{offsets_in, offsets_of, records_from, offsets_cut, offsets_on}

module _ (file : List ℕ) (o : Octets file) where
  -- the octets of a record that begins at an offset
  octets_are : (at : ℕ) → cut (drop at file) ≡ false → record_at file at ≡ record_octets (record_of (drop at file))
  octets_are at c =
      let xs = drop at file in
      let r = record_octets (record_of xs) in
      let e : r ++ drop (record_length_at xs) xs ≡ xs = found_octets (octets_drop at o) c in
      let i = inside xs c in
      let n : length r ≡ record_length_at xs =
      omega (arith, ap length e, length-append r (drop (record_length_at xs) xs), length-drop (record_length_at xs) xs, i.within) in
      at_whole file at c ∙ ap (take (record_length_at xs)) (sym e) ∙ take_at r (drop (record_length_at xs) xs) (record_length_at xs) n

  -- what a walk with fuel f finds, with fuel g for the offsets
  abbrev Finds : ℕ → Type 0
  Finds f = (g at : ℕ) (rs : List Record) → length (drop at file) ≤ f → length (drop at file) ≤ g → walk_in f (drop at file) ≡ records rs
      → map (record_at file) (offsets_in g file at) ≡ map record_octets rs

  at_end : (f g at : ℕ) (rs : List Record) → length (drop at file) ≡ 0 → walk_in f (drop at file) ≡ records rs
      → map (record_at file) (offsets_in g file at) ≡ map record_octets rs
  at_end f g at rs z e =
      let n : [] ≡ rs = let w = walk_end f (drop at file) z in cc in
      ap (map (record_at file)) (offsets_cut g file at (cut_short (drop at file) (omega arith))) ∙ ap (map record_octets) n

  module _ (f : ℕ) (more : Finds f) (at : ℕ) (rs : List Record) (some : length (drop at file) ≡ 0 → ⊥) (enough : length (drop at file) ≤ suc f)
      (e : walk_in (suc f) (drop at file) ≡ records rs) where
    -- by what the walk finds after the first record
    by_rest : (g : ℕ) → length (drop at file) ≤ suc g → cut (drop at file) ≡ false → (w : Walked) → walk_in f (drop (record_length_at (drop at file)) (drop at file)) ≡ w
        → map (record_at file) (offsets_in (suc g) file at) ≡ map record_octets rs
    by_rest g k c broken p =
        let q : prepend (record_of (drop at file)) broken ≡ records rs = ap (prepend (record_of (drop at file))) (sym p) ∙ sym (walk_on f (drop at file) some c) ∙ e in
        let z : ◌≡◌ {A = ℕ} 0 1 = cc in
        absurd (omega arith)
    by_rest g k c (records ss) p =
        let n = record_length_at (drop at file) in
        let q : records (record_of (drop at file) ∷ ss) ≡ records rs = ap (prepend (record_of (drop at file))) (sym p) ∙ sym (walk_on f (drop at file) some c) ∙ e in
        let t : record_of (drop at file) ∷ ss ≡ rs = cc in
        let l : length (drop (at + n) file) ≤ length (drop at file) - n = rw (← drop-drop n at file, length-drop n (drop at file)) (omega arith) in
        let h = header_least (drop at file) in
        let r = more g (at + n) ss (omega arith) (omega arith) (ap (walk_in f) (sym (drop-drop n at file)) ∙ p) in
        ap (map (record_at file)) (offsets_on g file at c) ∙ (λ i. octets_are at c i ∷ r i) ∙ ap (map record_octets) t

    by_cut : (g : ℕ) → length (drop at file) ≤ g → (b : Bool) → cut (drop at file) ≡ b → map (record_at file) (offsets_in g file at) ≡ map record_octets rs
    by_cut g k true c = let z : ◌≡◌ {A = ℕ} 0 1 = let w = walk_cut f (drop at file) some c in cc in absurd (omega arith)
    by_cut zero k false c = absurd (some (omega arith))
    by_cut (suc g) k false c = by_rest g k c (walk_in f (drop (record_length_at (drop at file)) (drop at file))) refl

  finds : (f : ℕ) → Finds f
  finds zero g at rs h k e = at_end zero g at rs (omega arith) e
  finds (suc f) g at rs h k e = go (ℕ_discrete (length (drop at file)) 0) (λ some. by_cut f (finds f) at rs some h e g k (cut (drop at file)) refl)
    where
      go : Dec (length (drop at file) ≡ 0) → ((length (drop at file) ≡ 0 → ⊥) → map (record_at file) (offsets_in g file at) ≡ map record_octets rs)
          → map (record_at file) (offsets_in g file at) ≡ map record_octets rs
      go (yes z) n = at_end (suc f) g at rs z e
      go (no some) n = n some

  -- the records that are compared are those of the walk
  pub records_are : (from : ℕ) (rs : List Record) → walk_of (drop from file) ≡ records rs → records_from file from ≡ map record_octets rs
  unfolding walk_of offsets_of
  records_are from rs e = finds (length (drop from file)) (length file) from rs (omega arith) (omega (arith, length-drop from file)) e
