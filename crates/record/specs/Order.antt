-- The order of releases (document 01, Record header: "by release, then extension, then version"): the number `rank` stands
-- for exactly this order among releases within their widths, and tells any two of them apart. The greatest and least of some
-- records are of one among them and bound them all (document 01, File header: "the greatest and least in that order among
-- the records"). The least of no records counts as 65,535, so the law of the least is for right records. Assumes nothing.
use Rattle.std.specs.Prelude.{◌≡◌, refl, Bool, true, false, ◌&&◌, ◌||◌, ◌⊎◌, ℕ, ◌≤◌, ◌<◌, leb, eqb, length}
use Rattle.std.proofs.Common.{ap, inl, inr, ⊎_elim, arith, leb-true, le-leb, eqb-true, eq-eqb, ne_eqb}
use mathlib.Core.List.Memᴰ
use mathlib.Core.List.{List, [], ◌∷◌, Memᴰ}
use Rattle.std.proofs.Math.Decide.{dec_lt, dec_le, ℕ_discrete}
use Rattle.refusals.specs.Tests.{both}
use Rattle.record.specs.declared.Release.{Release}
use Rattle.record.specs.Release.{narrow_release, NarrowRelease, rank}
use Rattle.record.specs.Record.{Record, AllRight, highest, lowest}

-- What the test of a release's widths says: of the two fields that share an octet, and of all three. An extension is an octet,
-- so that its own bound comes from the machine.
pub record InWidth (r : Release) : Type 0 where
  pub release : r.release < 8
  pub version : r.version < 32

pub in_width : (r : Release) → narrow_release r ≡ true → InWidth r
in_width r e =
    let t = both (leb r.release 7 && leb r.version 31) (eqb r.release 7 || eqb r.extension 0) e in
    let u = both (leb r.release 7) (leb r.version 31) t.0 in
    record { release = omega (arith, leb-true r.release 7 u.0); version = omega (arith, leb-true r.version 31 u.1) }

module _ (r : Release) where
  absent_by : (b : Bool) → eqb r.release 7 ≡ b → (b || eqb r.extension 0) ≡ true → (r.release ≡ 7 → ⊥) → r.extension ≡ 0
  absent_by true e t h = absurd (h (eqb-true _ _ e))
  absent_by false e t h = eqb-true _ _ t

  pub narrowed : r.extension < 256 → narrow_release r ≡ true → NarrowRelease r
  narrowed x e =
      let w = in_width r e in
      let a = both (leb r.release 7 && leb r.version 31) (eqb r.release 7 || eqb r.extension 0) e in
      record { release = w.release; extension = x; version = w.version; absent = absent_by (eqb r.release 7) refl a.1 }

  present_by : NarrowRelease r → Dec (r.release ≡ 7) → (eqb r.release 7 || eqb r.extension 0) ≡ true
  present_by n (yes e) = rw (eq-eqb _ _ e)
  present_by n (no h) = rw (ne_eqb _ _ h, eq-eqb _ _ (n.absent h))

  pub narrow_true : NarrowRelease r → narrow_release r ≡ true
  narrow_true n =
      let a : r.release ≤ 7 = omega (arith, n.release) in
      let b : r.version ≤ 31 = omega (arith, n.version) in
      rw (le-leb _ _ a, le-leb _ _ b) (present_by n (ℕ_discrete r.release 7))

-- 16 bits
pub rank_small : {r : Release} → NarrowRelease r → rank r < 65536
rank_small n = omega (arith, n.release, n.extension, n.version)

-- by release, then extension, then version
abbrev pub Before : Release → Release → Type 0
Before a b =
    (a.release < b.release)
    ⊎ ((a.release ≡ b.release) × ((a.extension < b.extension) ⊎ ((a.extension ≡ b.extension) × (a.version < b.version))))

module _ {a b : Release} (m : NarrowRelease a) (n : NarrowRelease b) where
  -- two releases of one rank are the same
  pub rank_same : rank a ≡ rank b → a ≡ b
  rank_same e =
      let r : a.release ≡ b.release = omega (arith, m.extension, m.version, n.extension, n.version) in
      let x : a.extension ≡ b.extension = omega (arith, m.version, n.version) in
      let v : a.version ≡ b.version = omega arith in
      λ i. record { release = r i; extension = x i; version = v i }

  by_extension : rank a < rank b → a.release ≡ b.release → Dec (a.extension < b.extension)
      → (a.extension < b.extension) ⊎ ((a.extension ≡ b.extension) × (a.version < b.version))
  by_extension l e (yes h) = inl h
  by_extension l e (no h) =
      let x : a.extension ≡ b.extension = omega (arith, m.version, n.version) in
      inr (x, omega arith)

  by_release : rank a < rank b → Dec (a.release < b.release) → Before a b
  by_release l (yes h) = inl h
  by_release l (no h) =
      let r : a.release ≡ b.release = omega (arith, m.extension, m.version, n.extension, n.version) in
      inr (r, by_extension l r (dec_lt a.extension b.extension))

  pub rank_before : rank a < rank b → Before a b
  rank_before l = by_release l (dec_lt a.release b.release)

  pub before_rank : Before a b → rank a < rank b
  before_rank (inl h) = omega (arith, m.extension, m.version)
  before_rank (inr (e, inl h)) = omega (arith, m.version)
  before_rank (inr (e, inr (x, h))) = omega arith

-- n is the rank of one of the records, and none has a greater one
pub record Greatest (rs : List Record) (n : ℕ) : Type 0 where
  pub one : Record
  pub member : Memᴰ one rs
  pub same : n ≡ rank one.header.release
  pub bound : (r : Record) → Memᴰ r rs → rank r.header.release ≤ n

-- n is the rank of one of the records, and none has a lesser one
pub record Least (rs : List Record) (n : ℕ) : Type 0 where
  pub one : Record
  pub member : Memᴰ one rs
  pub same : n ≡ rank one.header.release
  pub bound : (r : Record) → Memᴰ r rs → n ≤ rank r.header.release

-- `highest` is the greatest.
high_bound : (rs : List Record) (r : Record) → Memᴰ r rs → rank r.header.release ≤ highest rs
unfolding highest
high_bound [] r i = absurd (Memᴰ.not-nil i)
high_bound (s ∷ rs) r i =
    ⊎_elim
    (λ (e : r ≡ s). let q : rank r.header.release ≡ rank s.header.release = ap (λ (t : Record). rank t.header.release) e in omega (arith, q))
    (λ (j : Memᴰ r rs). omega (arith, high_bound rs r j))
    (Memᴰ.cases_cons i)

-- one record more in front, by whether it reaches the greatest of the others
high_front : (s : Record) (rs : List Record) → Greatest rs (highest rs) → Dec (highest rs ≤ rank s.header.release) → Greatest (s ∷ rs) (highest (s ∷ rs))
unfolding highest
high_front s rs g (yes h) = record { one = s; member = Memᴰ.head refl; same = omega arith; bound = high_bound (s ∷ rs) }
high_front s rs g (no h) =
    let e = g.same in
    record { one = g.one; member = Memᴰ.tail g.member; same = omega arith; bound = high_bound (s ∷ rs) }

pub highest_greatest : (rs : List Record) → 0 < length rs → Greatest rs (highest rs)
unfolding highest
highest_greatest [] some = let z : ⊥ = omega arith in absurd z
highest_greatest (s ∷ []) some =
    record { one = s; member = Memᴰ.head refl; same = omega arith; bound = high_bound (s ∷ []) }
highest_greatest (s ∷ (t ∷ rs)) some =
    high_front s (t ∷ rs) (highest_greatest (t ∷ rs) (omega arith)) (dec_le (highest (t ∷ rs)) (rank s.header.release))

-- `lowest` is the least.
low_bound : (rs : List Record) (r : Record) → Memᴰ r rs → lowest rs ≤ rank r.header.release
unfolding lowest
low_bound [] r i = absurd (Memᴰ.not-nil i)
low_bound (s ∷ rs) r i =
    ⊎_elim
    (λ (e : r ≡ s). let q : rank r.header.release ≡ rank s.header.release = ap (λ (t : Record). rank t.header.release) e in omega (arith, q))
    (λ (j : Memᴰ r rs). omega (arith, low_bound rs r j))
    (Memᴰ.cases_cons i)

low_front : (s : Record) (rs : List Record) → Least rs (lowest rs) → Dec (rank s.header.release ≤ lowest rs) → Least (s ∷ rs) (lowest (s ∷ rs))
unfolding lowest
low_front s rs l (yes h) = record { one = s; member = Memᴰ.head refl; same = omega arith; bound = low_bound (s ∷ rs) }
low_front s rs l (no h) =
    let e = l.same in
    record { one = l.one; member = Memᴰ.tail l.member; same = omega arith; bound = low_bound (s ∷ rs) }

pub lowest_least : (rs : List Record) → AllRight rs → 0 < length rs → Least rs (lowest rs)
unfolding lowest
lowest_least [] a some = let z : ⊥ = omega arith in absurd z
lowest_least (s ∷ []) a some =
    record { one = s; member = Memᴰ.head refl; same = omega (arith, rank_small a.0.release); bound = low_bound (s ∷ []) }
lowest_least (s ∷ (t ∷ rs)) a some =
    low_front s (t ∷ rs) (lowest_least (t ∷ rs) a.1 (omega arith)) (dec_le (rank s.header.release) (lowest (t ∷ rs)))
