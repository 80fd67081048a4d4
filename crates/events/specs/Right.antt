-- What the events do to a route keeps it within its bounds (refusal 18): 18 never comes. Assumes nothing.
use Rattle.std.specs.Prelude.{◌≡◌, ℕ, ◌+◌, ◌*◌, ◌<◌, ◌≤◌, min, max, Bool, true, false, cond, not, ◌||◌, [], ◌∷◌, length, ◌==◌, ◌≢◌, nat_eq, nat_lt, refl}
use Rattle.std.proofs.Common.{sym, ap, ◌∙◌, arith, le-leb, lt-ltb, eq-eqb, ne_eqb, eqb-true, ltb-true, ltb-false}
use Rattle.std.proofs.Math.Decide.{ℕ_discrete}
use Rattle.std.proofs.lemmas.Bool.{eqb-false}
use Rattle.record.specs.declared.Release.{Release}
use Rattle.record.specs.declared.RecordHeader.{RecordHeader}
use Rattle.record.specs.Release.{narrow_release, rank, extension_octets}
use Rattle.state.specs.declared.RouteSettings.{RouteSettings}
use Rattle.state.specs.declared.OpenFile.{OpenFile}
use Rattle.state.specs.Size.{header_size}
use Rattle.refusals.specs.Tests.{each}
use Rattle.state.specs.Bounds.{same_release, file_tests, file_right}
use Rattle.state.specs.Within.{FileWithin, within_file}
use Rattle.events.specs.Rules.{opened_file, later, earlier, high_with, low_with, appended_file}

-- a disjunction with a true side
or_true : (a : Bool) {b : Bool} → b ≡ true → (a || b) ≡ true
or_true true e = refl
or_true false e = e

left_true : {a : Bool} (b : Bool) → a ≡ true → (a || b) ≡ true
left_true b e = rw e

-- the facts that the tests of an open file ask
pub record FileFacts (last : ℕ) (s : RouteSettings) (f : OpenFile) : Type 0 where
  pub opened : f.opened ≤ f.appended
  pub appended : f.appended ≤ last
  pub order : rank f.low ≤ rank f.high
  pub same : (s.flag == 0 || same_release f.low f.high) ≡ true
  pub high : narrow_release f.high ≡ true
  pub low : narrow_release f.low ≡ true
  pub format : f.format ≤ 7
  pub size : header_size s.octets f.high f.low + f.octets ≤ s.limit
  pub four : 4 * f.count ≤ f.octets
  pub none : (not (f.count == 0) || f.octets == 0) ≡ true
  pub empty : (not (f.count == 0) || f.appended == f.opened) ≡ true
  pub plain_high : (not (f.count == 0) || same_release f.high s.release) ≡ true
  pub plain_low : (not (f.count == 0) || same_release f.low s.release) ≡ true
  pub below : (s.most == 0 || nat_lt f.count s.most) ≡ true

-- what Within says, as they ask for it
pub facts_of : {last : ℕ} {s : RouteSettings} {f : OpenFile} → FileWithin last s f → FileFacts last s f
unfolding file_right
facts_of {last} {s} {f} w =
    let t = each (file_tests last s f) (within_file last s f w) in
    record {
      opened = w.opened;
      appended = w.appended;
      order = w.ordered;
      same = t 3;
      high = w.high;
      low = w.low;
      format = w.format;
      size = w.size;
      four = w.records;
      none = t 9;
      empty = t 10;
      plain_high = t 11;
      plain_low = t 12;
      below = t 13;
    }

pub file_right_lem : {last : ℕ} {s : RouteSettings} {f : OpenFile} → FileFacts last s f → file_right last s f ≡ true
unfolding file_right
file_right_lem x =
    rw (
      le-leb _ _ x.opened,
      le-leb _ _ x.appended,
      le-leb _ _ x.order,
      x.same,
      x.high,
      x.low,
      le-leb _ _ x.format,
      le-leb _ _ x.size,
      le-leb _ _ x.four,
      x.none,
      x.empty,
      x.plain_high,
      x.plain_low,
      x.below,
    )

-- the size of an extension
extension_most : (r : Release) → length (extension_octets r) ≤ 1
extension_most r = most (r.release == 7)
  where
    most : (b : Bool) → length (cond b (r.extension ∷ []) []) ≤ 1
    most true = omega arith
    most false = omega arith

-- An empty file.
pub opened_right : (s : RouteSettings) (sequence t : ℕ) → s.octets ≤ 20 → 128 ≤ s.limit → narrow_release s.release ≡ true → file_right t s (opened_file s sequence t) ≡ true
opened_right s sequence t filter limit narrow =
    file_right_lem
    (record {
      opened = omega arith;
      appended = omega arith;
      order = omega arith;
      same = or_true (s.flag == 0) (eq-eqb (rank s.release) (rank s.release) refl);
      high = narrow;
      low = narrow;
      format = omega arith;
      size = omega (arith, extension_most s.release);
      four = omega arith;
      none = refl;
      empty = eq-eqb t t refl;
      plain_high = eq-eqb (rank s.release) (rank s.release) refl;
      plain_low = eq-eqb (rank s.release) (rank s.release) refl;
      below = by_limit (ℕ_discrete s.most 0);
    })
  where
    by_limit : Dec (s.most ≡ 0) → (s.most == 0 || nat_lt 0 s.most) ≡ true
    by_limit (yes e) = left_true (nat_lt 0 s.most) (eq-eqb _ _ e)
    by_limit (no e) = or_true (s.most == 0) (lt-ltb 0 s.most (omega arith))

-- The greater and the lesser release.
pick_rank : (b : Bool) (x y : Release) → rank (cond b x y) ≡ cond b (rank x) (rank y)
pick_rank true x y = refl
pick_rank false x y = refl

pub rank_later : (a b : Release) → rank (later a b) ≡ max (rank a) (rank b)
rank_later a b = pick_rank (nat_lt (rank a) (rank b)) b a ∙ go (nat_lt (rank a) (rank b)) refl
  where
    go : (t : Bool) → nat_lt (rank a) (rank b) ≡ t → cond t (rank b) (rank a) ≡ max (rank a) (rank b)
    go true e = let h = ltb-true (rank a) (rank b) e in omega arith
    go false e = let h = ltb-false (rank a) (rank b) e in omega arith

pub rank_earlier : (a b : Release) → rank (earlier a b) ≡ min (rank a) (rank b)
rank_earlier a b = pick_rank (nat_lt (rank b) (rank a)) b a ∙ go (nat_lt (rank b) (rank a)) refl
  where
    go : (t : Bool) → nat_lt (rank b) (rank a) ≡ t → cond t (rank b) (rank a) ≡ min (rank a) (rank b)
    go true e = let h = ltb-true (rank b) (rank a) e in omega arith
    go false e = let h = ltb-false (rank b) (rank a) e in omega arith

pick_narrow : (b : Bool) (x y : Release) → narrow_release x ≡ true → narrow_release y ≡ true → narrow_release (cond b x y) ≡ true
pick_narrow true x y p q = p
pick_narrow false x y p q = q

-- A file with one record more, which did not close it.
pub record Appends (last : ℕ) (s : RouteSettings) (f : OpenFile) (h : RecordHeader) (n t : ℕ) : Type 0 where
  pub before : FileFacts last s f
  pub narrow : narrow_release h.release ≡ true
  pub format : h.format ≤ 7
  pub time : last ≤ t
  pub some : 4 ≤ n
  pub alike : (f.count ≢ 0) → (s.flag ≢ 0) → rank f.high ≡ rank h.release
  pub fits : header_size s.octets (high_with f h.release) (low_with f h.release) + f.octets + n ≤ s.limit
  pub short : (s.most ≢ 0) → f.count + 1 < s.most

same_rank : (a b : Release) → rank a ≡ rank b → same_release a b ≡ true
same_rank a b e = eq-eqb (rank a) (rank b) e

module _ {last : ℕ} {s : RouteSettings} {f : OpenFile} {h : RecordHeader} {n t : ℕ} (x : Appends last s f h n t) where
  -- with flag 1 low and high stay the same
  flagged : Dec (s.flag ≡ 0) → (b : Bool) → (f.count == 0) ≡ b
      → (s.flag == 0 || same_release (cond b h.release (earlier f.low h.release)) (cond b h.release (later f.high h.release))) ≡ true
  flagged (yes e) b c = left_true _ (eq-eqb s.flag 0 e)
  flagged (no e) true c = or_true (s.flag == 0) (same_rank h.release h.release refl)
  flagged (no e) false c =
      let r = h.release in
      let y = x.before in
      let hi = x.alike (eqb-false f.count 0 c) e in
      let lo : rank f.low ≡ rank f.high = same_low y.same in
      let a = rank_earlier f.low r in
      let b = rank_later f.high r in
      or_true (s.flag == 0) (same_rank (earlier f.low r) (later f.high r) (omega arith))
    where
      same_low : (s.flag == 0 || same_release f.low f.high) ≡ true → rank f.low ≡ rank f.high
      same_low w = eqb-true (rank f.low) (rank f.high) (sym (ap (λ (b : Bool). b || same_release f.low f.high) (ne_eqb s.flag 0 e)) ∙ w)

  ranks : (b : Bool) → rank (cond b h.release (earlier f.low h.release)) ≤ rank (cond b h.release (later f.high h.release))
  ranks true = omega arith
  ranks false = omega (arith, rank_earlier f.low h.release, rank_later f.high h.release, x.before.order)

  below : Dec (s.most ≡ 0) → (s.most == 0 || nat_lt (f.count + 1) s.most) ≡ true
  below (yes e) = left_true _ (eq-eqb s.most 0 e)
  below (no e) = or_true (s.most == 0) (lt-ltb _ _ (x.short e))

  counted : nat_eq (f.count + 1) 0 ≡ false
  counted = ne_eqb (f.count + 1) 0 (λ e. omega arith)

  pub appended_right : file_right t s (appended_file f h n t) ≡ true
  appended_right =
      let y = x.before in
      let b = nat_eq f.count 0 in
      file_right_lem
      (record {
        opened = omega (arith, y.opened, y.appended, x.time);
        appended = omega arith;
        order = ranks b;
        same = flagged (ℕ_discrete s.flag 0) b refl;
        high = pick_narrow b h.release (later f.high h.release) x.narrow (pick_narrow (nat_lt (rank f.high) (rank h.release)) h.release f.high x.narrow y.high);
        low = pick_narrow b h.release (earlier f.low h.release) x.narrow (pick_narrow (nat_lt (rank h.release) (rank f.low)) h.release f.low x.narrow y.low);
        format = x.format;
        size = omega (arith, x.fits);
        four = omega (arith, y.four, x.some);
        none = left_true _ (ap not counted);
        empty = left_true _ (ap not counted);
        plain_high = left_true _ (ap not counted);
        plain_low = left_true _ (ap not counted);
        below = below (ℕ_discrete s.most 0);
      })
