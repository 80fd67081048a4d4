-- The words for a lost octet (specs/Lost.antt) mean just what the octet says (`Says`, state), so that no two phrases hold at once. Assumes nothing.
use Rattle.std.specs.Prelude.{◌≡◌, refl, ◌↔◌, Bool, true, false, cond, ℕ, ◌-◌, ◌<◌, eqb, ltb}
use Rattle.std.proofs.Common.{arith, eqb-true, ltb-true, ltb-false}
use Rattle.std.proofs.lemmas.Bool.{eqb-false}
use Rattle.state.specs.Loss.{Says}
use Rattle.state.proofs.Indicator.{says_none, says_least, says_least_many, says_some, says_exact, says_many, says_one}
use Rattle.wording.specs.Lost.{none_lost, least_lost, least_many_lost, unknown_lost, exactly_lost, many_lost, phrase_of, Means}

-- The words mean just what the octet says, of all octets, n, t and u.
pub says_means : (octet n t : ℕ) (u : Bool) → octet < 256 → Says octet n t u ↔ Means (phrase_of octet) n t u
says_means octet n t u h = go (eqb octet 0) (ltb octet 127) (eqb octet 127) (eqb octet 128) (ltb octet 255) refl refl refl refl refl
  where
    go : (z l f e m : Bool) → eqb octet 0 ≡ z → ltb octet 127 ≡ l → eqb octet 127 ≡ f → eqb octet 128 ≡ e → ltb octet 255 ≡ m
        → Says octet n t u
        ↔ Means (cond z none_lost (cond l (least_lost octet) (cond f least_many_lost (cond e unknown_lost (cond m (exactly_lost (octet - 128)) many_lost))))) n t u
    go true l f e m p q o r s =
        let k = eqb-true octet 0 p in (
          λ v. let w = v.none k in (w.0, omega arith, w.1.0),
          λ w. says_none k (w.0, (w.2, omega arith)),
        )
    go false true f e m p q o r s =
        let a = eqb-false octet 0 p in
        let b = ltb-true octet 127 q in (
          λ v. let w = v.least (omega arith) (omega arith) in (w.0, omega arith, w.1.0),
          λ w. says_least (omega arith) (omega arith) (w.0, (w.2, omega arith)),
        )
    go false false true e m p q o r s =
        let k = eqb-true octet 127 o in (
          λ v. let w = v.least_many k in (w.0, w.1.1, w.1.0),
          λ w. says_least_many k (w.0, (w.2, w.1)),
        )
    go false false false true m p q o r s =
        let k = eqb-true octet 128 r in (
          λ v. let w = v.some k in (w.0, w.1.0),
          λ w. says_some k (w.0, (w.1, omega arith)),
        )
    go false false false false true p q o r s =
        let a = ltb-false octet 127 q in
        let b = eqb-false octet 127 o in
        let c = eqb-false octet 128 r in
        let d = ltb-true octet 255 s in (
          λ v. let w = v.exact (omega arith) (omega arith) in (w.0, omega arith, w.1.0),
          λ w. says_exact (omega arith) (omega arith) (w.0, (w.2, omega arith)),
        )
    go false false false false false p q o r s =
        let k = ltb-false octet 255 s in (
          λ v. let w = v.many (omega arith) in (w.0, w.1.1, w.1.0),
          λ w. says_many (omega arith) (w.0, (w.2, w.1)),
        )

-- No two octets have phrases that hold at once.
pub means_one : (a b n t : ℕ) (u : Bool) → a < 256 → b < 256 → Means (phrase_of a) n t u → Means (phrase_of b) n t u → a ≡ b
means_one a b n t u ha hb x y = says_one a b n t u ha hb ((says_means a n t u ha).1 x) ((says_means b n t u hb).1 y)
