-- `equal_octets` (Reconciled) is a test of equality.
use Rattle.std.specs.Prelude.{◌≡◌, refl, true, ◌&&◌, List, [], ◌∷◌, ℕ, eqb}
use Rattle.std.proofs.lemmas.Bool.{false≢true}
use Rattle.std.proofs.Common.{eq-eqb, eqb-true}
use Rattle.refusals.specs.Tests.{both}
use Rattle.multisets.specs.InBoth.{Equality}
use Rattle.reconcile.specs.Reconciled.{equal_octets}

equal_self : (xs : List ℕ) → equal_octets xs xs ≡ true
equal_self [] = refl
equal_self (x ∷ xs) = λ i. eq-eqb x x refl i && equal_self xs i

equal_is : (xs ys : List ℕ) → equal_octets xs ys ≡ true → xs ≡ ys
equal_is [] [] e = refl
equal_is [] (y ∷ ys) e = absurd (false≢true e)
equal_is (x ∷ xs) [] e = absurd (false≢true e)
equal_is (x ∷ xs) (y ∷ ys) e =
    let t = both (eqb x y) (equal_octets xs ys) e in
    λ i. eqb-true x y t.0 i ∷ equal_is xs ys t.1 i

pub equal_octets_lem : Equality equal_octets
equal_octets_lem = record { self = equal_self; is = equal_is }
