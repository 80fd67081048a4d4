-- Tests that hold: how a list of tests (document 01, Refusals 18: all of the bounds at once) is shown from its parts, and what
-- a test under a condition says. It speaks of Booleans only. Assumes nothing.
use Rattle.std.specs.Prelude.{◌≡◌, refl, Bool, true, false, not, ◌&&◌, ◌||◌, List, [], ◌∷◌}
use Rattle.std.proofs.Common.{true≢false}
use Rattle.std.proofs.lemmas.Bool.{false≢true}
use Rattle.refusals.specs.Tests.{and_all, all_of}

-- each test of the list holds
pub data Hold : List Bool → Type 0 where
  none : Hold []
  ◌also◌ : {b : Bool} {bs : List Bool} → b ≡ true → Hold bs → Hold (b ∷ bs)

infixr 5 ◌also◌
-- two tests hold together
pub and_holds : {a b : Bool} → a ≡ true → b ≡ true → (a && b) ≡ true
and_holds p q = rw (p, q)

and_all_holds : (b : Bool) (bs : List Bool) → b ≡ true → Hold bs → and_all b bs ≡ true
and_all_holds b [] p none = p
and_all_holds b (x ∷ xs) p (q also h) = and_all_holds (b && x) xs (and_holds p q) h

pub all_hold : (bs : List Bool) → Hold bs → all_of bs ≡ true
all_hold [] none = refl
all_hold (b ∷ bs) (p also h) = and_all_holds b bs p h

-- of two tests one holds: the second where the first does not
pub or_holds : (a b : Bool) → (a ≡ false → b ≡ true) → (a || b) ≡ true
or_holds true b h = refl
or_holds false b h = h refl

pub or_second : (a b : Bool) → (a || b) ≡ true → a ≡ false → b ≡ true
or_second true b e f = absurd (true≢false f)
or_second false b e f = e

-- a test under a condition
pub if_holds : (a b : Bool) → (a ≡ true → b ≡ true) → (not a || b) ≡ true
if_holds true b h = h refl
if_holds false b h = refl

pub if_then : (a b : Bool) → (not a || b) ≡ true → a ≡ true → b ≡ true
if_then true b e p = e
if_then false b e p = absurd (false≢true p)
