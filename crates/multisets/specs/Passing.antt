-- How many elements of a list pass a test, and lists in order.
use Rattle.std.specs.Prelude.{◌≡◌, refl, Bool, true, false, List, [], ◌∷◌, ◌++◌, map, ℕ, zero, suc, ◌+◌, ◌≤◌, length, take, drop}
use Rattle.std.proofs.Common.{sym, ap, ◌∙◌, arith, take-append-drop}

abbrev pub one_if : Bool → ℕ
one_if true = 1
one_if false = 0

abbrev pub passing : {A : Type 0} → (A → Bool) → List A → ℕ
passing p [] = 0
passing p (x ∷ xs) = one_if (p x) + passing p xs

-- the same elements, each as often: every test finds as many
abbrev pub SameElements : {A : Type 0} → List A → List A → Type 0
SameElements {A} xs ys = (p : A → Bool) → passing p xs ≡ passing p ys

-- in order: no element stands after one that it comes before
abbrev pub Sorted : {A : Type 0} → (A → A → Bool) → List A → Type 0
Sorted less [] = Unit {0}
Sorted less (x ∷ xs) = (passing (λ y. less y x) xs ≡ 0) × Sorted less xs

module _ {A : Type 0} (p : A → Bool) where
  pub passing_append : (xs ys : List A) → passing p (xs ++ ys) ≡ passing p xs + passing p ys
  passing_append [] ys = omega arith
  passing_append (x ∷ xs) ys = omega (arith, passing_append xs ys)

  pub passing_split : (n : ℕ) (xs : List A) → passing p (take n xs) + passing p (drop n xs) ≡ passing p xs
  passing_split n xs = sym (passing_append (take n xs) (drop n xs)) ∙ ap (passing p) (take-append-drop n xs)

-- every test that finds nothing, and is implied, finds nothing
pub passing_none : {A : Type 0} (p q : A → Bool) → ((x : A) → q x ≡ false → p x ≡ false) → (xs : List A) → passing q xs ≡ 0 → passing p xs ≡ 0
passing_none p q h [] e = refl
passing_none {A} p q h (x ∷ xs) e = go (q x) refl (passing_none p q h xs (omega arith))
  where
    go : (b : Bool) → q x ≡ b → passing p xs ≡ 0 → passing p (x ∷ xs) ≡ 0
    go true f r = absurd (let z : one_if (q x) ≡ 1 = rw f in omega arith)
    go false f r = let z : one_if (p x) ≡ 0 = rw (h x f) in omega arith

pub passing_all : {A : Type 0} (xs : List A) → passing (λ _. true) xs ≡ length xs
passing_all [] = refl
passing_all (x ∷ xs) = omega (arith, passing_all xs)

pub same_length : {A : Type 0} (xs ys : List A) → SameElements xs ys → length xs ≡ length ys
same_length xs ys h = sym (passing_all xs) ∙ h (λ _. true) ∙ passing_all ys

pub passing_map : {A B : Type 0} (f : A → B) (p : B → Bool) (xs : List A) → passing p (map f xs) ≡ passing (λ x. p (f x)) xs
passing_map f p [] = refl
passing_map f p (x ∷ xs) = ap (λ (n : ℕ). one_if (p (f x)) + n) (passing_map f p xs)
