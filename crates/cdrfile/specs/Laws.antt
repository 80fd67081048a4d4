-- Laws of a file's octets: their number, and that writing the pieces one behind another makes the file. Assumes nothing.
use Rattle.std.specs.Prelude.{◌≡◌, true, List, [], ◌∷◌, ◌++◌, ℕ, ◌+◌, ◌≤◌, ◌<◌, length, set}
use Rattle.std.proofs.Common.{sym, ap, ◌∙◌, append_assoc, append-nil, arith, length-append, drop_of_length-le, eq-eqb, ne_eqb}
use Rattle.std.proofs.Math.Decide.{ℕ_discrete}
use Rattle.octets.specs.Number.{be}
use Rattle.octets.specs.Splice.{splice, splice_then, set_then}
use Rattle.record.specs.declared.Release.{Release}
use Rattle.record.specs.Release.{extension_octets}
use Rattle.cdrfile.specs.declared.Header.{Header}
use Rattle.cdrfile.specs.Statement.{agrees, stated_none}
use Rattle.cdrfile.specs.File.{private_octets, header_length, fixed_octets, file_octets}

pub file_length : (h : Header) (filter private body : List ℕ) (count : ℕ) → length (file_octets h filter private body count) ≡ header_length h filter private + length body
unfolding file_octets fixed_octets
file_length h filter private body count =
    let a = length-append filter (private_octets h.statement private ++ (extension_octets h.high ++ (extension_octets h.low ++ body))) in
    let b = length-append (private_octets h.statement private) (extension_octets h.high ++ (extension_octets h.low ++ body)) in
    let c = length-append (extension_octets h.high) (extension_octets h.low ++ body) in
    let d = length-append (extension_octets h.low) body in
    omega arith

-- octets 1 to 50
pub fifty : (total header count filter : ℕ) (h : Header) {fixed : List ℕ} → fixed ≡ fixed_octets total header count filter h → length fixed ≡ 50
unfolding fixed_octets
fifty total header count filter h e = ap length e

-- `out` is `start` with the octets `ys` written over its beginning
pub record Laid (start out ys : List ℕ) : Type 0 where
  pub is : out ≡ splice start 0 ys

-- what is written behind lengthens it
pub laid_more : {start out out' ys : List ℕ} (n : ℕ) (zs : List ℕ) → Laid start out ys → out' ≡ splice out n zs → n ≡ length ys → Laid start out' (ys ++ zs)
laid_more {start} {out} {out'} {ys} n zs l e p =
    record { is = e ∙ ap (λ (o : List ℕ). splice o n zs) l.is ∙ splice_then start 0 ys (omega arith) zs n (omega (arith, p)) }

-- and so does an octet that is stored behind
pub laid_octet : {start out out' ys : List ℕ} (n a : ℕ) → Laid start out ys → out' ≡ set out n a → n ≡ length ys → length ys < length start → Laid start out' (ys ++ (a ∷ []))
laid_octet {start} {out} {out'} {ys} n a l e p h =
    record { is = e ∙ ap (λ (o : List ℕ). set o n a) l.is ∙ set_then start 0 ys n a (omega arith) (omega (arith, p)) }

-- what is written over the whole is what was written
pub laid_whole : {start out ys : List ℕ} → Laid start out ys → length start ≡ length ys → out ≡ ys
unfolding splice
laid_whole {start} {out} {ys} l n =
    l.is ∙ ap (λ (zs : List ℕ). ys ++ zs) (drop_of_length-le start {i = 0 + length ys} (omega (arith, n))) ∙ append-nil ys

-- the pieces one behind another
pub pieces : (h : Header) (filter private body : List ℕ) (count : ℕ) {fixed : List ℕ}
    → fixed ≡ fixed_octets (header_length h filter private + length body) (header_length h filter private) count (length filter) h
    → ((((fixed ++ filter) ++ private_octets h.statement private) ++ extension_octets h.high) ++ extension_octets h.low) ++ body ≡ file_octets h filter private body count
unfolding file_octets
pieces h filter private body count {fixed} e =
    append_assoc (((fixed ++ filter) ++ private_octets h.statement private) ++ extension_octets h.high) (extension_octets h.low) body
    ∙ append_assoc ((fixed ++ filter) ++ private_octets h.statement private) (extension_octets h.high) (extension_octets h.low ++ body)
    ∙ append_assoc (fixed ++ filter) (private_octets h.statement private) (extension_octets h.high ++ (extension_octets h.low ++ body))
    ∙ append_assoc fixed filter (private_octets h.statement private ++ (extension_octets h.high ++ (extension_octets h.low ++ body)))
    ∙ ap (λ (l : List ℕ). l ++ (filter ++ (private_octets h.statement private ++ (extension_octets h.high ++ (extension_octets h.low ++ body))))) e

-- The cases of the two extensions.
module _ (statement : ℕ) (p : List ℕ) where
  pub private_none : statement ≡ 0 → private_octets statement p ≡ []
  private_none e = rw (eq-eqb _ _ e)

  module _ (some : statement ≡ 0 → ⊥) where
    pub private_some : private_octets statement p ≡ be 2 (length p) ++ p
    private_some = rw (ne_eqb _ _ some)

    pub private_some_length : length (private_octets statement p) ≡ 2 + length p
    private_some_length = ap length private_some ∙ omega arith

  -- octets that bear the statement out are written
  pub private_least : agrees statement p ≡ true → length p ≤ length (private_octets statement p)
  private_least h = go (ℕ_discrete statement 0)
    where
      go : Dec (statement ≡ 0) → length p ≤ length (private_octets statement p)
      go (yes e) = omega (arith, stated_none statement p h e)
      go (no e) = omega (arith, private_some_length e)

module _ (r : Release) where
  pub extension_none : (r.release ≡ 7 → ⊥) → extension_octets r ≡ []
  extension_none e = rw (ne_eqb _ _ e)

  pub extension_seven : r.release ≡ 7 → extension_octets r ≡ r.extension ∷ []
  extension_seven e = rw (eq-eqb _ _ e)

-- the pieces written one behind another over the start of an output leave the file there
module _ (h : Header) (filter private body : List ℕ) (count : ℕ) where
  pub laid_file : (start : List ℕ) {fixed o₁ o₂ o₃ o₄ o₅ o₆ : List ℕ} {n₄ n₅ n₆ : ℕ}
      → fixed ≡ fixed_octets (header_length h filter private + length body) (header_length h filter private) count (length filter) h
      → o₁ ≡ splice start 0 fixed
      → o₂ ≡ splice o₁ 50 filter
      → o₃ ≡ splice o₂ (50 + length filter) (private_octets h.statement private)
      → o₄ ≡ splice o₃ n₄ (extension_octets h.high)
      → n₄ ≡ 50 + length filter + length (private_octets h.statement private)
      → o₅ ≡ splice o₄ n₅ (extension_octets h.low)
      → n₅ ≡ 50 + length filter + length (private_octets h.statement private) + length (extension_octets h.high)
      → o₆ ≡ splice o₅ n₆ body
      → n₆ ≡ header_length h filter private
      → o₆ ≡ splice start 0 (file_octets h filter private body count)
  laid_file start {fixed} {o₁} {o₂} {o₃} {o₄} {o₅} {o₆} {n₄} {n₅} {n₆} ef e₁ e₂ e₃ e₄ p₄ e₅ p₅ e₆ p₆ =
      let n : length fixed ≡ 50 = fifty _ _ _ _ h ef in
      let l₁ : Laid start o₁ fixed = record { is = e₁ } in
      let l₂ = laid_more 50 filter l₁ e₂ (sym n) in
      let a = length-append fixed filter in
      let l₃ = laid_more (50 + length filter) (private_octets h.statement private) l₂ e₃ (omega arith) in
      let b = length-append (fixed ++ filter) (private_octets h.statement private) in
      let l₄ = laid_more n₄ (extension_octets h.high) l₃ e₄ (omega arith) in
      let c = length-append ((fixed ++ filter) ++ private_octets h.statement private) (extension_octets h.high) in
      let l₅ = laid_more n₅ (extension_octets h.low) l₄ e₅ (omega arith) in
      let d = length-append (((fixed ++ filter) ++ private_octets h.statement private) ++ extension_octets h.high) (extension_octets h.low) in
      let l₆ = laid_more n₆ body l₅ e₆ (omega arith) in
      l₆.is ∙ ap (splice start 0) (pieces h filter private body count ef)
