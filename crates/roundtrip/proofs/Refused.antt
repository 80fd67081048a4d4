-- What the reader answers of a file that it refuses, and the writer of a call (document 01, Refusals: "a refusal carries its number, and
-- zeros elsewhere but for 17"; Reader, second paragraph: "and then leaves the output unchanged").
use Rattle.std.specs.Prelude.{◌≡◌, refl, Bool, cond, List, ℕ, zero, suc, eqb}
use Rattle.std.proofs.Common.{sym, ap, ◌∙◌, ne_eqb}
use Rattle.cdrfile.specs.declared.Header.{Header}
use Rattle.reader.specs.Reader.{refused_contents, read_of}
use Rattle.reader.specs.Reader.{verdict as reader_verdict, settled as read_settled}
use Rattle.writer.specs.Writer.{After, needed_octets, verdict, refused, settled, written, write_of}
use Rattle.roundtrip.proofs.Back.{read_number}
use Rattle.roundtrip.proofs.Write.{write_number}

-- A file.
read_by : (n : ℕ) (xs : List ℕ) → (n ≡ 0 → ⊥) → read_settled n xs ≡ refused_contents n
read_by zero xs h = absurd (h refl)
read_by (suc n) xs h = refl

pub read_refused : (xs : List ℕ) → ((read_of xs).refusal ≡ 0 → ⊥) → read_of xs ≡ refused_contents (reader_verdict xs)
unfolding read_of
read_refused xs h = read_by (reader_verdict xs) xs (λ e. h (read_number xs ∙ e))

-- A call.
write_by : (n needed : ℕ) (output : List ℕ) (done : After) → (n ≡ 0 → ⊥) → settled n needed output done ≡ refused n needed output
write_by zero needed output done h = absurd (h refl)
write_by (suc n) needed output done h = refl

module _ (h : Header) (filter private body output : List ℕ) (refusing : (write_of h filter private body output).answer.refusal ≡ 0 → ⊥) where
  write_refused : write_of h filter private body output ≡ refused (verdict h filter private body output) (needed_octets h filter private body) output
  unfolding write_of
  write_refused =
      write_by (verdict h filter private body output) (needed_octets h filter private body) output (written h filter private body output)
      (λ e. refusing (write_number h filter private body output ∙ e))

  pub refused_output : (write_of h filter private body output).output ≡ output
  refused_output = ap (λ (a : After). a.output) write_refused

  answered_octets : (write_of h filter private body output).answer.octets
      ≡ cond (eqb (write_of h filter private body output).answer.refusal 17) (needed_octets h filter private body) 0
  answered_octets =
      ap (λ (a : After). a.answer.octets) write_refused
      ∙ ap (λ (n : ℕ). cond (eqb n 17) (needed_octets h filter private body) 0) (sym (write_number h filter private body output))

  pub refused_needing : (write_of h filter private body output).answer.refusal ≡ 17
      → (write_of h filter private body output).answer.octets ≡ needed_octets h filter private body
  refused_needing e = answered_octets ∙ ap (λ (n : ℕ). cond (eqb n 17) (needed_octets h filter private body) 0) e

  pub refused_octets : ((write_of h filter private body output).answer.refusal ≡ 17 → ⊥) → (write_of h filter private body output).answer.octets ≡ 0
  refused_octets e = answered_octets ∙ ap (λ (b : Bool). cond b (needed_octets h filter private body) 0) (ne_eqb _ 17 e)
