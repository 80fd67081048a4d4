-- Laws of appending and closing (document 01, File header, The events): a header and a body written one behind the other leave
-- the record; the fixed octets and the node's leave the address; and a file laid out over the output from a place on is the
-- closed file there. Assumes nothing.
use Rattle.std.specs.Prelude.{◌≡◌, refl, Bool, true, false, cond, List, ◌++◌, ℕ, ◌+◌, ◌-◌, ◌≤◌, eqb, length, take, drop}
use Rattle.std.proofs.Common.{sym, ap, ◌∙◌, append-nil, arith, add-zero, length-append, length-drop, drop_of_length-le, length-take-le}
use borrow.Rule.Slice.PartMut.{put_mid}
use Rattle.octets.specs.Splice.{splice, splice_then, splice_part}
use Rattle.timestamp.specs.LocalTime.{timestamp_narrow}
use Rattle.record.specs.declared.RecordHeader.{RecordHeader}
use Rattle.record.specs.declared.Release.{Release}
use Rattle.record.specs.Release.{header_length}
use Rattle.record.specs.Record.{record_octets}
use Rattle.record.specs.HeaderOctets.{five_octets, header_part, header_body}
use Rattle.cdrfile.specs.declared.Header.{Header}
use Rattle.cdrfile.specs.Statement.{agrees}
use Rattle.cdrfile.specs.File.{file_octets}
use Rattle.cdrfile.specs.Needs.{Writable, Layable}
use Rattle.state.specs.declared.Route.{Route}
use Rattle.state.specs.declared.Node.{Node}
use Rattle.state.specs.Manager.{filter_of}
use Rattle.filing.specs.Closing.{filler, header_for, counts_of, closed_size}
use Rattle.filing.specs.Closed.{closed_from, closed_from_length}
use Rattle.filing.specs.Needs.{Closable}

-- a record header has four octets at least
pub header_least : (r : Release) → 4 ≤ header_length r
header_least r = by_release (eqb r.release 7)
  where
    by_release : (b : Bool) → 4 ≤ cond b 5 4
    by_release true = omega arith
    by_release false = omega arith

-- The header's octets, and the body behind them, leave the record.
module _ (h : RecordHeader) (body : List ℕ) {n : ℕ} {five : List ℕ} (en : n ≡ header_length h.release) (ef : five ≡ five_octets h (length body)) where
  -- the lent part of the five octets is the header
  pub lent_header : take n five ≡ take (header_length h.release) (five_octets h (length body))
  lent_header = λ i. take (en i) (ef i)

  pub lent_length : length (take n five) ≡ n
  lent_length = ap length lent_header ∙ header_part h (length body) ∙ sym en

  pub appended : (xs : List ℕ) (at : ℕ) {l₁ l₂ : List ℕ} → at ≤ length xs → l₁ ≡ splice xs at (take n five) → l₂ ≡ splice l₁ (at + n) body
      → l₂ ≡ splice xs at (record_octets (record { header = h; body = body }))
  appended xs at starts e₁ e₂ =
      e₂
      ∙ ap (λ (l : List ℕ). splice l (at + n) body) e₁
      ∙ splice_then xs at (take n five) starts body (at + n) (ap (λ (k : ℕ). at + k) (sym lent_length))
      ∙ ap (λ (l : List ℕ). splice xs at (l ++ body)) lent_header
      ∙ ap (splice xs at) (header_body h body)

-- all of a list written over
pub splice_all : (xs ys : List ℕ) → length xs ≤ length ys → splice xs 0 ys ≡ ys
unfolding splice
splice_all xs ys le = ap (λ (l : List ℕ). ys ++ l) (drop_of_length-le xs {i = 0 + length ys} (omega arith)) ∙ append-nil ys

-- The fixed octets and the node's behind them, copied over 20 octets, leave the address.
pub addressed : (xs node : List ℕ) {l₁ l₂ : List ℕ} → length xs ≤ 20 → length node ≡ 16 → l₁ ≡ splice xs 0 filler → l₂ ≡ splice l₁ 4 node → l₂ ≡ filler ++ node
addressed xs node few sixteen e₁ e₂ =
    e₂
    ∙ ap (λ (l : List ℕ). splice l 4 node) e₁
    ∙ splice_then xs 0 filler (omega arith) node 4 refl
    ∙ splice_all xs (filler ++ node) (omega (arith, length-append filler node))

-- A file that can be closed can be laid out over the output from its place on, and leaves the closed file there.
module _ (n : Node) (r : Route) (reason : ℕ) (store : List ℕ) (from : ℕ) (output : List ℕ) (at octet : ℕ) (able : Closable n r octet store from output at) where
  pub writable : Writable (header_for n r reason)
  writable =
      let t = able.headed in
      record {
        high = able.high;
        high_version = able.high_version;
        low = able.low;
        low_version = able.low_version;
        opened = timestamp_narrow r.file.opened n.bias (omega arith) (omega arith);
        appended = timestamp_narrow r.file.appended n.bias (omega arith) (omega arith);
      }

  module _ (twenty : length r.settings.filter ≡ 20) {h : Header} {private : List ℕ} {k : ℕ} (eh : h ≡ header_for n r reason) (ep : private ≡ counts_of r) (en : k ≡ r.file.octets) where
    -- the file that is laid out is the closed one
    pub laid_from : file_octets h (filter_of r.settings) private (take k (drop from store)) r.file.count ≡ closed_from n r reason store from
    laid_from = λ i. file_octets (eh i) (filter_of r.settings) (ep i) (take (en i) (drop from store)) r.file.count

    laid_length : length (file_octets h (filter_of r.settings) private (take k (drop from store)) r.file.count) ≡ closed_size r
    laid_length = ap length laid_from ∙ closed_from_length n r reason store from able.records able.filter twenty

    pub layable : Layable h (filter_of r.settings) private (take k (drop from store)) r.file.count (take (length output - at) (drop at output))
    layable =
        let d = length-drop at output in
        let p = length-take-le (length output - at) (drop at output) (omega arith) in
        record {
          fields = rw eh writable;
          stated = λ i. agrees (eh i).statement (ep i);
          few = able.count;
          size = omega (arith, laid_length, able.size);
          room = omega (arith, laid_length, able.room);
        }

    pub closed : {part : List ℕ} → part ≡ splice (take (length output - at) (drop at output)) 0 (file_octets h (filter_of r.settings) private (take k (drop from store)) r.file.count)
        → put_mid at (length output - at) output part ≡ splice output at (closed_from n r reason store from)
    closed e =
        let l = laid_length in
        ap (put_mid at (length output - at) output) e
        ∙ splice_part output at (length output - at) 0 _ (omega (arith, able.room)) (omega (arith, able.room, l))
        ∙ (λ i. splice output (add-zero at i) (laid_from i))
