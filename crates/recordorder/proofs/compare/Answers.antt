-- `recordorder::compare` meets its contract: four octets that differ settle it, and otherwise the whole records are compared.
use Rattle.std.proofs.Common.{◌≡◌, sym, ap, ◌∙◌, arith}
use Rattle.std.specs.Ordering.{is_ne, ordering_index, nat_cmp}
use Rattle.octets.specs.Number.{Octets, num}
use Rattle.recordorder.specs.At.{fronts_apart}
use Rattle.recordorder.proofs.compare.Goals as goal

pub returns-then-is_ne : goal.returns-then-is_ne
returns-then-is_ne c =
    let a = c.args in
    let o : Octets a.f.now = record { at = λ i. omega (arith, c.type_inv.f i) } in
    let p : Octets a.g.now = record { at = λ i. omega (arith, c.type_inv.g i) } in
    let e : c.cmp-fronts.result ≡ nat_cmp (num 4 a.f.now a.a) (num 4 a.g.now a.b) =
    c.cmp-fronts.ensures ∙ (λ i. nat_cmp (c.num.ensures i) (c.num-then-j-g.ensures i)) in
    ap ordering_index e ∙ fronts_apart o p a.a a.b (omega arith) (omega arith) (sym (ap is_ne e) ∙ sym c.is_ne.ensures ∙ c.if-is_ne.true)
