-- `reconcile::hold_together` meets its contract: the reader's refusal of the first file, then of the second, is the answer; of two accepted files the
-- records from their starts on are counted, which are those that the reader hands back.
use Rattle.std.proofs.Common.{◌≡◌, Err, ap, ◌∙◌, arith, rules}
use Rattle.octets.specs.Number.{Octets}
use Rattle.reconcile.specs.Reconciled.{refused_side, side_number, reconciled}
use Rattle.reconcile.specs.Shares.{shares_of}
use Rattle.reconcile.proofs.Agreed.{as_held, shares_held, refused_first, refused_second}
use Rattle.reconcile.proofs.hold_together.Goals as goal

pub returns-in_err-f : goal.returns-in_err-f
returns-in_err-f c =
    let f = c.args.first.now in
    let g = c.args.second.now in
    let e = c.in_err-f.ensures.err in
    let r : c.from_residual.result ≡ Err c.in_err-f.field-0.0 = search rules in
    ap reconciled r ∙ (λ i. refused_side (side_number (e.0 i)) (e.1 i)) ∙ refused_first f g (λ z. e.2 (e.1 ∙ z))

pub returns-in_err-g : goal.returns-in_err-g
returns-in_err-g c =
    let f = c.args.first.now in
    let g = c.args.second.now in
    let e = c.in_err-g.ensures.err in
    let r : c.from_residual-in_err-g.result ≡ Err c.in_err-g.field-0.0 = search rules in
    ap reconciled r ∙ (λ i. refused_side (side_number (e.0 i)) (e.1 i)) ∙ refused_second f g c.in_ok-f.ensures.ok.0 (λ z. e.2 (e.1 ∙ z))

pub returns : goal.returns
returns c =
    let f = c.args.first.now in
    let g = c.args.second.now in
    let o : Octets f = record { at = λ i. omega (arith, c.type_inv.first i) } in
    let p : Octets g = record { at = λ i. omega (arith, c.type_inv.second i) } in
    let u = c.in_ok-f.ensures.ok in
    let v = c.in_ok-g.ensures.ok in
    ap (as_held f g o p u.0 v.0) (c.share.ensures ∙ (λ i. shares_of (u.1 i) (u.2 i) (v.1 i) (v.2 i))) ∙ shares_held f g o p u.0 v.0
