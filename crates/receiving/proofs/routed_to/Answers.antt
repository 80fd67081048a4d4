-- `receiving::routed_to` meets its contract: mark 2 finds nobody, else the key decides. Assumes nothing.
use borrow.Author.Tests.{eq-eqb, ne_eqb}
use Rattle.receiving.proofs.routed_to.Goals as goal

pub returns-then-a-eq2 : goal.returns-then-a-eq2
returns-then-a-eq2 c = let e = eq-eqb _ _ c.if-a-eq2.true in (rw e, rw e)

pub returns : goal.returns
returns c = let e = ne_eqb _ _ c.if-a-eq2.false in (rw e c.route_of.ensures.0, rw e c.route_of.ensures.1)
