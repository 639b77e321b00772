-- `home` meets its contract.
use borrow.Author.Tests.{eq-eqb, ne_eqb}
use Rattle.hull.proofs.rows.home.Goals as goal

pub returns-then-top-eq0 : goal.returns-then-top-eq0
returns-then-top-eq0 c = rw (eq-eqb _ 0 c.if-top-eq0.true)

pub returns-else-top-eq0 : goal.returns-else-top-eq0
returns-else-top-eq0 c = rw (ne_eqb _ 0 c.if-top-eq0.false) c.count.ensures
