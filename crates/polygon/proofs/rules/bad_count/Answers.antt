-- `bad_count` meets its contract.
use borrow.Author.Tests.{eq-eqb, ne_eqb}
use Rattle.plane.specs.Refusal.{bad_count}
use Rattle.polygon.proofs.rules.bad_count.Goals as goal

pub returns-then-list-eq0 : goal.returns-then-list-eq0
unfolding bad_count
returns-then-list-eq0 c = simp (eq-eqb _ _ c.if-list-eq0.true)

pub returns-else-list-eq0 : goal.returns-else-list-eq0
unfolding bad_count
returns-else-list-eq0 c = simp (ne_eqb _ _ c.if-list-eq0.false)
