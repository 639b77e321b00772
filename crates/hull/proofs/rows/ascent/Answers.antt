-- `ascent` meets its contract: both tests in turn.
use mathlib.Core.Path.{sym, ◌∙◌}
use Rattle.sorting.specs.Order.{order}
use Rattle.hull.proofs.rows.ascent.Goals as goal

pub returns-then-precedes : goal.returns-then-precedes
unfolding order
returns-then-precedes c = rw (sym c.precedes.ensures ∙ c.if-precedes.true)

pub returns-then-precedes-2 : goal.returns-then-precedes-2
unfolding order
returns-then-precedes-2 c =
    rw (sym c.precedes.ensures ∙ c.if-precedes.false, sym c.precedes-2.ensures ∙ c.if-precedes-2.true)

pub returns : goal.returns
unfolding order
returns c =
    rw (sym c.precedes.ensures ∙ c.if-precedes.false, sym c.precedes-2.ensures ∙ c.if-precedes-2.false)
