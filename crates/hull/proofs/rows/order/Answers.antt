-- `order` meets its contract: on the way down it is the order of q and p on the way up.
use Rattle.sorting.specs.Order.{order}
use Rattle.hull.proofs.rows.order.Goals as goal

pub returns-else-up : goal.returns-else-up
unfolding order
returns-else-up c = rw c.if-up.false c.ascent-else-up.ensures
