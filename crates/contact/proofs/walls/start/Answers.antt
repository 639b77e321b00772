-- `start` meets its contract: three corners or more, or the box.
use mathlib.Core.Path.{◌∙◌}
use native.Mathlib.Omega.{arith}
use Rattle.plane.specs.Point.{points}
use Rattle.polygon.specs.Point.{at}
use Rattle.contact.proofs.theory.Arrivals.{wall-none, wall-box}
use Rattle.contact.proofs.walls.start.Goals as goal

pub returns-then-count-ge3 : goal.returns-then-count-ge3
returns-then-count-ge3 c =
    wall-none (at c.args.t) (at c.args.u) (points c.args.list.now)
    (omega (arith, c.count.ensures))

pub returns-else-count-ge3 : goal.returns-else-count-ge3
returns-else-count-ge3 c =
    c.box_arrival.ensures
    ∙ wall-box (at c.args.t) (at c.args.u) (points c.args.list.now)
    (omega (arith, c.count.ensures))
