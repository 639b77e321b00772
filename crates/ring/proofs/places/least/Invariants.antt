use mathlib.Core.Path.{◌≡◌}
use Rattle.plane.specs.Point.{points, corner}
use Rattle.polygon.specs.Point.{at}
use Rattle.ring.specs.Ring.{least_place}
use Rattle.ring.proofs.places.least.Given as goal

abbrev pub invariant-loop-i : goal.invariant-loop-i
invariant-loop-i l =
    (l.best ≡ least_place (corner (points l.list)) l.i) × (at l.lowest ≡ corner (points l.list) l.best)
