use lib.ListN.{length}
use Rattle.plane.specs.Point.{points}
use Rattle.plane.specs.Direction.{furthest}
use Rattle.polygon.specs.Point.{at}
use Rattle.boxes.specs.Scan.{Climbs}
use Rattle.boxes.specs.theory.Climb.{still}
use Rattle.boxes.proofs.climb.furthest_from.Given as goal

abbrev pub invariant-loop-d : goal.invariant-loop-d
invariant-loop-d l = Climbs (at l.d) (points l.list) l.i

abbrev pub decreases-loop-d : goal.decreases-loop-d
decreases-loop-d l = still (length (points l.list)) l.i (furthest (at l.d) (points l.list))
