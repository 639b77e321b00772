use mathlib.Core.Path.{◌≡◌}
use lib.ListN.{length}
use Rattle.plane.specs.Point.{points}
use Rattle.polygon.specs.Point.{at}
use Rattle.contact.specs.Share.{Arrived}
use Rattle.contact.proofs.walls.arrivals.Given as goal

abbrev pub invariant-loop-i : goal.invariant-loop-i
invariant-loop-i l =
    (l.i-end ≡ length (points l.list)) × Arrived (at l.t) (at l.u) (points l.list) l.i (record { there = l.there; back = l.back })
