use Rattle.plane.specs.Point.{points}
use Rattle.plane.specs.Corner.{mirrored}
use Rattle.polygon.specs.Point.{at}
use Rattle.polygon.specs.theory.Extents.{Reached}
use Rattle.polygon.proofs.extent.extent_of.Given as goal

abbrev pub invariant-loop-i : goal.invariant-loop-i
invariant-loop-i l = Reached (points l.list) l.i (at l.high) × Reached (mirrored (points l.list)) l.i (at l.low)
