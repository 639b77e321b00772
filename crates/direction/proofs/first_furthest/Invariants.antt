use Rattle.plane.specs.Point.{points, corner}
use Rattle.plane.specs.Direction.{value as direction_value}
use Rattle.polygon.specs.Point.{at}
use Rattle.plane.proofs.theory.face.FirstFurthest.{Greatest}
use Rattle.direction.proofs.first_furthest.Given as goal

abbrev pub invariant-loop-i : goal.invariant-loop-i
invariant-loop-i l = Greatest (λ k. direction_value (at l.d) (corner (points l.list) k)) l.i l.position l.value
