use Prim.Native.Nat.{ℕ}
use Rattle.plane.specs.Point.{points, corner}
use Rattle.plane.specs.Direction.{value as direction_value}
use Rattle.polygon.specs.Point.{at}
use Rattle.plane.proofs.theory.face.FirstFurthest.{Greatest}
use Rattle.direction.proofs.reach.Given as goal

abbrev pub invariant-loop-i : goal.invariant-loop-i
invariant-loop-i l = (k : ℕ) × Greatest (λ j. direction_value (at l.d) (corner (points l.list) j)) l.i k l.greatest
