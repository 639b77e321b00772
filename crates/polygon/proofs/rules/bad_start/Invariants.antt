use lib.ListN.{length}
use Rattle.plane.specs.Point.{points, corner}
use Rattle.plane.specs.Shape.{precedes}
use Rattle.plane.proofs.theory.lists.Sought.{Sought}
use Rattle.polygon.proofs.rules.bad_start.Given as goal

abbrev pub invariant-loop-c : goal.invariant-loop-c
invariant-loop-c l = Sought (λ k. precedes (corner (points l.list) k) (corner (points l.list) 0)) (length (points l.list)) l.c
