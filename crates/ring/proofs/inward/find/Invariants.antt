use lib.ListN.{length}
use Rattle.plane.specs.Point.{points}
use Rattle.plane.proofs.theory.lists.Sought.{Sought}
use Rattle.ring.specs.Ring.{inward_at}
use Rattle.ring.proofs.inward.find.Given as goal

abbrev pub invariant-loop-i : goal.invariant-loop-i
invariant-loop-i l = Sought (inward_at (points l.list) l.places) (length l.places) l.i
