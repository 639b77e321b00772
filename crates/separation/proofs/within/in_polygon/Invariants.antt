use Prim.Native.Nat.{◌+◌, ◌-◌}
use lib.ListN.{length}
use Rattle.plane.specs.Point.{points}
use Rattle.plane.specs.Forms.{edges}
use Rattle.separation.proofs.Beside.{Beside}
use Rattle.separation.proofs.within.in_polygon.Given as goal

abbrev pub invariant-loop-t : goal.invariant-loop-t
invariant-loop-t l = Beside l.a l.b l.s l.t

abbrev pub decreases-loop-t : goal.decreases-loop-t
decreases-loop-t l = length (edges (points l.a)) - l.s.at + (length (edges (points l.b)) - l.t.at)
