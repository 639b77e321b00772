use Prim.Native.Nat.{◌-◌}
use lib.ListN.{length}
use Rattle.plane.specs.Point.{points}
use Rattle.tangents.specs.theory.TangentSearch.{Searching}
use Rattle.tangents.proofs.searched.Given as goal

abbrev pub invariant-loop-to : goal.invariant-loop-to
invariant-loop-to l = Searching l.s l.t (points l.a) (points l.b) l.from l.to

abbrev pub decreases-loop-to : goal.decreases-loop-to
decreases-loop-to l = length (points l.b) - l.to
