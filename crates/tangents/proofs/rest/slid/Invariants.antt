use Prim.Native.Nat.{◌<◌}
use lib.ListN.{length}
use Rattle.plane.specs.Point.{points, corner}
use Rattle.polygon.specs.Point.{at}
use Rattle.tangents.specs.Draws.{draws, Came}
use Rattle.tangents.specs.theory.FiniteOrder.{counted}
use Rattle.tangents.proofs.rest.slid.Given as goal

abbrev pub invariant-loop-q : goal.invariant-loop-q
invariant-loop-q l = (l.i < length (points l.list)) × Came l.s l.forward (points l.list) (at l.q) l.from l.i

abbrev pub decreases-loop-q : goal.decreases-loop-q
decreases-loop-q l =
    counted (λ k. draws l.s (corner (points l.list) l.i) (at l.q) (corner (points l.list) k)) (length (points l.list))
