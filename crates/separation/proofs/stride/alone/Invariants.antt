use Prim.Native.Nat.{◌-◌}
use lib.ListN.{length}
use Rattle.plane.specs.Point.{points}
use Rattle.plane.specs.Forms.{edges}
use Rattle.calipers.specs.Image.{image}
use Rattle.separation.specs.Passing.{Strode}
use Rattle.separation.proofs.stride.alone.Given as goal

abbrev pub invariant-loop-n : goal.invariant-loop-n
invariant-loop-n l = Strode l.a (image l.b) l.s l.n 0

abbrev pub decreases-loop-n : goal.decreases-loop-n
decreases-loop-n l = length (edges (points (image l.b))) - l.n.at
