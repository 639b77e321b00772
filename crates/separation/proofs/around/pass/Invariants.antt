use mathlib.Core.Bool.{false}
use Prim.Native.Nat.{◌-◌}
use lib.ListN.{length}
use Rattle.plane.specs.Point.{points}
use Rattle.plane.specs.VectorSum.{vector_sum}
use Rattle.calipers.specs.Image.{image}
use Rattle.calipers.specs.Side.{Carried, walk_of}
use Rattle.separation.specs.Passing.{Passing}
use Rattle.separation.proofs.around.pass.Given as goal

abbrev pub invariant-loop-m : goal.invariant-loop-m
invariant-loop-m l =
    Passing l.a (image l.b) (walk_of l.s l.t false) l.count l.rim × Carried l.a l.s × Carried (image l.b) l.t

abbrev pub decreases-loop-m : goal.decreases-loop-m
decreases-loop-m l = length (vector_sum (points l.a) (points (image l.b))) - l.count
