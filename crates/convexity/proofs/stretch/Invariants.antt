use mathlib.Core.Path.{◌≡◌}
use Prim.Native.Nat.{◌^◌}
use Rattle.plane.specs.Point.{points, corner}
use Rattle.plane.specs.Forms.{edges}
use Rattle.polygon.specs.Point.{Small}
use Rattle.convexity.specs.Stretch.{vector}
use Rattle.convexity.specs.theory.Stretches.{Along}
use Rattle.convexity.proofs.stretch.Given as goal

abbrev pub invariant-loop-k : goal.invariant-loop-k
invariant-loop-k l =
    Along (edges (points l.list)) l.up l.start l.k × (vector l.e ≡ corner (edges (points l.list)) l.k) × Small (2 ^ 22) (vector l.e)
