use mathlib.Core.Path.{◌≡◌}
use mathlib.Core.Bool.{false}
use Prim.Native.Nat.{ℕ, ◌+◌, ◌-◌, ◌<◌}
use lib.ListN.{length}
use Rattle.plane.specs.Point.{points}
use Rattle.plane.specs.Forms.{edges}
use Rattle.plane.specs.VectorSum.{vector_sum}
use Rattle.polygon.specs.Point.{at, Small}
use Rattle.calipers.specs.Image.{image}
use Rattle.calipers.specs.Side.{Carried, walk_of}
use Rattle.calipers.specs.Walk.{begun, stepped}
use Rattle.clearance.proofs.Looking.{Looking}
use Rattle.clearance.proofs.facing.look.Given as goal

abbrev pub invariant-walk : goal.invariant-walk
invariant-walk l =
    ((k : ℕ) → k < length (vector_sum (points l.a) (points (image l.b)))
    → record { i = l.i; j = l.j; over = false } ≡ stepped (points l.a) (points (image l.b)) k begun
    → Looking l.a (image l.b) k (walk_of l.s l.t false) (at l.back))
    × Carried l.a l.s × Carried (image l.b) l.t × Small 4194304 (at l.back)

abbrev pub decreases-walk : goal.decreases-walk
decreases-walk l =
    length (edges (points l.a)) - l.s.at + (length (edges (points (image l.b))) - l.t.at)
