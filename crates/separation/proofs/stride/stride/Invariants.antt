use Prim.Native.Nat.{◌+◌, ◌-◌, ◌<◌}
use lib.ListN.{length}
use Rattle.plane.specs.Point.{points}
use Rattle.plane.specs.Forms.{edges}
use Rattle.calipers.specs.Image.{image}
use Rattle.separation.specs.Passing.{Strode}
use Rattle.separation.proofs.stride.stride.Given as goal

abbrev pub invariant-loop-from : goal.invariant-loop-from
invariant-loop-from l = Strode l.a (image l.b) l.s l.t l.joined × (l.s.at + 2 < l.s.end) × (l.t.at + 2 < l.t.end)

abbrev pub decreases-loop-from : goal.decreases-loop-from
decreases-loop-from l = length (edges (points l.a)) - l.s.at + (length (edges (points (image l.b))) - l.t.at)
