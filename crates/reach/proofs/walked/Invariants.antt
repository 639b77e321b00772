use mathlib.Core.Bool.{false}
use Prim.Native.Nat.{◌+◌, ◌-◌}
use lib.ListN.{length}
use Rattle.plane.specs.Point.{points}
use Rattle.plane.specs.Forms.{edges}
use Rattle.calipers.specs.Image.{image}
use Rattle.calipers.specs.Side.{Carried, walk_of}
use Rattle.reach.specs.theory.Scan.{Leads}
use Rattle.reach.proofs.walked.Given as goal

abbrev pub invariant-loop-s : goal.invariant-loop-s
invariant-loop-s l = Leads l.a l.b l.top (walk_of l.s l.t false) l.best × Carried l.a l.s × Carried (image l.b) l.t

abbrev pub decreases-loop-s : goal.decreases-loop-s
decreases-loop-s l =
    length (edges (points l.a)) - l.s.at + (length (edges (points (image l.b))) - l.t.at)
