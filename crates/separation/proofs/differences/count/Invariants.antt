use mathlib.Core.List.{List}
use Prim.Native.Nat.{ℕ, ◌+◌, ◌-◌}
use lib.IntN.{ℤ}
use lib.ListN.{length}
use Rattle.plane.specs.Point.{points}
use Rattle.sums.specs.Advance.{next_corners, Walked}
use Rattle.calipers.specs.Image.{image}
use Rattle.calipers.specs.Walk.{begun}
use Rattle.separation.proofs.differences.count.Given as goal

-- more corners than there are
abbrev pub most : List ℤ → List ℤ → ℕ
most a b = length (points a) + length (points b) + 1

abbrev pub invariant-loop-s : goal.invariant-loop-s
invariant-loop-s l = Walked l.a (image l.b) begun (most l.a l.b) l.count l.s l.t

abbrev pub decreases-loop-s : goal.decreases-loop-s
decreases-loop-s l = length (next_corners l.a (image l.b) begun (most l.a l.b)) - l.count
