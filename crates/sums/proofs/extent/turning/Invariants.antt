use mathlib.Core.Path.{◌≡◌}
use mathlib.Core.List.{List}
use Prim.Native.Nat.{ℕ, suc, ◌-◌, ◌≤◌, ◌<◌}
use lib.ListN.{length}
use lib.Signed.{◌≤ℤ◌, ◌<ℤ◌}
use Rattle.plane.specs.Point.{Point, points, corner}
use Rattle.plane.specs.Shape.{next}
use Rattle.plane.specs.Direction.{value}
use Rattle.polygon.specs.Point.{at}
use Rattle.sums.proofs.extent.turning.Given as goal

abbrev pub GoesOn : List Point → Point → ℕ → Type 0
GoesOn ps d i = value d (corner ps i) ≤ℤ value d (corner ps (next (length ps) i))

abbrev pub Stops : List Point → Point → ℕ → Type 0
Stops ps d i = value d (corner ps (next (length ps) i)) <ℤ value d (corner ps i)

pub record Halved (ps : List Point) (d : Point) (from to low high : ℕ) : Type 0 where
  pub after : from ≤ low
  pub order : low ≤ high
  pub within : high ≤ to
  pub goes : (k : ℕ) → from ≤ k → suc k ≡ low → GoesOn ps d k
  pub stops : high < to → Stops ps d high

abbrev pub invariant-loop-low : goal.invariant-loop-low
invariant-loop-low l = Halved (points l.list) (at l.d) l.from l.to l.low l.high

abbrev pub decreases-loop-low : goal.decreases-loop-low
decreases-loop-low l = l.high - l.low
