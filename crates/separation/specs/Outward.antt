-- A direction that leads away from a shape to the origin, as the walk round the shape finds it. Our own, not of document 02.
--     Outward D d      both parts of d are in their limits, and all of D is below 0 in it
use Rattle.std.specs.Prelude.{List, pos, ◌<ℤ◌}
use Rattle.plane.specs.Point.{Point}
use Rattle.plane.specs.Limits.{max_part}
use Rattle.plane.specs.Direction.{support}
use Rattle.polygon.specs.Point.{Small}

pub record Outward (D : List Point) (d : Point) : Type 0 where
  pub in-limits : Small max_part d
  pub negative : support d D <ℤ pos 0
