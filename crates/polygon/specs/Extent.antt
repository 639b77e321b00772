-- How far the corners of a shape reach to the right and up, and to the left and down. Our own, not of document 01.
--     upper_of p q     the greater x and the greater y of two points
--     highest ps      the greatest x and the greatest y of some points
--     Extends ps e    e has these of the points, and those of their opposites
--     is_out p         a coordinate is out of its range
-- What it means: `far-sum` of the theory: a sum is out of range exactly if one of the two sums of these points is.
use Rattle.std.specs.Prelude.{◌≡◌, Bool, ◌||◌, List, pos}
use Rattle.plane.specs.Point.{Point, point}
use Rattle.plane.specs.Direction.{greater, support}
use Rattle.plane.specs.Corner.{mirrored}
use Rattle.plane.specs.Refusal.{outside}
use Rattle.polygon.specs.declared.extent.Extent.{Extent}
use Rattle.polygon.specs.Point.{at}

abbrev pub upper_of : Point → Point → Point
upper_of p q = point (greater p.x q.x) (greater p.y q.y)

unfoldable pub highest : List Point → Point
highest ps = point (support (point (pos 1) (pos 0)) ps) (support (point (pos 0) (pos 1)) ps)

pub record Extends (ps : List Point) (e : Extent) : Type 0 where
  pub high_is : at e.high ≡ highest ps
  pub low-is : at e.low ≡ highest (mirrored ps)

abbrev pub is_out : Point → Bool
is_out p = outside p.x || outside p.y
