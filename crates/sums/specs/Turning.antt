-- Where the corners of a list cease to go on in a direction, between two positions. Our own, not of document 01.
--     Turning ps d from to r    the corner before r goes on in d to corner r, and r does not to the next; nothing is said
--                               of a corner before `from`, and of that at `to`
--     crossing p q              the point with the x of p and the y of q
-- What it means: `Outermost.antt` of the theory: between the right positions of a shape it is the corner furthest in d.
use Rattle.std.specs.Prelude.{◌≡◌, List, ℕ, suc, ◌≤◌, ◌<◌, length, ◌≤ℤ◌, ◌<ℤ◌}
use Rattle.plane.specs.Point.{Point, point, corner}
use Rattle.plane.specs.Shape.{next}
use Rattle.plane.specs.Direction.{value}

pub record Turning (ps : List Point) (d : Point) (from to r : ℕ) : Type 0 where
  pub after : from ≤ r
  pub within : r ≤ to
  pub goes : (k : ℕ) → from ≤ k → suc k ≡ r → value d (corner ps k) ≤ℤ value d (corner ps (next (length ps) k))
  pub stops : r < to → value d (corner ps (next (length ps) r)) <ℤ value d (corner ps r)

abbrev pub crossing : Point → Point → Point
crossing p q = point p.x q.y
