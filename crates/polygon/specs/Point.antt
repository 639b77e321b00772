-- The code's points and the plane's: a point of code has two numbers of a machine, of the plane two whole numbers.
--     at p           the plane's point with these coordinates
--     Small n p      both coordinates are from -n to n
--     stored l k p   the list of numbers l with p as its corner k
use Rattle.std.specs.Prelude.{List, ℕ, ◌+◌, ◌*◌, ℤ, set}
use Rattle.integer.specs.Bound.{Within}
use Rattle.plane.specs.Point.{Point, point}
use Rattle.polygon.specs.declared.point.Point.{Point as Code-as-Point}

abbrev pub at : Code-as-Point → Point
at p = point p.x p.y

pub record Small (n : ℕ) (p : Point) : Type 0 where
  pub small-x : Within n p.x
  pub small-y : Within n p.y

abbrev pub stored : List ℤ → ℕ → Point → List ℤ
stored l k p = set (set l (2 * k) p.x) (2 * k + 1) p.y
