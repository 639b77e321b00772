-- The mirror image of a shape as a list that a walk goes round. No code writes it. Our own, not of document 01.
--     image l      the numbers of the shape of all (-x, -y)
use Rattle.std.specs.Prelude.{List, ℤ}
use Rattle.plane.specs.Point.{points, numbers}
use Rattle.plane.specs.Corner.{shape_of, mirrored}

abbrev pub image : List ℤ → List ℤ
image l = numbers (shape_of (mirrored (points l)))
