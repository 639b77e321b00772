-- The one name of a direction (document 02, request W12, "One name for a direction"): of all directions that point its way, the one that
-- 12 lets pass. Our own, not of document 02, which says only what is refused.
--     primitive d      the parts over their divisor; (0,0) for (0,0)
-- What it means: the section of names in `Meaning.antt`.
use Rattle.std.specs.Prelude.{pos}
use Rattle.std.specs.Int.Signed.{quot_z}
use Rattle.plane.specs.Point.{Point, point}
use Rattle.plane.specs.Furthest.{parts_divisor}

unfoldable pub primitive : Point → Point
primitive d = point (quot_z d.x (pos (parts_divisor d))) (quot_z d.y (pos (parts_divisor d)))
