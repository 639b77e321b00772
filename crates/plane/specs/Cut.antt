-- Vectors turned by a quarter, and where the corner furthest in a direction is among sorted edges. Our own, not of document 01:
-- `furthest-at-cut` of `Meaning.antt` cites it.
--     quarter d      d turned left by a quarter
--     outward a b    the step from a to b turned right by a quarter: the outer normal of that edge
--     cut_sum d E     the sum of the values of d at those of the edges E that come before quarter d by angle
use Rattle.std.specs.Prelude.{true, false, List, [], ◌∷◌, ℤ, pos, neg_ℤ, ◌+ℤ◌, ◌-ℤ◌}
use Rattle.plane.specs.Point.{Point, point}
use Rattle.plane.specs.Direction.{value}
use Rattle.plane.specs.Forms.{before}

abbrev pub quarter : Point → Point
quarter d = point (neg_ℤ d.y) d.x

abbrev pub outward : Point → Point → Point
outward a b = point (b.y -ℤ a.y) (a.x -ℤ b.x)

abbrev pub cut_sum : Point → List Point → ℤ
cut_sum d [] = pos 0
cut_sum d (e ∷ E) = let later = cut_sum d E in elim (before e (quarter d)) [ true ↦ value d e +ℤ later | false ↦ later ]
