-- How two shapes relate, as a walk round the corners of their differences finds it: the origin against each edge.
--     cross_at D e       the cross product of the two corners of edge e: positive if the origin is to the left of it
--     right_of D e       the origin is to the right of edge e
--     origin_on D        the origin is on D, a point or a segment that has it on its line
--     origin_in D        0 outside, 1 on the rim, 2 inside
--     Saw D v           what a walk round D saw is v
--     Passed D s        the same of the v of s
-- What it means: `origin_in-relation` of the theory.
use Rattle.std.specs.Prelude.{◌≡◌, Bool, true, false, cond, List, ℕ, ltb, ℤ, pos, length}
use Rattle.std.specs.Int.Signed.{lt_z, le_z}
use Rattle.plane.specs.Point.{Point, corner}
use Rattle.plane.specs.Turn.{cross}
use Rattle.plane.specs.Search.{some}
use Rattle.plane.specs.Shape.{next}
use Rattle.plane.specs.Direction.{value}
use Rattle.plane.specs.Separation.{not_left}
use Rattle.polygon.specs.Point.{at}
use Rattle.separation.specs.declared.around.Seen.{Seen}
use Rattle.separation.specs.declared.around.Seen.TheVariants.{Outside, Round}
use Rattle.separation.specs.declared.around.Sides.{Sides}
use Rattle.separation.specs.Outward.{Outward}

unfoldable pub cross_at : List Point → ℕ → ℤ
cross_at D e = cross (corner D e) (corner D (next (length D) e))

unfoldable pub right_of : List Point → ℕ → Bool
right_of D e = lt_z (cross_at D e) (pos 0)

-- its first two corners do not lie the same way
unfoldable pub origin_on : List Point → Bool
origin_on D = le_z (value (corner D 0) (corner D (next (length D) 0))) (pos 0)

unfoldable pub origin_in : List Point → ℤ
origin_in D = cond (some (right_of D) (length D)) (pos 0)
    (cond (ltb (length D) 3) (cond (origin_on D) (pos 1) (pos 0)) (cond (some (not_left D) (length D)) (pos 1) (pos 2)))

-- the walk stops at an edge that has the origin to its right, and then knows its normal and no more
abbrev pub Saw : List Point → Seen → Type 0
Saw D (Outside normal) = (some (right_of D) (length D) ≡ true) × Outward D (at normal)
Saw D (Round count rim) = (some (right_of D) (length D) ≡ false) × (count ≡ length D) × (rim ≡ some (not_left D) (length D))

abbrev pub Passed : List Point → Sides → Type 0
Passed D s = Saw D s.seen
