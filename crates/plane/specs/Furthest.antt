-- Furthest corner (document 01, "What each question asks", first paragraph, and document 02, requests W8 and W12).
--     direction_rows d           refusals 11 and 12 of a direction that a caller gives
--     furthest_numbers d ps      the first and the last of the corners with the greatest value in the direction, and that value
use Rattle.std.specs.Prelude.{Bool, ◌&&◌, ◌||◌, List, [], ◌∷◌, ℕ, eqb, ltb, ℤ, pos, nat_abs}
use Rattle.divisor.specs.Divisor.{gcd}
use Rattle.plane.specs.Limits.{max_part}
use Rattle.plane.specs.Point.{Point}
use Rattle.plane.specs.Direction.{support}
use Rattle.plane.specs.Reply.{Row, row}
use Rattle.plane.specs.Face.{face_first, face_last}

-- 11: "direction (0,0), or a part of it outside -2,000,000 to 2,000,000"
unfoldable pub bad_direction : Point → Bool
bad_direction d =
    (eqb (nat_abs d.x) 0 && eqb (nat_abs d.y) 0) || (ltb max_part (nat_abs d.x) || ltb max_part (nat_abs d.y))

-- of the sizes of the two parts: that of (0, v) is the size of v
abbrev pub parts_divisor : Point → ℕ
parts_divisor d = gcd (nat_abs d.x) (nat_abs d.y)

-- 12, of document 02, request W12: "if the two parts have a common divisor above 1"
unfoldable pub common_divisor : Point → Bool
common_divisor d = ltb 1 (parts_divisor d)

-- the rows of a direction that a caller gives: "12 .. after 11"
abbrev pub direction_rows : Point → List Row
direction_rows d = row 11 (bad_direction d) [] ∷ row 12 (common_divisor d) [] ∷ []

abbrev pub furthest_numbers : Point → List Point → List ℤ
furthest_numbers d ps = pos (face_first d ps) ∷ pos (face_last d ps) ∷ support d ps ∷ []
