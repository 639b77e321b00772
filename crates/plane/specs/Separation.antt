-- Relation and inside (document 01, "What each question asks", the two paragraphs of that name), as tests that compute. That they are the
-- paper's sentences about all whole-number directions is proved (`Meaning.antt` of separation).
--     inside A B        the shape of both together is that of B: "in every whole-number direction the first's greatest value is at most
--                       the second's"
--     differences A B   all points a - b: A and B are apart in a direction exactly if all of these have a value below 0 in it
--     apart A B         the origin is not inside the differences
--     touching A B      not apart, and the differences lie on one line, or the origin is on an edge of their shape
--     relation_number A B, inside_number A B     what is answered
use Rattle.std.specs.Prelude.{Bool, true, false, not, cond, ◌&&◌, ◌||◌, List, [], ◌∷◌, ◌++◌, ℕ, ltb, ℤ, pos, length}
use Rattle.std.specs.Int.Signed.{le_z}
use Rattle.plane.specs.Point.{Point, origin, corner, same_point}
use Rattle.plane.specs.Turn.{turn}
use Rattle.plane.specs.Search.{some}
use Rattle.plane.specs.Shape.{next}
use Rattle.plane.specs.Corner.{shape_of, sums, mirrored}

-- two lists of corners are equal
abbrev pub same_corners : List Point → List Point → Bool
same_corners [] [] = true
same_corners [] (q ∷ qs) = false
same_corners (p ∷ ps) [] = false
same_corners (p ∷ ps) (q ∷ qs) = same_point p q && same_corners ps qs

unfoldable pub inside : List Point → List Point → Bool
inside A B = same_corners (shape_of (A ++ B)) (shape_of B)

abbrev pub differences : List Point → List Point → List Point
differences A B = sums A (mirrored B)

unfoldable pub apart : List Point → List Point → Bool
apart A B = not (inside (origin ∷ []) (differences A B))

-- the origin is not strictly to the left of the edge that leaves e
unfoldable pub not_left : List Point → ℕ → Bool
not_left ps e = le_z (turn (corner ps e) (corner ps (next (length ps) e)) origin) (pos 0)

-- a point or a segment, or a polygon with the origin on or outside an edge
unfoldable pub on_rim : List Point → Bool
on_rim ps = ltb (length ps) 3 || some (not_left ps) (length ps)

unfoldable pub touching : List Point → List Point → Bool
touching A B = not (apart A B) && on_rim (shape_of (differences A B))

-- what is answered: 0 apart, 1 touching, 2 overlapping
unfoldable pub relation_number : List Point → List Point → ℤ
relation_number A B = cond (apart A B) (pos 0) (cond (touching A B) (pos 1) (pos 2))

-- 1 yes, 0 no
abbrev pub inside_number : List Point → List Point → ℤ
inside_number A B = cond (inside A B) (pos 1) (pos 0)
