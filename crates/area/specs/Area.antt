-- The area of a shape (002: "the area of a polygon"). Our own question, not of documents 01 and 02.
--     crosses_to s p ps     the cross products of neighbours along p ∷ ps and from the last back to s
--     twice_area ps         twice the area: of the corners once round. Whole, and 0 for a point and a segment
--     ask_area a            the question
use Rattle.std.specs.Prelude.{List, [], ◌∷◌, ℤ, pos, ◌+ℤ◌}
use Rattle.plane.specs.Point.{Point}
use Rattle.plane.specs.Turn.{cross}
use Rattle.plane.specs.Floor.{Floored, corners, one_shape}
use Rattle.plane.specs.Question.{Question, asks}

abbrev pub crosses_to : Point → Point → List Point → ℤ
crosses_to s p [] = cross p s
crosses_to s p (q ∷ ps) = cross p q +ℤ crosses_to s q ps

abbrev pub twice_area : List Point → ℤ
twice_area [] = pos 0
twice_area (p ∷ ps) = crosses_to p p ps

abbrev pub ask_area : Floored → Question
ask_area a = asks (one_shape a) [] (twice_area (corners a) ∷ [])
