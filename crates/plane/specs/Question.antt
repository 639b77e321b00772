-- Every question on shapes, with its complete answer and the complete output afterwards (document 01, "When the map desk says no": "Several
-- at once: the first shape by 1 to 5 in number order, then the second shape likewise, then 10 or 11, then 6, 7, 8"; document 02, W11: 13
-- comes "after both shapes' own checks and before the rest").
--     Question       what is lent, the rows after those of the shapes, the values of the answer, the shape that is written, the lent output
--     table q        its refusals in order; values q: the answer's values, the floor last
--     reply q        what a public function promises to answer; output q: the whole lent output afterwards
--     asks, writes   a question that only answers; one that writes a shape and answers how many corners it has
--     makes          one that writes a shape that it makes, with refusals 6, 7 and 8
--     ask..          the questions of documents 01 and 02; grow is our own
-- What it means: the section of the table in `Meaning.antt`, for every question at once.
use Rattle.std.specs.Prelude.{not, List, [], ◌∷◌, ◌++◌, ltb, ℤ, pos, length}
use Rattle.plane.specs.Point.{Point, numbers}
use Rattle.plane.specs.Reply.{Reply, answered, Row, row, first_row}
use Rattle.plane.specs.Corner.{shape_of, sums, mirrored}
use Rattle.plane.specs.Output.{answer_rows, room_row, overwritten, unless_refused, Written}
use Rattle.plane.specs.Furthest.{direction_rows, furthest_numbers}
use Rattle.plane.specs.Measure.{length_numbers, width_numbers}
use Rattle.plane.specs.Separation.{apart, relation_number, inside_number}
use Rattle.plane.specs.Offer.{offer_number}
use Rattle.plane.specs.Tangent.{tangent_positions}
use Rattle.plane.specs.Clearance.{clearance_numbers}
use Rattle.plane.specs.Floor.{Floored, corners, Shapes, one_shape, two_shapes, many_points, rows_of, floor_of}

pub record Question : Type 0 where
  pub shapes : Shapes
  pub rest : List Row
  pub answer : List ℤ
  pub shape : List Point
  pub lent : List ℤ

abbrev pub table : Question → List Row
table q = rows_of q.shapes ++ q.rest

-- "Answers carry the floor"
abbrev pub values : Question → List ℤ
values q = q.answer ++ (pos (floor_of q.shapes) ∷ [])

unfoldable pub reply : Question → Reply
reply q = first_row (table q) (answered (values q))

unfoldable pub output : Question → List ℤ
output q = unless_refused (table q) q.lent (overwritten (numbers q.shape) q.lent)

-- both together
abbrev pub written : Question → Written
written q = record { reply = reply q; output = output q }

-- ---- three ways to make one

-- nothing is lent and nothing written
abbrev pub asks : Shapes → List Row → List ℤ → Question
asks s rows answer = record { shapes = s; rest = rows; answer = answer; shape = []; lent = [] }

-- "the answer says how many corners"
abbrev pub writes : Shapes → List Row → List Point → List ℤ → Question
writes s rows shape out = record { shapes = s; rest = rows; answer = pos (length shape) ∷ []; shape = shape; lent = out }

abbrev pub makes : Shapes → List Point → List ℤ → Question
makes s shape out = writes s (answer_rows shape out) shape out

-- ---- the questions

-- judging: 1 to 5; document 01 does not spell out that shape 1 is blamed and the corners are counted (docs/DECISIONS.md)
abbrev pub ask_judge : Floored → Question
ask_judge a = asks (one_shape a) [] (pos (length (corners a)) ∷ [])

-- "Furthest corner in a direction (u, v)"
abbrev pub ask_furthest : Floored → Point → Question
ask_furthest a d = asks (one_shape a) (direction_rows d) (furthest_numbers d (corners a))

-- "Mirror: the shape of all (-x, -y)"
abbrev pub ask_mirror : Floored → List ℤ → Question
ask_mirror a out = makes (one_shape a) (shape_of (mirrored (corners a))) out

-- "Sum: the shape of all corner-plus-corner points"
abbrev pub ask_sum : Floored → Floored → List ℤ → Question
ask_sum a b out = makes (two_shapes a b) (shape_of (sums (corners a) (corners b))) out

-- "Merge: the shape of both corner lists taken together"
abbrev pub ask_merge : Floored → Floored → List ℤ → Question
ask_merge a b out = makes (two_shapes a b) (shape_of (corners a ++ corners b)) out

-- our own: the shape of all obstacle-corner minus cart-corner points; b is the obstacle, a the cart's outline about the cart's own origin
abbrev pub ask_grow : Floored → Floored → List ℤ → Question
ask_grow b a out = makes (two_shapes b a) (shape_of (sums (corners b) (mirrored (corners a)))) out

-- "A sweep of dots": "Refusals are 1, 2, 3 and 8 only"
abbrev pub ask_sweep : Floored → List ℤ → Question
ask_sweep a out = let shape = shape_of (corners a) in writes (many_points a) (room_row shape out ∷ []) shape out

-- "Length"
abbrev pub ask_length : Floored → Question
ask_length a = asks (one_shape a) [] (length_numbers (corners a))

-- "Width"; 10: "width of a shape with fewer than three corners"
abbrev pub ask_width : Floored → Question
ask_width a = asks (one_shape a) (row 10 (ltb (length (corners a)) 3) [] ∷ []) (width_numbers (corners a))

-- "Relation"
abbrev pub ask_relation : Floored → Floored → Question
ask_relation a b = asks (two_shapes a b) [] (relation_number (corners a) (corners b) ∷ [])

-- "Inside"
abbrev pub ask_inside : Floored → Floored → Question
ask_inside a b = asks (two_shapes a b) [] (inside_number (corners a) (corners b) ∷ [])

-- "Let the cart offer its reason": "After 1 to 5 and 13, refuse by 11 and 12"
abbrev pub ask_offer : Floored → Floored → Point → Question
ask_offer a b d = asks (two_shapes a b) (direction_rows d) (offer_number d (corners a) (corners b) ∷ [])

-- "Clearance"
abbrev pub ask_clearance : Floored → Floored → Question
ask_clearance a b = asks (two_shapes a b) [] (clearance_numbers (corners a) (corners b))

-- "Lines that just touch both"; 9: "given exactly when the shapes are not apart, after 1 to 5"
abbrev pub ask_tangents : Floored → Floored → Question
ask_tangents a b =
    asks (two_shapes a b) (row 9 (not (apart (corners a) (corners b))) [] ∷ []) (tangent_positions (corners a) (corners b))
