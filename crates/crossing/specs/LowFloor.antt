-- A floor that a host gives is any number (document 02, W14: "one above 65,535 being refused 13 with the same place in the order").
--     low_floor q       the question, with 13 also for a floor above its limit: after the rows of the shapes and before its own
--     low_passage l r c     the same of passage, whose rows of the shapes are among its own
--     low_ring a out    the same of a ring, after 1 to 3
--     barred rows      the reply where a floor is above its limit: the refusal of the first of these rows that applies, or 13
--     Numbered rows    no row has number 0, so that 0 tells an answer
-- Different floors are 13 by the pair's own row, and equal ones above the limit by this one. What it means: `Meaning.antt`.
use Rattle.std.specs.Prelude.{List, [], ◌∷◌, ◌++◌, ◌<◌, ltb, ℤ}
use Rattle.plane.specs.Limits.{max_floor}
use Rattle.plane.specs.Reply.{Reply, refused, Row, row, first_row}
use Rattle.plane.specs.Floor.{Floored, corners, no_shape, floor_of}
use Rattle.plane.specs.Output.{room_row}
use Rattle.plane.specs.Question.{Question, asks, writes}
use Rattle.admission.specs.Three.{three_rows}
use Rattle.passage.specs.Passage.{passage_numbers, grown_rows}
use Rattle.ring.specs.Ring.{ring_shape, inward_row, list_rows}

unfoldable pub low_floor : Question → Question
low_floor q = record {
  shapes = q.shapes;
  rest = row 13 (ltb max_floor (floor_of q.shapes)) [] ∷ q.rest;
  answer = q.answer;
  shape = q.shape;
  lent = q.lent;
}

unfoldable pub low_passage : Floored → Floored → Floored → Question
low_passage l r c = asks (no_shape l.floor) (three_rows l r c ++ (row 13 (ltb max_floor l.floor) [] ∷ grown_rows l r c))
    (passage_numbers (corners l) (corners r) (corners c))

unfoldable pub low_ring : Floored → List ℤ → Question
low_ring a out = writes (no_shape a.floor)
    (list_rows a.list
    ++ (row 13 (ltb max_floor a.floor) [] ∷ inward_row (corners a) ∷ room_row (ring_shape (corners a)) out ∷ []))
    (ring_shape (corners a)) out

abbrev pub barred : List Row → Reply
barred rows = first_row rows (refused 13 [])

abbrev pub Numbered : List Row → Type 0
Numbered [] = Unit {0}
Numbered (w ∷ ws) = (0 < w.number) × Numbered ws
