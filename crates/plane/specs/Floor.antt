-- What a question is lent: shapes with their floors (document 02, W11: "Each shape now carries a floor number from 0 to 65,535").
--     Floored       a list of numbers and its floor; corners a: the corners of the list
--     Shapes        what is lent to a question: nothing, with the floor that its answer has; one shape; two; or a sweep's points
--     rows_of s      what is refused of them, before the question's own rows
--     floor_of s     "Answers carry the floor"
--     Admitted s    they are good: valid, and on one floor
-- What it means: `admitted-exactly` of `Meaning.antt`.
use Rattle.std.specs.Prelude.{◌≡◌, not, List, [], ◌∷◌, ◌++◌, ℕ, eqb, ℤ}
use Rattle.plane.specs.Point.{Point, points}
use Rattle.plane.specs.Reply.{Row, row}
use Rattle.plane.specs.Refusal.{shape_rows, Valid}
use Rattle.plane.specs.Sweep.{point_rows, ValidPoints}

pub record Floored : Type 0 where
  pub list : List ℤ
  pub floor : ℕ

abbrev pub on : List ℤ → ℕ → Floored
on l f = record { list = l; floor = f }

abbrev pub corners : Floored → List Point
corners a = points a.list

pub data Shapes : Type 0 where
  no_shape : ℕ → Shapes
  one_shape : Floored → Shapes
  two_shapes : Floored → Floored → Shapes
  many_points : Floored → Shapes

-- 13: "Any question on two shapes of different floors is refused 13, after both shapes' own checks and before the rest"
abbrev pub floor_row : ℕ → ℕ → Row
floor_row f g = row 13 (not (eqb f g)) []

abbrev pub pair_rows : Floored → Floored → List Row
pair_rows a b = shape_rows 1 a.list ++ (shape_rows 2 b.list ++ (floor_row a.floor b.floor ∷ []))

abbrev pub rows_of : Shapes → List Row
rows_of (no_shape f) = []
rows_of (one_shape a) = shape_rows 1 a.list
rows_of (two_shapes a b) = pair_rows a b
rows_of (many_points a) = point_rows a.list

abbrev pub floor_of : Shapes → ℕ
floor_of (no_shape f) = f
floor_of (one_shape a) = a.floor
floor_of (two_shapes a b) = a.floor
floor_of (many_points a) = a.floor

-- two valid shapes on one floor
pub record Same (a b : Floored) : Type 0 where
  pub first-valid : Valid a.list
  pub second-valid : Valid b.list
  pub one-floor : a.floor ≡ b.floor

abbrev pub Admitted : Shapes → Type 0
Admitted (no_shape f) = Unit {0}
Admitted (one_shape a) = Valid a.list
Admitted (two_shapes a b) = Same a b
Admitted (many_points a) = ValidPoints a.list
