-- The greatest distance of a point of one shape and a point of another (000, 2.3; 003, 3), by comparing all pairs of corners: no two points
-- are further apart than some two corners. Our own question, not of documents 01 and 02. It is said as length is (`Measure.antt` of plane).
--     greatest_squared A B     the greatest squared distance of a corner of A and a corner of B, had at positions greatest_first A B of A
-- and
--                             greatest_second A B of B
--     furthest_apart A B i j   corner i of A and corner j of B are that far apart
--     greatest_numbers A B     what is answered; ask_greatest a b: the question
-- What it means: `Meaning.antt`.
use Rattle.std.specs.Prelude.{Bool, List, [], ◌∷◌, ℕ, ℤ, pos, length}
use Rattle.std.specs.Int.Signed.{le_z}
use Rattle.plane.specs.Point.{Point, corner}
use Rattle.plane.specs.Search.{some, first}
use Rattle.plane.specs.Measure.{greatest, squared}
use Rattle.plane.specs.Floor.{Floored, corners, two_shapes}
use Rattle.plane.specs.Question.{Question, asks}

unfoldable pub greatest_squared : List Point → List Point → ℤ
greatest_squared A B = greatest (λ i. greatest (λ j. squared (corner A i) (corner B j)) (length B)) (length A)

unfoldable pub furthest_apart : List Point → List Point → ℕ → ℕ → Bool
furthest_apart A B i j = le_z (greatest_squared A B) (squared (corner A i) (corner B j))

-- the smallest position of A that is so far from some corner of B
unfoldable pub greatest_first : List Point → List Point → ℕ
greatest_first A B = first (λ i. some (furthest_apart A B i) (length B)) (length A)

-- then the smallest position of B that is so far from it
unfoldable pub greatest_second : List Point → List Point → ℕ
greatest_second A B = first (furthest_apart A B (greatest_first A B)) (length B)

abbrev pub greatest_numbers : List Point → List Point → List ℤ
greatest_numbers A B = greatest_squared A B ∷ pos (greatest_first A B) ∷ pos (greatest_second A B) ∷ []

-- refused as relation is: 1 to 5 of each shape, and 13
abbrev pub ask_greatest : Floored → Floored → Question
ask_greatest a b = asks (two_shapes a b) [] (greatest_numbers (corners a) (corners b))
