-- The least box about a shape: the rectangle of least perimeter that holds it and has one side on an edge (000, section 3.2). Our own
-- question, not of documents 01 and 02. Sides of boxes are counted in units of one over the length of the edge or direction that they
-- follow, so that all is whole; T and S below are `height` and `along`, Q is `edge_squared`.
--     around d ps        half of the way round the box whose sides point along d and across it: both spreads together
--     along ps e         the spread of the corners' values along edge e. The side across it is `height ps e`, the greatest turn
--     half_round ps e     half of the way round the box on edge e, T+S
--     no_larger ps e f    the box on edge e is no larger than that on edge f: (T+S)·(T+S)/Q as exact fractions
--     box_edge ps         the first edge whose box is no larger than any
--     box_numbers ps      edge, T, S and Q
--     ask_box a           the question: 10 for fewer than three corners
--     NoLargerBox A B    the least box of A is no larger than that of B
-- What it means: `Meaning.antt`.
use Rattle.std.specs.Prelude.{Bool, List, [], ◌∷◌, ℕ, ltb, ℤ, pos, ◌+ℤ◌, ◌*ℤ◌, length, ◌≤ℤ◌}
use Rattle.std.specs.Int.Signed.{le_z}
use Rattle.plane.specs.Point.{Point, corner, ◌⊖◌}
use Rattle.plane.specs.Shape.{next}
use Rattle.plane.specs.Search.{every, first}
use Rattle.plane.specs.Cut.{quarter}
use Rattle.plane.specs.Measure.{height, edge_squared}
use Rattle.plane.specs.Reply.{row}
use Rattle.plane.specs.Floor.{Floored, corners, one_shape}
use Rattle.plane.specs.Question.{Question, asks}
use Rattle.strips.specs.Strip.{spread}

unfoldable pub around : Point → List Point → ℤ
around d ps = spread d ps +ℤ spread (quarter d) ps

unfoldable pub along : List Point → ℕ → ℤ
along ps e = spread (corner ps (next (length ps) e) ⊖ corner ps e) ps

unfoldable pub half_round : List Point → ℕ → ℤ
half_round ps e = height ps e +ℤ along ps e

unfoldable pub no_larger : List Point → ℕ → ℕ → Bool
no_larger ps e f = le_z (half_round ps e *ℤ half_round ps e *ℤ edge_squared ps f) (half_round ps f *ℤ half_round ps f *ℤ edge_squared ps e)

-- the smallest position on a tie
unfoldable pub box_edge : List Point → ℕ
box_edge ps = first (λ e. every (no_larger ps e) (length ps)) (length ps)

abbrev pub NoLargerBox : List Point → List Point → Type 0
NoLargerBox A B = (half_round A (box_edge A) *ℤ half_round A (box_edge A) *ℤ edge_squared B (box_edge B))
    ≤ℤ (half_round B (box_edge B) *ℤ half_round B (box_edge B) *ℤ edge_squared A (box_edge A))

abbrev pub box_numbers : List Point → List ℤ
box_numbers ps = let e = box_edge ps in pos e ∷ height ps e ∷ along ps e ∷ edge_squared ps e ∷ []

abbrev pub ask_box : Floored → Question
ask_box a = asks (one_shape a) (row 10 (ltb (length (corners a)) 3) [] ∷ []) (box_numbers (corners a))
