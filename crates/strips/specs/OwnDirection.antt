-- What the answers of width and clearance say of strips (document 02, request W9): their own directions, and the clearance as a fraction.
--     out_of ps e                 the direction out of edge e
--     towards A B c              the direction from B to A along a candidate c of the clearance
--     answer_top, answer_bottom    the squared distance that an answer of clearance gives, as a fraction
-- Our own, not of document 02. What they mean: `EveryDirection.antt`.
use Rattle.std.specs.Prelude.{cond, List, ℕ, ℤ, pos, neg_ℤ, ◌*ℤ◌, length, get_or}
use Rattle.plane.specs.Point.{Point, corner, ◌⊖◌, eq_z}
use Rattle.plane.specs.Shape.{next}
use Rattle.plane.specs.Mean.{times}
use Rattle.plane.specs.Clearance.{Candidate, corners, on_second, on_first, turn_on}
use Rattle.plane.specs.Cut.{outward}

-- the edge turned right by a quarter
abbrev pub out_of : List Point → ℕ → Point
out_of ps e = outward (corner ps e) (corner ps (next (length ps) e))

-- the step between the two corners; or that between the foot on an edge and the corner, times the edge's squared length: the sign of the
-- corner's turn says on which side of the edge it is
abbrev pub towards : List Point → List Point → Candidate → Point
towards A B (corners i j) = corner A i ⊖ corner B j
towards A B (on_second i e) = times (neg_ℤ (turn_on B e (corner A i))) (out_of B e)
towards A B (on_first j e) = times (turn_on A e (corner B j)) (out_of A e)

-- the first number of an answer is its kind: 0 not apart, 1 two corners, 2 or 3 a corner and an edge
abbrev pub by_kind : List ℤ → ℤ → ℤ → ℤ → ℤ
by_kind v not-apart two-corners with-edge =
    let kind = get_or v 0 (pos 0) in
    cond (eq_z kind (pos 0)) not-apart (cond (eq_z kind (pos 1)) two-corners with-edge)

-- "their squared distance" is the fourth number; with an edge, t is the fourth and q the fifth; "shapes not apart still answer 0"
abbrev pub answer_top : List ℤ → ℤ
answer_top v = let fourth = get_or v 3 (pos 0) in by_kind v (pos 0) fourth (fourth *ℤ fourth)

abbrev pub answer_bottom : List ℤ → ℤ
answer_bottom v = by_kind v (pos 1) (pos 1) (get_or v 4 (pos 0))
