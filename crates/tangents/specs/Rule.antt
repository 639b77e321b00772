-- The rule for a line that just touches both (document 02, request W1), with the shapes A on side s and B on side t, true for the left.
--     MeetsRule s t A B i j     the line from corner i of A to corner j of B touches both, and no two corners on it are nearer
--     FourTangents A B i .. p   A and B are apart, and four such lines, one of each kind
-- Only corners on this line are compared, as the request says. `tangent` of plane compares with all pairs that touch. `Meaning.antt` shows
-- that each of the two leaves the same pair.
use Rattle.std.specs.Prelude.{◌≡◌, Bool, true, false, List, ℕ, ◌<◌, pos, length, ◌≤ℤ◌}
use Rattle.plane.specs.Point.{Point, corner}
use Rattle.plane.specs.Turn.{turn}
use Rattle.plane.specs.Measure.{squared}
use Rattle.plane.specs.Separation.{apart}
use Rattle.plane.specs.Tangent.{touches}

pub record MeetsRule (s t : Bool) (A B : List Point) (i j : ℕ) : Type 0 where
  -- "from a corner of the first to a corner of the second"
  pub begins : i < length A
  pub ends : j < length B
  -- "both shapes on the left or on the line, both on the right, first left and second right, and the reverse"
  pub touching : touches s t A B i j ≡ true
  -- "Among several pairs on a line, the nearest pair is meant"
  pub nearest : (k l : ℕ) → k < length A → l < length B
      → turn (corner A i) (corner B j) (corner A k) ≡ pos 0 → turn (corner A i) (corner B j) (corner B l) ≡ pos 0
      → squared (corner A i) (corner B j) ≤ℤ squared (corner A k) (corner B l)

-- the four lines of two shapes that are apart, in the request's order
pub record FourTangents (A B : List Point) (i j k l m n o p : ℕ) : Type 0 where
  pub are-apart : apart A B ≡ true
  pub both_left : MeetsRule true true A B i j
  pub both_right : MeetsRule false false A B k l
  pub left-and-right : MeetsRule true false A B m n
  pub right-and-left : MeetsRule false true A B o p
