-- Greatest distances by hand, as one table, by computing.
use Rattle.std.specs.Prelude.{◌≡◌, refl, List, [], ◌∷◌, map, ℤ, pos, negsuc}
use Rattle.plane.specs.Limits.{max_corners, max_coordinate}
use Rattle.plane.specs.Point.{same_point}
use Rattle.plane.specs.Turn.{turn}
use Rattle.plane.specs.Shape.{breaks, precedes}
use Rattle.plane.specs.Direction.{greater}
use Rattle.plane.specs.Measure.{squared}
use Rattle.plane.specs.Reply.{Reply, answered, refused}
use Rattle.plane.specs.Refusal.{bad_count, too_many, outside, some_outside, equal_pair, left_broken, rule_broken, broken_edge}
use Rattle.plane.specs.Refusal.{broken_corner}
use Rattle.plane.specs.Refusal.{breaking_edge, breaking_corner, bad_start}
use Rattle.plane.specs.Floor.{Floored, on}
use Rattle.plane.specs.Question.{reply}
use Rattle.reach.specs.Greatest.{greatest_squared, furthest_apart, greatest_first, greatest_second, ask_greatest}

-- what the definitions give, and what is stated
pub record Case : Type 0 where
  pub one : Floored
  pub other : Floored
  pub stated : Reply

-- on floor 3
abbrev case : List ℤ → List ℤ → Reply → Case
case l m s = record { one = on l 3; other = on m 3; stated = s }

-- a square of 2, and one of 2 that is 10 to the right
abbrev square : List ℤ
square = pos 0 ∷ pos 0 ∷ pos 2 ∷ pos 0 ∷ pos 2 ∷ pos 2 ∷ pos 0 ∷ pos 2 ∷ []

abbrev right : List ℤ
right = pos 10 ∷ pos 0 ∷ pos 12 ∷ pos 0 ∷ pos 12 ∷ pos 2 ∷ pos 10 ∷ pos 2 ∷ []

abbrev pub cases : List Case
cases =
    -- two points, and a point and itself
    case (pos 0 ∷ pos 0 ∷ []) (pos 3 ∷ pos 4 ∷ []) (answered (pos 25 ∷ pos 0 ∷ pos 0 ∷ pos 3 ∷ []))
    ∷ case (pos 5 ∷ pos 5 ∷ []) (pos 5 ∷ pos 5 ∷ []) (answered (pos 0 ∷ pos 0 ∷ pos 0 ∷ pos 3 ∷ []))
    -- two diagonals are as long: the first position decides; and of one corner two are as far
    ∷ case square right (answered (pos 148 ∷ pos 0 ∷ pos 2 ∷ pos 3 ∷ []))
    ∷ case right square (answered (pos 148 ∷ pos 1 ∷ pos 3 ∷ pos 3 ∷ []))
    ∷ case (pos 1 ∷ pos 1 ∷ []) square (answered (pos 2 ∷ pos 0 ∷ pos 0 ∷ pos 3 ∷ []))
    -- a shape and itself: its length
    ∷ case square square (answered (pos 8 ∷ pos 0 ∷ pos 2 ∷ pos 3 ∷ []))
    -- a triangle and a segment
    ∷ case (pos 0 ∷ negsuc 8 ∷ pos 1 ∷ pos 0 ∷ pos 0 ∷ pos 5 ∷ []) (pos 0 ∷ pos 0 ∷ pos 2 ∷ pos 1 ∷ [])
    (answered (pos 104 ∷ pos 0 ∷ pos 1 ∷ pos 3 ∷ []))
    -- refused: no list, and a triangle the other way round as the second
    ∷ case [] square (refused 1 (1 ∷ []))
    ∷ case square (pos 0 ∷ pos 0 ∷ pos 0 ∷ pos 1 ∷ pos 1 ∷ pos 0 ∷ []) (refused 4 (2 ∷ 0 ∷ 2 ∷ []))
    ∷ record { one = on square 3; other = on right 4; stated = refused 13 [] }
    ∷ []

pub cases-hold : map (λ (c : Case). reply (ask_greatest c.one c.other)) cases ≡ map (λ (c : Case). c.stated) cases
unfolding max_corners max_coordinate same_point turn greater breaks precedes squared bad_count too_many outside some_outside equal_pair
    left_broken
    rule_broken broken_edge broken_corner breaking_edge breaking_corner bad_start greatest_squared furthest_apart greatest_first
    greatest_second reply
cases-hold = refl
