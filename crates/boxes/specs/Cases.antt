-- Boxes by hand, as one table, by computing.
use Rattle.std.specs.Prelude.{◌≡◌, refl, List, [], ◌∷◌, map, ℤ, pos, negsuc}
use Rattle.plane.specs.Limits.{max_corners, max_coordinate}
use Rattle.plane.specs.Point.{same_point}
use Rattle.plane.specs.Turn.{turn}
use Rattle.plane.specs.Shape.{breaks, precedes}
use Rattle.plane.specs.Direction.{value, greater, support}
use Rattle.plane.specs.Measure.{squared, edge_turn, height, edge_squared}
use Rattle.plane.specs.Reply.{Reply, answered, refused}
use Rattle.plane.specs.Refusal.{bad_count, too_many, outside, some_outside, equal_pair, left_broken, rule_broken, broken_edge}
use Rattle.plane.specs.Refusal.{broken_corner}
use Rattle.plane.specs.Refusal.{breaking_edge, breaking_corner, bad_start}
use Rattle.plane.specs.Floor.{Floored, on}
use Rattle.plane.specs.Question.{reply}
use Rattle.strips.specs.Strip.{least, spread}
use Rattle.boxes.specs.Box.{along, half_round, no_larger, box_edge, ask_box}

-- what the definitions give, and what is stated
pub record Case : Type 0 where
  pub shape : Floored
  pub stated : Reply

-- on floor 3
abbrev case : List ℤ → Reply → Case
case l s = record { shape = on l 3; stated = s }

abbrev pub cases : List Case
cases =
    -- a box of 6 by 4: all four edges tie, the first wins
    case (pos 0 ∷ pos 0 ∷ pos 6 ∷ pos 0 ∷ pos 6 ∷ pos 4 ∷ pos 0 ∷ pos 4 ∷ []) (answered (pos 0 ∷ pos 24 ∷ pos 36 ∷ pos 36 ∷ pos 3 ∷ []))
    -- a square on its corner
    ∷ case (pos 0 ∷ negsuc 4 ∷ pos 5 ∷ pos 0 ∷ pos 0 ∷ pos 5 ∷ negsuc 4 ∷ pos 0 ∷ [])
    (answered (pos 0 ∷ pos 50 ∷ pos 50 ∷ pos 50 ∷ pos 3 ∷ []))
    -- a right triangle: the two legs tie and have a smaller box than the long side, which is edge 0
    ∷ case (pos 0 ∷ pos 0 ∷ pos 10 ∷ pos 5 ∷ pos 0 ∷ pos 5 ∷ []) (answered (pos 1 ∷ pos 50 ∷ pos 100 ∷ pos 100 ∷ pos 3 ∷ []))
    -- the least perimeter at edge 3, the least width at edge 0, the least area at edge 2
    ∷ case (pos 6 ∷ pos 0 ∷ pos 9 ∷ pos 5 ∷ pos 9 ∷ pos 7 ∷ pos 3 ∷ pos 3 ∷ [])
    (answered (pos 3 ∷ pos 30 ∷ pos 18 ∷ pos 18 ∷ pos 3 ∷ []))
    -- a point, a segment, no list
    ∷ case (pos 5 ∷ pos 5 ∷ []) (refused 10 [])
    ∷ case (pos 0 ∷ pos 0 ∷ pos 8 ∷ pos 3 ∷ []) (refused 10 [])
    ∷ case [] (refused 1 (1 ∷ []))
    ∷ []

pub cases-hold : map (λ (c : Case). reply (ask_box c.shape)) cases ≡ map (λ (c : Case). c.stated) cases
unfolding max_corners max_coordinate same_point turn breaks precedes bad_count too_many outside some_outside equal_pair left_broken
    rule_broken
    broken_edge broken_corner breaking_edge breaking_corner bad_start value greater support squared edge_turn height edge_squared least
    spread
    along half_round no_larger box_edge reply
cases-hold = refl
