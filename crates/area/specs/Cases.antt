-- Areas by hand, as one table, by computing.
use Rattle.std.specs.Prelude.{◌≡◌, refl, List, [], ◌∷◌, map, ℤ, pos, negsuc}
use Rattle.plane.specs.Limits.{max_corners, max_coordinate}
use Rattle.plane.specs.Point.{same_point}
use Rattle.plane.specs.Turn.{cross, turn}
use Rattle.plane.specs.Shape.{breaks, precedes}
use Rattle.plane.specs.Reply.{Reply, answered, refused}
use Rattle.plane.specs.Refusal.{bad_count, too_many, outside, some_outside, equal_pair, left_broken, rule_broken, broken_edge}
use Rattle.plane.specs.Refusal.{broken_corner}
use Rattle.plane.specs.Refusal.{breaking_edge, breaking_corner, bad_start}
use Rattle.plane.specs.Floor.{Floored, on}
use Rattle.plane.specs.Question.{reply}
use Rattle.area.specs.Area.{ask_area}

-- what the definitions give, and what is stated
pub record Case : Type 0 where
  pub shape : Floored
  pub stated : Reply

-- on floor 3
abbrev case : List ℤ → Reply → Case
case l s = record { shape = on l 3; stated = s }

abbrev pub cases : List Case
cases =
    -- a point, a segment, a triangle that has half a square millimetre
    case (pos 5 ∷ pos 5 ∷ []) (answered (pos 0 ∷ pos 3 ∷ []))
    ∷ case (pos 0 ∷ pos 0 ∷ pos 8 ∷ pos 3 ∷ []) (answered (pos 0 ∷ pos 3 ∷ []))
    ∷ case (pos 0 ∷ pos 0 ∷ pos 1 ∷ pos 0 ∷ pos 0 ∷ pos 1 ∷ []) (answered (pos 1 ∷ pos 3 ∷ []))
    -- a square of 10 about the origin, and without one corner
    ∷ case (negsuc 4 ∷ negsuc 4 ∷ pos 5 ∷ negsuc 4 ∷ pos 5 ∷ pos 5 ∷ negsuc 4 ∷ pos 5 ∷ []) (answered (pos 200 ∷ pos 3 ∷ []))
    ∷ case (negsuc 4 ∷ negsuc 4 ∷ pos 5 ∷ negsuc 4 ∷ negsuc 4 ∷ pos 5 ∷ []) (answered (pos 100 ∷ pos 3 ∷ []))
    -- no list, and a triangle the other way round
    ∷ case [] (refused 1 (1 ∷ []))
    ∷ case (pos 0 ∷ pos 0 ∷ pos 0 ∷ pos 1 ∷ pos 1 ∷ pos 0 ∷ []) (refused 4 (1 ∷ 0 ∷ 2 ∷ []))
    ∷ []

pub cases-hold : map (λ (c : Case). reply (ask_area c.shape)) cases ≡ map (λ (c : Case). c.stated) cases
unfolding max_corners max_coordinate same_point cross turn breaks precedes bad_count too_many outside some_outside equal_pair left_broken
    rule_broken broken_edge broken_corner breaking_edge breaking_corner bad_start reply
cases-hold = refl
