-- What the search for a direction answers (document 02, request W13: "finds one, or says none if they are not apart").
--     Separates A B d           the direction d is accepted: rows 11 and 12 let it pass, and A is below B in it
--     Finds A B r               r is such a direction, any; or none, and then A and B are not apart
--     SeparatorBetween a b r    r is the reply to two shapes with their floors: "after 1 to 5 and 13" what is found
use Rattle.std.specs.Prelude.{true, false, Option, Some, None, List, [], ◌∷◌, ◌≡◌, ℤ, pos}
use Rattle.plane.specs.Point.{Point}
use Rattle.plane.specs.Reply.{Reply, NoneApply}
use Rattle.plane.specs.Furthest.{bad_direction, common_divisor}
use Rattle.plane.specs.Separation.{apart}
use Rattle.plane.specs.Offer.{below}
use Rattle.plane.specs.Floor.{Floored, corners, two_shapes, pair_rows}
use Rattle.plane.specs.Question.{Question, reply, asks}
use Rattle.polygon.specs.declared.point.Point.{Point as Code-as-Point}
use Rattle.polygon.specs.Point.{at}

pub record Separates (A B : List Point) (d : Point) : Type 0 where
  pub in-limits : bad_direction d ≡ false
  pub coprime : common_divisor d ≡ false
  pub is_below : below d A B ≡ true

abbrev pub Finds : List Point → List Point → Option Code-as-Point → Type 0
Finds A B (Some d) = Separates A B (at d)
Finds A B None = apart A B ≡ false

-- 1 and the direction, or 0 if there is none
abbrev pub separator_numbers : Option Code-as-Point → List ℤ
separator_numbers (Some d) = pos 1 ∷ d.x ∷ d.y ∷ []
separator_numbers None = pos 0 ∷ []

-- the question whose answer is what is found: "after 1 to 5 and 13"
abbrev pub ask_separator : Floored → Floored → Option Code-as-Point → Question
ask_separator a b found = asks (two_shapes a b) [] (separator_numbers found)

-- which of the directions is found, is left open
pub record SeparatorBetween (a b : Floored) (r : Reply) : Type 0 where
  pub found : Option Code-as-Point
  pub reply-is : r ≡ reply (ask_separator a b found)
  pub found-is : NoneApply (pair_rows a b) → Finds (corners a) (corners b) found
