-- First contact by hand: what contact replies of drives to a square, as one table, by computing.
use Rattle.std.specs.Prelude.{◌≡◌, refl, List, [], ◌∷◌, map, ℕ, ℤ, pos, negsuc, neg_ℤ}
use Rattle.divisor.specs.Divisor.{gcd, euclid}
use Rattle.plane.specs.Limits.{max_corners, max_coordinate}
use Rattle.plane.specs.Point.{Point, point, same_point}
use Rattle.plane.specs.Turn.{turn}
use Rattle.plane.specs.Shape.{breaks, precedes}
use Rattle.plane.specs.Reply.{Reply, answered, refused}
use Rattle.plane.specs.Refusal.{bad_count, too_many, outside, some_outside, equal_pair, left_broken, rule_broken, bad_start}
use Rattle.plane.specs.Direction.{value, greater, support}
use Rattle.plane.specs.Primitive.{primitive}
use Rattle.plane.specs.Corner.{shape_of}
use Rattle.plane.specs.Measure.{squared, root_below}
use Rattle.plane.specs.Separation.{inside, apart}
use Rattle.plane.specs.Floor.{Floored, on}
use Rattle.plane.specs.Question.{reply}
use Rattle.growth.specs.Grown.{grown}
use Rattle.motion.specs.Contact.{past, entering, arrival, lowest, safe, ask_contact}

-- what the definitions give, and what is stated
pub record Case : Type 0 where
  pub obstacle : Floored
  pub cart : Floored
  pub from : Point
  pub to : Point
  pub stated : Reply

-- both on floor 3
abbrev case : List ℤ → List ℤ → Point → Point → Reply → Case
case b a t u s = record { obstacle = on b 3; cart = on a 3; from = t; to = u; stated = s }

abbrev answers : List ℤ → List ℤ → Point → Point → List ℤ → Case
answers b a t u v = case b a t u (answered v)

abbrev at : ℕ → ℕ → List ℤ
at x y = pos x ∷ pos y ∷ []

abbrev square : List ℤ
square = pos 10 ∷ pos 10 ∷ pos 20 ∷ pos 10 ∷ pos 20 ∷ pos 20 ∷ pos 10 ∷ pos 20 ∷ []

-- a cart that reaches 2 to every side
abbrev cart : List ℤ
cart = negsuc 1 ∷ negsuc 1 ∷ pos 2 ∷ negsuc 1 ∷ pos 2 ∷ pos 2 ∷ negsuc 1 ∷ pos 2 ∷ []

abbrev place : ℕ → ℕ → Point
place x y = point (pos x) (pos y)

abbrev pub cases : List Case
cases =
    -- to the right along y = 15: a point enters at x = 10, the cart at x = 8
    answers square (at 0 0) (place 0 15) (place 30 15) (pos 1 ∷ pos 1 ∷ pos 3 ∷ pos 10 ∷ pos 3 ∷ [])
    ∷ answers square cart (place 0 15) (place 30 15) (pos 1 ∷ pos 4 ∷ pos 15 ∷ pos 8 ∷ pos 3 ∷ [])
    -- the way back enters on the other side
    ∷ answers square cart (place 30 15) (place 0 15) (pos 1 ∷ pos 4 ∷ pos 15 ∷ pos 8 ∷ pos 3 ∷ [])
    -- past it, and along its edge, which is touched from x = 10 on
    ∷ answers square (at 0 0) (place 0 9) (place 30 9) (pos 0 ∷ pos 3 ∷ [])
    ∷ answers square (at 0 0) (place 0 10) (place 30 10) (pos 1 ∷ pos 1 ∷ pos 3 ∷ pos 10 ∷ pos 3 ∷ [])
    -- it begins there, and does not move
    ∷ answers square (at 0 0) (place 15 15) (place 30 15) (pos 1 ∷ pos 0 ∷ pos 1 ∷ pos 0 ∷ pos 3 ∷ [])
    ∷ answers square (at 0 0) (place 15 15) (place 15 15) (pos 1 ∷ pos 0 ∷ pos 1 ∷ pos 0 ∷ pos 3 ∷ [])
    ∷ answers square (at 0 0) (place 5 15) (place 5 15) (pos 0 ∷ pos 3 ∷ [])
    -- the last millimetre; one too few
    ∷ answers square (at 0 0) (place 0 15) (place 10 15) (pos 1 ∷ pos 1 ∷ pos 1 ∷ pos 10 ∷ pos 3 ∷ [])
    ∷ answers square (at 0 0) (place 0 15) (place 9 15) (pos 0 ∷ pos 3 ∷ [])
    -- a post at 5 5 on the diagonal: 7.07 of 14.1 mm, rounded down; a wall 0 5 10 5, crossed and driven along
    ∷ answers (at 5 5) (at 0 0) (place 0 0) (place 10 10) (pos 1 ∷ pos 1 ∷ pos 2 ∷ pos 7 ∷ pos 3 ∷ [])
    ∷ answers (pos 0 ∷ pos 5 ∷ pos 10 ∷ pos 5 ∷ []) (at 0 0) (place 3 0) (place 4 7) (pos 1 ∷ pos 5 ∷ pos 7 ∷ pos 5 ∷ pos 3 ∷ [])
    ∷ answers (pos 4 ∷ pos 5 ∷ pos 10 ∷ pos 5 ∷ []) (at 0 0) (place 0 5) (place 9 5) (pos 1 ∷ pos 4 ∷ pos 9 ∷ pos 4 ∷ pos 3 ∷ [])
    -- down onto the end of a wall that is driven along
    ∷ answers (pos 5 ∷ pos 0 ∷ pos 5 ∷ pos 5 ∷ []) (at 0 0) (place 5 9) (place 5 0) (pos 1 ∷ pos 4 ∷ pos 9 ∷ pos 4 ∷ pos 3 ∷ [])
    -- 1 to 5, 13, 3 of the places, 7
    ∷ case square [] (place 0 0) (place 0 0) (refused 1 (2 ∷ []))
    ∷ record { obstacle = on square 3; cart = on cart 4; from = place 0 0; to = place 9 9; stated = refused 13 [] }
    ∷ case square cart (place 1_000_001 0) (place 0 1_000_001) (refused 3 (3 ∷ []))
    ∷ case square cart (place 0 0) (point (pos 0) (neg_ℤ (pos 1_000_001))) (refused 3 (4 ∷ []))
    ∷ case (at 1_000_000 5) (negsuc 0 ∷ pos 0 ∷ []) (place 0 0) (place 9 9) (refused 7 [])
    ∷ []

pub cases-hold :
    map (λ (c : Case). reply (ask_contact c.obstacle c.cart c.from c.to)) cases ≡ map (λ (c : Case). c.stated) cases
unfolding max_corners max_coordinate same_point turn breaks precedes bad_count too_many outside some_outside equal_pair left_broken
    rule_broken bad_start value greater support euclid gcd primitive shape_of squared root_below inside apart reply grown past entering
    arrival
    lowest safe
cases-hold = refl
