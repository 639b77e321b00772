-- Passing by hand: what passage replies of a corridor and its carts, as one table, by computing.
use Rattle.std.specs.Prelude.{◌≡◌, refl, List, [], ◌∷◌, map, ℕ, ℤ, pos, negsuc, neg_ℤ}
use Rattle.divisor.specs.Divisor.{gcd, euclid}
use Rattle.plane.specs.Limits.{max_corners, max_coordinate}
use Rattle.plane.specs.Point.{same_point}
use Rattle.plane.specs.Turn.{turn}
use Rattle.plane.specs.Shape.{breaks, precedes}
use Rattle.plane.specs.Reply.{Reply, answered, refused}
use Rattle.plane.specs.Refusal.{bad_count, too_many, outside, some_outside, equal_pair, left_broken, rule_broken, bad_start}
use Rattle.plane.specs.Direction.{value, greater, support}
use Rattle.plane.specs.Primitive.{primitive}
use Rattle.plane.specs.Corner.{shape_of}
use Rattle.plane.specs.Measure.{squared, edge_squared, root_below}
use Rattle.plane.specs.Separation.{inside, apart}
use Rattle.plane.specs.Clearance.{falls, top, bottom, no_further, nearest}
use Rattle.plane.specs.Floor.{Floored, on}
use Rattle.plane.specs.Question.{reply}
use Rattle.strips.specs.Strip.{least}
use Rattle.growth.specs.Grown.{grown}
use Rattle.passage.specs.Passage.{across, low_line, high_line, room, free_width, ask_passage}

-- what the definitions give, and what is stated
pub record Case : Type 0 where
  pub left : Floored
  pub right : Floored
  pub cart : Floored
  pub stated : Reply

-- all on floor 3
abbrev case : List ℤ → List ℤ → List ℤ → Reply → Case
case l r c s = record { left = on l 3; right = on r 3; cart = on c 3; stated = s }

abbrev answers : List ℤ → List ℤ → List ℤ → List ℤ → Case
answers l r c v = case l r c (answered v)

-- a corridor of 5 mm: above it the wall 0 5 8 5, below it 0 0 8 0
abbrev above : List ℤ
above = pos 0 ∷ pos 5 ∷ pos 8 ∷ pos 5 ∷ []

abbrev below : List ℤ
below = pos 0 ∷ pos 0 ∷ pos 8 ∷ pos 0 ∷ []

-- a cart that reaches a below its origin and b above it: -1 -a 1 -a 1 b -1 b
abbrev tall : ℕ → ℕ → List ℤ
tall a b = negsuc 0 ∷ neg_ℤ (pos a) ∷ pos 1 ∷ neg_ℤ (pos a) ∷ pos 1 ∷ pos b ∷ negsuc 0 ∷ pos b ∷ []

abbrev at : ℕ → ℕ → List ℤ
at x y = pos x ∷ pos y ∷ []

abbrev pub cases : List Case
cases =
    -- blocked by one millimetre; touching both walls is blocked as well
    answers above below (tall 3 3) (pos 0 ∷ pos 3 ∷ [])
    ∷ answers above below (tall 3 2) (pos 0 ∷ pos 3 ∷ [])
    -- one millimetre of room: the y of the cart's origin is from 2 to 3; in direction 0 -1, the walls exchanged, its value from -3 to -2
    ∷ answers above below (tall 2 2) (pos 1 ∷ pos 0 ∷ pos 1 ∷ pos 2 ∷ pos 3 ∷ pos 1 ∷ pos 3 ∷ [])
    ∷ answers below above (tall 2 2) (pos 1 ∷ pos 0 ∷ negsuc 0 ∷ negsuc 2 ∷ negsuc 1 ∷ pos 1 ∷ pos 3 ∷ [])
    ∷ answers above below (tall 1 0) (pos 1 ∷ pos 0 ∷ pos 1 ∷ pos 1 ∷ pos 5 ∷ pos 4 ∷ pos 3 ∷ [])
    -- between two posts, 6 8 and 0 0, a cart that is a point has 10 mm; one that is 0 0 1 0 has 9.4
    ∷ answers (at 6 8) (at 0 0) (at 0 0) (pos 1 ∷ pos 3 ∷ pos 4 ∷ pos 0 ∷ pos 50 ∷ pos 10 ∷ pos 3 ∷ [])
    ∷ answers (at 6 8) (at 0 0) (pos 0 ∷ pos 0 ∷ pos 1 ∷ pos 0 ∷ [])
    (pos 1 ∷ pos 5 ∷ pos 8 ∷ pos 0 ∷ pos 89 ∷ pos 9 ∷ pos 3 ∷ [])
    -- 1 to 5 of the cart blame the third shape; 13 for its floor alone; 7, the left obstacle grown is out of range
    ∷ case above below [] (refused 1 (3 ∷ []))
    ∷ record { left = on above 3; right = on below 3; cart = on (tall 2 2) 4; stated = refused 13 [] }
    ∷ case (at 1_000_000 5) (at 0 0) (negsuc 0 ∷ pos 0 ∷ []) (refused 7 [])
    ∷ []

pub cases-hold : map (λ (c : Case). reply (ask_passage c.left c.right c.cart)) cases ≡ map (λ (c : Case). c.stated) cases
unfolding max_corners max_coordinate same_point turn breaks precedes bad_count too_many outside some_outside equal_pair left_broken
    rule_broken bad_start value greater support euclid gcd primitive shape_of squared edge_squared root_below inside apart falls top bottom
    no_further nearest reply least grown across low_line high_line room free_width
cases-hold = refl
