-- Changes by hand: what is replied of new shapes beside an old one, as one table, by computing.
use Rattle.std.specs.Prelude.{◌≡◌, refl, List, [], ◌∷◌, map, ℕ, ℤ, pos, negsuc}
use Rattle.plane.specs.Limits.{max_corners, max_coordinate}
use Rattle.plane.specs.Point.{same_point}
use Rattle.plane.specs.Turn.{turn}
use Rattle.plane.specs.Shape.{breaks, precedes}
use Rattle.plane.specs.Reply.{Reply, answered, refused}
use Rattle.plane.specs.Refusal.{bad_count, too_many, outside, some_outside, equal_pair, left_broken, rule_broken, bad_start}
use Rattle.plane.specs.Direction.{value}
use Rattle.plane.specs.Corner.{shape_of}
use Rattle.plane.specs.Measure.{squared, edge_squared}
use Rattle.plane.specs.Separation.{inside, apart}
use Rattle.plane.specs.Clearance.{falls, top, bottom, no_further, nearest}
use Rattle.plane.specs.Distance.{distance}
use Rattle.plane.specs.Floor.{Floored, on}
use Rattle.plane.specs.Question.{reply}
use Rattle.excess.specs.Excess.{beyond, no_nearer, outermost, excess, root_above, up, ask_excess}

-- what the definitions give, and what is stated
pub record Case : Type 0 where
  pub new : Floored
  pub old : Floored
  pub stated : Reply

-- both on floor 3
abbrev case : List ℤ → List ℤ → Reply → Case
case n o s = record { new = on n 3; old = on o 3; stated = s }

abbrev answers : List ℤ → List ℤ → List ℤ → Case
answers n o v = case n o (answered v)

-- the square from a a to b b, and a point
abbrev square : ℕ → ℕ → List ℤ
square a b = pos a ∷ pos a ∷ pos b ∷ pos a ∷ pos b ∷ pos b ∷ pos a ∷ pos b ∷ []

abbrev at : ℕ → ℕ → List ℤ
at x y = pos x ∷ pos y ∷ []

abbrev pub cases : List Case
cases =
    -- no change, and a smaller shape: inside
    answers (square 0 10) (square 0 10) (pos 0 ∷ pos 3 ∷ [])
    ∷ answers (square 2 8) (square 0 10) (pos 0 ∷ pos 3 ∷ [])
    -- moved right by 3: corners 1 and 2 are 3 mm from corners 1 and 2 of the old square, and the first of them is answered
    ∷ answers (pos 3 ∷ pos 0 ∷ pos 13 ∷ pos 0 ∷ pos 13 ∷ pos 10 ∷ pos 3 ∷ pos 10 ∷ []) (square 0 10)
    (pos 1 ∷ pos 1 ∷ pos 1 ∷ pos 9 ∷ pos 3 ∷ pos 3 ∷ [])
    -- corners 5 -3, 3 mm below the edge 0, and 5 14, 4 mm above the edge 2: the furthest is answered
    ∷ answers (pos 5 ∷ negsuc 2 ∷ pos 10 ∷ pos 0 ∷ pos 5 ∷ pos 14 ∷ pos 0 ∷ pos 0 ∷ []) (square 0 10)
    (pos 2 ∷ pos 2 ∷ pos 2 ∷ pos 40 ∷ pos 100 ∷ pos 4 ∷ pos 3 ∷ [])
    -- rounded up: the root of 2 is 2
    ∷ answers (at 11 11) (square 0 10) (pos 1 ∷ pos 0 ∷ pos 2 ∷ pos 2 ∷ pos 2 ∷ pos 3 ∷ [])
    -- 3 3 falls on the long edge of the triangle 0 0 4 0 0 3: 9·9/25, 1.8 mm
    ∷ answers (at 3 3) (pos 0 ∷ pos 0 ∷ pos 4 ∷ pos 0 ∷ pos 0 ∷ pos 3 ∷ [])
    (pos 2 ∷ pos 0 ∷ pos 1 ∷ pos 9 ∷ pos 25 ∷ pos 2 ∷ pos 3 ∷ [])
    -- a post in place of a square is inside it; a square in place of a post reaches beyond it
    ∷ answers (at 5 5) (square 0 10) (pos 0 ∷ pos 3 ∷ [])
    ∷ answers (square 0 10) (at 5 5) (pos 1 ∷ pos 0 ∷ pos 0 ∷ pos 50 ∷ pos 8 ∷ pos 3 ∷ [])
    -- 1 to 5 of the new shape before those of the old one; 13
    ∷ case [] [] (refused 1 (1 ∷ []))
    ∷ case (at 5 5) [] (refused 1 (2 ∷ []))
    ∷ record { new = on (at 5 5) 3; old = on (square 0 10) 4; stated = refused 13 [] }
    ∷ []

pub cases-hold : map (λ (c : Case). reply (ask_excess c.new c.old)) cases ≡ map (λ (c : Case). c.stated) cases
unfolding max_corners max_coordinate same_point turn breaks precedes bad_count too_many outside some_outside equal_pair left_broken
    rule_broken bad_start value shape_of squared edge_squared inside apart falls top bottom no_further nearest distance reply beyond
    no_nearer
    outermost excess root_above up
cases-hold = refl
