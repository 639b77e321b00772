-- Growing by hand: what the definitions give for two carts and an obstacle, as one table, by computing.
use Rattle.std.specs.Prelude.{◌≡◌, refl, List, [], ◌∷◌, map, ℤ, pos, negsuc}
use Rattle.plane.specs.Point.{Point, point, points, numbers, same_point}
use Rattle.plane.specs.Turn.{turn}
use Rattle.plane.specs.Shape.{precedes}
use Rattle.plane.specs.Corner.{shape_of}
use Rattle.plane.specs.Separation.{inside, apart, not_left, on_rim, touching, relation_number}
use Rattle.growth.specs.Grown.{grown, placed}

-- what the definitions give, and what is stated: the grown obstacle, and how the cart at a place relates to the obstacle
pub record Case : Type 0 where
  pub outline : List ℤ
  pub place : Point
  pub grown-is : List ℤ
  pub relation : ℤ

-- the obstacle: 0 0 10 0 10 10 0 10
abbrev square : List ℤ
square = pos 0 ∷ pos 0 ∷ pos 10 ∷ pos 0 ∷ pos 10 ∷ pos 10 ∷ pos 0 ∷ pos 10 ∷ []

-- a cart whose origin is its first corner: 0 0 4 0 0 2; grown by it the square is 0 -2 10 -2 10 10 -4 10 -4 0
abbrev triangle : List ℤ
triangle = pos 0 ∷ pos 0 ∷ pos 4 ∷ pos 0 ∷ pos 0 ∷ pos 2 ∷ []

abbrev by-triangle : List ℤ
by-triangle = pos 0 ∷ negsuc 1 ∷ pos 10 ∷ negsuc 1 ∷ pos 10 ∷ pos 10 ∷ negsuc 3 ∷ pos 10 ∷ negsuc 3 ∷ pos 0 ∷ []

abbrev at : List ℤ → Point → List ℤ → ℤ → Case
at o t g r = record { outline = o; place = t; grown-is = g; relation = r }

abbrev pub cases : List Case
cases =
    -- below the square, and with its top on the square's side
    at triangle (point (pos 0) (negsuc 2)) by-triangle (pos 0)
    ∷ at triangle (point (pos 0) (negsuc 1)) by-triangle (pos 1)
    -- left of it: the nose on its side, and one millimetre further
    ∷ at triangle (point (negsuc 3) (pos 5)) by-triangle (pos 1)
    ∷ at triangle (point (negsuc 2) (pos 5)) by-triangle (pos 2)
    -- right of it the cart's own origin is the nearest
    ∷ at triangle (point (pos 10) (pos 5)) by-triangle (pos 1)
    ∷ at triangle (point (pos 11) (pos 5)) by-triangle (pos 0)
    -- a point for a cart grows nothing
    ∷ at (pos 0 ∷ pos 0 ∷ []) (point (pos 5) (pos 5)) square (pos 2)
    ∷ []

pub cases-grow : map (λ (c : Case). numbers (grown (points square) (points c.outline))) cases ≡ map (λ (c : Case). c.grown-is) cases
unfolding grown shape_of precedes turn
cases-grow = refl

pub cases-relate : map (λ (c : Case). relation_number (placed (points c.outline) c.place) (points square)) cases
    ≡ map (λ (c : Case). c.relation) cases
unfolding relation_number shape_of precedes turn inside apart not_left on_rim touching same_point
cases-relate = refl
