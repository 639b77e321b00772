-- Growing an obstacle by a cart's outline, so that the cart may be taken for a point. Our own, not of document 01: the user's carts "grow
-- each obstacle by the cart's outline". The corners of an outline A are relative to the cart's own origin; a place is where that origin
-- is, in whole millimetres. No number has a bound here.
--     grown B A             the obstacle B grown by the outline A
--     placed A t            the cart at place t
--     driven A t u          what the cart passes over, driving straight from t to u without turning
--     Differs p G H         the point p is apart from H and not from G, so that relation answers differently
--     list_of ps f           the list of the points ps, on floor f
--     grow_call b a out      the question: the obstacle b, the cart's outline a, both with their floors, and a lent output
--     mirror_call a out      a mirror of the outline a
--     grown_shape b a        what it gives: the list of the grown obstacle, on the obstacle's floor
--     EndsIn last v         the values of an answer end in `last`
-- Apart, touching and inside ask only how far a list of points reaches: for them a set will do for its shape.
-- What it means: `Growing.antt`.
use Rattle.std.specs.Prelude.{◌≡◌, true, false, List, [], ◌∷◌, ◌++◌, map, ℕ, ℤ}
use Rattle.plane.specs.Point.{Point, ◌⊕◌, numbers}
use Rattle.plane.specs.Corner.{shape_of, sums}
use Rattle.plane.specs.Separation.{differences, apart}
use Rattle.plane.specs.Output.{Written}
use Rattle.plane.specs.Floor.{Floored, on, corners}
use Rattle.plane.specs.Question.{written, ask_mirror, ask_grow}
use Rattle.laws.specs.Grouping.{Call}

-- "the shape of all obstacle-corner minus cart-corner points"
unfoldable pub grown : List Point → List Point → List Point
grown B A = shape_of (differences B A)

-- each corner of the outline, seen from the place
abbrev pub placed : List Point → Point → List Point
placed A t = map (λ p. p ⊕ t) A

-- "its sum with the segment" from t to u, which is a point if they are equal
abbrev pub driven : List Point → Point → Point → List Point
driven A t u = sums A (t ∷ u ∷ [])

abbrev pub Differs : Point → List Point → List Point → Type 0
Differs p G H = (apart (p ∷ []) G ≡ false) × (apart (p ∷ []) H ≡ true)

-- ---- calls

abbrev pub list_of : List Point → ℕ → Floored
list_of ps f = on (numbers ps) f

abbrev pub grow_call : Call
grow_call b a out = written (ask_grow b a out)

abbrev pub mirror_call : Floored → List ℤ → Written
mirror_call a out = written (ask_mirror a out)

abbrev pub grown_shape : Floored → Floored → Floored
grown_shape b a = list_of (grown (corners b) (corners a)) b.floor

abbrev pub EndsIn : List ℤ → List ℤ → Type 0
EndsIn last v = (before : List ℤ) × (v ≡ before ++ last)
