-- Strips of the floor, between two lines across a direction d (document 02, request W9). A direction is any two whole numbers; the strip
-- from value low to value high in d has the squared width (high - low)·(high - low) over value d d, the direction's squared length.
--     least d ps                the least value of d over ps
--     spread d ps               "the spread of the shape's values in it", from the least to the greatest: the strip across d that holds ps
--     gap_in d A B               from the greatest value of B to the least of A
--     Corridor A B d low high   the strip lies between the shapes, B below it and A above it
-- Gap and corridor are our own, not of document 02. What they mean: `EveryDirection.antt`.
use Rattle.std.specs.Prelude.{◌≡◌, ℤ, neg_ℤ, ◌-ℤ◌, ◌≤ℤ◌}
use mathlib.Core.List.{List, Memᴰ}
use Rattle.plane.specs.Point.{Point, origin, opposite}
use Rattle.plane.specs.Direction.{value, support}

-- the greatest value of the opposite direction, with its sign changed
unfoldable pub least : Point → List Point → ℤ
least d ps = neg_ℤ (support (opposite d) ps)

unfoldable pub spread : Point → List Point → ℤ
spread d ps = support d ps -ℤ least d ps

-- below 0 where the shapes overlap in d, or are the other way round
unfoldable pub gap_in : Point → List Point → List Point → ℤ
gap_in d A B = least d A -ℤ support d B

-- low and high are whole numbers; lines at fractions are those of a longer d
pub record Corridor (A B : List Point) (d : Point) (low high : ℤ) : Type 0 where
  pub direction : d ≡ origin → ⊥
  pub wide : low ≤ℤ high
  pub behind : (p : Point) → Memᴰ p B → value d p ≤ℤ low
  pub ahead : (p : Point) → Memᴰ p A → high ≤ℤ value d p
