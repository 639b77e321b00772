-- The peak of a shape: its last corner by y, then by x. Our own, not of document 01.
--     Peak ps t      the corners rise up to position t, and no further
use Rattle.std.specs.Prelude.{◌≡◌, true, false, List, ℕ, suc, ◌<◌, length}
use Rattle.plane.specs.Point.{Point, corner}
use Rattle.plane.specs.Shape.{precedes}

pub record Peak (ps : List Point) (t : ℕ) : Type 0 where
  pub within : t < length ps
  pub rises : (k : ℕ) → k < t → precedes (corner ps k) (corner ps (suc k)) ≡ true
  pub falls : suc t < length ps → precedes (corner ps t) (corner ps (suc t)) ≡ false
