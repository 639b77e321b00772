-- Corners that an inner function leaves at the front of a buffer. Our own, not of document 01.
--     Front ps n l    the first n corners of l are ps, and these are all of ps
use Rattle.std.specs.Prelude.{◌≡◌, List, ℕ, ◌*◌, ◌≤◌, ℤ, length, take}
use Rattle.plane.specs.Point.{Point, numbers}

pub record Front (ps : List Point) (n : ℕ) (l : List ℤ) : Type 0 where
  pub counted : n ≡ length ps
  pub fits : 2 * n ≤ length l
  pub front : take (2 * n) l ≡ numbers ps
