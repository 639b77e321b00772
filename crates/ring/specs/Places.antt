-- Positions of a list's corners, as code holds them. Our own, not of documents 01 and 02.
--     Started ps n s   the ring has n points without a closing one, and s is the position of the least
--     Placed l is      they are positions of corners of l, and its coordinates are in range
--     Held xs n l      the first n of the buffer l are xs, and these are all of xs
use Rattle.std.specs.Prelude.{◌≡◌, List, ℕ, ◌≤◌, ◌<◌, ℤ, length, get_or, take}
use Rattle.plane.specs.Point.{Point, points, corner}
use Rattle.plane.specs.Refusal.{InRange}
use Rattle.ring.specs.Ring.{least_place, open_ring}

pub record Started (ps : List Point) (n s : ℕ) : Type 0 where
  pub all : n ≡ length (open_ring ps)
  pub least : s ≡ least_place (corner ps) n

pub record Placed (l : List ℤ) (is : List ℕ) : Type 0 where
  pub near : InRange l
  pub below : (j : ℕ) → j < length is → get_or is j 0 < length (points l)

pub record Held (xs : List ℕ) (n : ℕ) (l : List ℕ) : Type 0 where
  pub counted : n ≡ length xs
  pub front : take n l ≡ xs
  pub fits : n ≤ length l
