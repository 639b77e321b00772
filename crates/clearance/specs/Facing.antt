-- What the search for the clearance finds on the way: a direction that faces the least distance, and the candidates that are reached in it.
--     Lowest n ps i       no corner of ps has a lower value in n than corner i: `Lowest (opposite n)` is the highest
--     Reached A B n c     all corners of candidate c lie in the two faces, A's lowest and B's highest in n: two corners on a line along n,
--                         or a corner that falls strictly inside an edge
--     Facing A B n        all of A is above all of B in n, and some candidate is reached
--     StopsAtCorner D k, StopsOnEdge D k     the walk round D stops: at the corner after corner k, or on the edge that leaves it
-- What it means: in a direction that faces the least distance the first candidate that is reached is the nearest (`nearest-is`).
use Rattle.std.specs.Prelude.{◌≡◌, true, ℕ, ◌<◌, pos, length, ◌≤ℤ◌, ◌<ℤ◌}
use mathlib.Core.List.{List, Memᴰ}
use Rattle.plane.specs.Point.{Point, corner, opposite, ◌⊖◌}
use Rattle.plane.specs.Turn.{cross}
use Rattle.plane.specs.Shape.{next}
use Rattle.plane.specs.Direction.{value}
use Rattle.plane.specs.Clearance.{falls_on, Candidate, corners, on_second, on_first}

pub record Lowest (n : Point) (ps : List Point) (i : ℕ) : Type 0 where
  pub within : i < length ps
  pub lowest : (k : ℕ) → k < length ps → value n (corner ps i) ≤ℤ value n (corner ps k)

-- corner c, lowest in n, falls on edge e of ps, both of whose ends are highest
pub record Foot (n : Point) (qs ps : List Point) (c e : ℕ) : Type 0 where
  pub from : Lowest n qs c
  pub start : Lowest (opposite n) ps e
  pub end : Lowest (opposite n) ps (next (length ps) e)
  pub inside : falls_on ps e (corner qs c) ≡ true

-- corner i, lowest in n, and corner j, highest, on a line along n
pub record Across (n : Point) (A B : List Point) (i j : ℕ) : Type 0 where
  pub one : Lowest n A i
  pub other : Lowest (opposite n) B j
  pub along : cross n (corner A i ⊖ corner B j) ≡ pos 0

abbrev pub Reached : List Point → List Point → Point → Candidate → Type 0
Reached A B n (corners i j) = Across n A B i j
Reached A B n (on_second i e) = Foot n A B i e
Reached A B n (on_first j e) = Foot (opposite n) B A j e

pub record Facing (A B : List Point) (n : Point) : Type 0 where
  pub above : (a b : Point) → Memᴰ a A → Memᴰ b B → value n b <ℤ value n a
  pub some : Candidate
  pub reached : Reached A B n some

-- ---- where the walk round the differences D stops

-- at the corner after corner k: neither neighbour is nearer along it
pub record StopsAtCorner (D : List Point) (k : ℕ) : Type 0 where
  pub previous : value (corner D (next (length D) k)) (corner D (next (length D) k)) ≤ℤ value (corner D (next (length D) k)) (corner D k)
  pub following : value (corner D (next (length D) k)) (corner D (next (length D) k))
      ≤ℤ value (corner D (next (length D) k)) (corner D (next (length D) (next (length D) k)))

-- on the edge that leaves corner k: the origin is to its right, and its foot strictly inside
pub record StopsOnEdge (D : List Point) (k : ℕ) : Type 0 where
  pub right : cross (corner D k) (corner D (next (length D) k)) <ℤ pos 0
  pub start : value (corner D k) (corner D (next (length D) k)) <ℤ value (corner D k) (corner D k)
  pub end : value (corner D k) (corner D (next (length D) k))
      <ℤ value (corner D (next (length D) k)) (corner D (next (length D) k))
