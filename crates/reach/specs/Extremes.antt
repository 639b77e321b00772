-- The first pair of corners at the greatest distance, in words.
--     FirstFurthest A B d i j     d is the greatest squared distance of a corner of A and a corner of B; corner i of A and corner j of B
--                                 are so far apart, with the smallest i, and then the smallest j among equals
-- What is answered of it: `Meaning.antt`.
use Rattle.std.specs.Prelude.{◌≡◌, List, ℕ, ◌≤◌, ◌<◌, ℤ, length, ◌≤ℤ◌}
use Rattle.plane.specs.Point.{Point, corner}
use Rattle.plane.specs.Measure.{squared}

pub record FirstFurthest (A B : List Point) (d : ℤ) (i j : ℕ) : Type 0 where
  pub first-in : i < length A
  pub second-in : j < length B
  pub has : squared (corner A i) (corner B j) ≡ d
  pub greatest : (k l : ℕ) → k < length A → l < length B → squared (corner A k) (corner B l) ≤ℤ d
  pub smallest-i : (k l : ℕ) → k < length A → l < length B → squared (corner A k) (corner B l) ≡ d → i ≤ k
  pub smallest-j : (l : ℕ) → l < length B → squared (corner A i) (corner B l) ≡ d → j ≤ l
