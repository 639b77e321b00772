-- The first longest pair of corners and the first narrowest edge, in document 01's words ("Length" and "Width").
--     FirstLongest ps d i j           "the greatest squared distance" d, "at positions i ≤ j, smallest i and then smallest j among equals"
--     FirstNarrowest ps e c t q w     of the edges, e has the least t·t/q, "smallest edge position on a tie, then the smallest corner
--                                     position that has the greatest turn" c; w is "the width rounded down"
-- What is answered of them: `Meaning.antt`.
use Rattle.std.specs.Prelude.{◌≡◌, List, ℕ, ◌+◌, ◌*◌, ◌≤◌, ◌<◌, ℤ, nat_abs, ◌*ℤ◌, length, ◌≤ℤ◌, ◌<ℤ◌}
use Rattle.plane.specs.Point.{Point, corner}
use Rattle.plane.specs.Measure.{squared, edge_turn, height, edge_squared}

pub record FirstLongest (ps : List Point) (d : ℤ) (i j : ℕ) : Type 0 where
  pub ordered : i ≤ j
  pub within : j < length ps
  pub has : squared (corner ps i) (corner ps j) ≡ d
  pub greatest : (k l : ℕ) → k < length ps → l < length ps → squared (corner ps k) (corner ps l) ≤ℤ d
  pub smallest-i : (k l : ℕ) → k ≤ l → l < length ps → squared (corner ps k) (corner ps l) ≡ d → i ≤ k
  pub smallest-j : (l : ℕ) → i ≤ l → l < length ps → squared (corner ps i) (corner ps l) ≡ d → j ≤ l

-- t is the edge's greatest turn over the corners and q its squared length; "w·w·q ≤ t·t < (w+1)·(w+1)·q"
pub record FirstNarrowest (ps : List Point) (e c : ℕ) (t q : ℤ) (w : ℕ) : Type 0 where
  pub edge_in : e < length ps
  pub turn_is : height ps e ≡ t
  pub squared-is : edge_squared ps e ≡ q
  pub least : (f : ℕ) → f < length ps → (t *ℤ t *ℤ edge_squared ps f) ≤ℤ (height ps f *ℤ height ps f *ℤ q)
  pub smallest-edge : (f : ℕ) → f < e → (t *ℤ t *ℤ edge_squared ps f) <ℤ (height ps f *ℤ height ps f *ℤ q)
  pub corner-in : c < length ps
  pub corner-has : edge_turn ps e c ≡ t
  pub smallest-corner : (k : ℕ) → k < c → edge_turn ps e k <ℤ t
  pub rounded-low : w * w * nat_abs q ≤ nat_abs t * nat_abs t
  pub rounded-high : nat_abs t * nat_abs t < (w + 1) * (w + 1) * nat_abs q
