-- Where the walk round the corners of the differences stops. Our own, not of document 02.
--     rests p w d       of three corners one after another, neither neighbour of w is nearer to the origin along w
--     crosses w d       the edge from w to d has the origin to its right, and the foot of the origin strictly inside
--     foot_inside w d    the latter alone
--     Stopped D n       the walk stopped at a corner, which is n; at an edge, n being its left normal; or it came to its end: no place
--                       but the first corner, which is n, is left
use Rattle.std.specs.Prelude.{◌≡◌, Bool, true, false, ◌&&◌, List, ℕ, suc, ◌<◌, pos, length}
use Rattle.std.specs.Int.Signed.{lt_z, le_z}
use Rattle.plane.specs.Point.{Point, corner, ◌⊖◌}
use Rattle.plane.specs.Turn.{cross}
use Rattle.plane.specs.Shape.{next}
use Rattle.plane.specs.Direction.{value}
use Rattle.plane.specs.Cut.{quarter}

unfoldable pub rests : Point → Point → Point → Bool
rests p w d = le_z (value w w) (value w p) && le_z (value w w) (value w d)

abbrev pub foot_inside : Point → Point → Bool
foot_inside w d = lt_z (value w d) (value w w) && lt_z (value w d) (value d d)

unfoldable pub crosses : Point → Point → Bool
crosses w d = lt_z (cross w d) (pos 0) && foot_inside w d

-- the corner after corner k
abbrev pub after : List Point → ℕ → Point
after D k = corner D (next (length D) k)

pub data Stopped (D : List Point) (n : Point) : Type 0 where
  at-corner : (k : ℕ) → suc k < length D → rests (corner D k) (corner D (suc k)) (after D (suc k)) ≡ true
      → n ≡ corner D (suc k) → Stopped D n
  at_edge : (k : ℕ) → k < length D → crosses (corner D k) (after D k) ≡ true → n ≡ quarter (after D k ⊖ corner D k) → Stopped D n
  at_first : ((k : ℕ) → suc k < length D → rests (corner D k) (corner D (suc k)) (after D (suc k)) ≡ false)
      → ((k : ℕ) → k < length D → crosses (corner D k) (after D k) ≡ false) → n ≡ corner D 0 → Stopped D n
