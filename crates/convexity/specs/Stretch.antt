-- Edges that go one way, up or down. Our own, not of document 01.
--     vector e              the code's edge as a vector of the plane
--     goes_on half e f       f goes up or level if half is true, down if it is false, and is strictly left of e
--     Stretch E half s r    each edge after s, up to r, goes on from the edge before it; the one after r does not, unless it is the last
--                           of E, which is left out
use Rattle.std.specs.Prelude.{◌≡◌, Bool, true, false, cond, ◌&&◌, List, ℕ, suc, ◌+◌, ◌≤◌, ◌<◌, pos, length}
use Rattle.std.specs.Int.Signed.{lt_z, le_z}
use Rattle.plane.specs.Point.{Point, point, corner}
use Rattle.plane.specs.Turn.{cross}
use Rattle.convexity.specs.declared.Edge.{Edge}

abbrev pub vector : Edge → Point
vector e = point e.run e.rise

unfoldable pub goes_on : Bool → Point → Point → Bool
goes_on half e f = cond half (le_z (pos 0) f.y) (lt_z f.y (pos 0)) && lt_z (pos 0) (cross e f)

pub record Stretch (E : List Point) (half : Bool) (s r : ℕ) : Type 0 where
  pub begins : s ≤ r
  pub ends : r + 2 ≤ length E
  pub on : (k : ℕ) → s ≤ k → k < r → goes_on half (corner E k) (corner E (suc k)) ≡ true
  pub stops : r + 2 < length E → goes_on half (corner E r) (corner E (suc r)) ≡ false
