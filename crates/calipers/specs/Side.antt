-- One shape on a walk, with what the walk carries along of it. Our own, not of document 01.
--     corner_of s      its corner, and next_of s its next edge
--     onward A i      one edge on, or as many as there are
--     Stands l s      s is at its position of the list l, and has no edge yet
--     Carried l s     s is the side of the list l at its position: the corner there, and the edge that leaves it; past the last edge
--                     that is the origin, as every corner past the end of a list
--     walk_of s t over the place of the walk with these two sides
use Rattle.std.specs.Prelude.{◌≡◌, Bool, cond, List, ℕ, ◌+◌, ◌≤◌, ltb, ℤ, length}
use Rattle.plane.specs.Point.{Point, point, points, corner, origin}
use Rattle.plane.specs.Forms.{edges}
use Rattle.plane.specs.Cycle.{corner_round}
use Rattle.calipers.specs.declared.side.Side.{Side}
use Rattle.calipers.specs.Walk.{Walk}

abbrev pub corner_of : Side → Point
corner_of s = point s.x s.y

abbrev pub next_of : Side → Point
next_of s = point s.run s.rise

abbrev pub onward : List Point → ℕ → ℕ
onward A i = cond (ltb i (length (edges A))) (i + 1) i

pub record Stands (l : List ℤ) (s : Side) : Type 0 where
  pub at_in : s.at ≤ length (edges (points l))
  pub end_is : s.end ≡ length (edges (points l))
  pub corner-is : corner_of s ≡ corner_round (points l) s.at
  pub no_edge : next_of s ≡ origin

pub record Carried (l : List ℤ) (s : Side) : Type 0 where
  pub at_in : s.at ≤ length (edges (points l))
  pub end_is : s.end ≡ length (edges (points l))
  pub corner-is : corner_of s ≡ corner_round (points l) s.at
  pub edge-is : next_of s ≡ corner (edges (points l)) s.at

abbrev pub walk_of : Side → Side → Bool → Walk
walk_of s t over = record { i = s.at; j = t.at; over = over }
