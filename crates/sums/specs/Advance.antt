-- A walk that went on from a place, with the corners on its way. Our own, not of document 02.
--     state i j over            a walk with i and j edges passed of the two shapes
--     side_of l i                the side of the list l with i edges passed
--     next_corners a b w k       the next k corners from w on, or what remains
--     reached r                 the walk where it came to
--     Walked a b w k count s t    from w it went on by `count` corners, fewer than k, is at these sides, and is not over
--     Advanced a b w k r        from w it went on by these corners
use Rattle.std.specs.Prelude.{◌≡◌, Bool, false, List, ℕ, ◌≤◌, ◌<◌, ℤ, length, take}
use Rattle.plane.specs.Point.{Point, points, corner}
use Rattle.plane.specs.Forms.{edges}
use Rattle.plane.specs.Cycle.{corner_round}
use Rattle.sums.specs.declared.walk.Advance.{Advance}
use Rattle.calipers.specs.declared.side.Side.{Side}
use Rattle.calipers.specs.Walk.{Walk, stepped, remaining, At}
use Rattle.calipers.specs.Side.{Carried, walk_of}

abbrev pub state : ℕ → ℕ → Bool → Walk
state i j over = record { i = i; j = j; over = over }

abbrev pub side_of : List ℤ → ℕ → Side
side_of l i =
    let p = corner_round (points l) i in
    let e = corner (edges (points l)) i in
    record { at = i; end = length (edges (points l)); x = p.x; y = p.y; run = e.x; rise = e.y }

abbrev pub next_corners : List ℤ → List ℤ → Walk → ℕ → List Point
next_corners a b w k = take k (remaining (points a) (points b) w)

abbrev pub reached : Advance → Walk
reached r = state r.first r.second r.over

pub record Walked (a b : List ℤ) (w : Walk) (k count : ℕ) (s t : Side) : Type 0 where
  pub start : At a b w
  pub within : count ≤ length (remaining (points a) (points b) w)
  pub few : count < k
  pub moved : walk_of s t false ≡ stepped (points a) (points b) count w
  pub first-side : Carried a s
  pub second-side : Carried b t

pub record Advanced (a b : List ℤ) (w : Walk) (k : ℕ) (r : Advance) : Type 0 where
  pub counted : r.count ≡ length (next_corners a b w k)
  pub moved : reached r ≡ stepped (points a) (points b) r.count w
