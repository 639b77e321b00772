-- What the search for the least box knows on its way.
--     Climbs d ps i        corner i is on the way up to the one furthest in direction d: if the next is no further, none is
--     Aimed l d i          from such a corner of the shape l, with numbers that fit, the way is gone
--     Holds ps e j         the calipers j are closed on edge e: furthest to its left, furthest along it and furthest back
--     Closing l e j        they may be closed on edge e of the shape l, from corners on the way up
--     Taken l e j          they are, so that its box can be measured
--     Boxes ps b           b is the box on its edge
--     is_smaller a b        half·half/squared of a is less than that of b
--     IsBox ps b           b is the least box: that on `box_edge`
use Rattle.std.specs.Prelude.{◌≡◌, Bool, List, ℕ, ◌*◌, ◌^◌, ◌<◌, ltb, ℤ, pos, length, ◌≤ℤ◌}
use Rattle.plane.specs.Point.{Point, points, corner, opposite, ◌⊖◌}
use Rattle.plane.specs.Shape.{next}
use Rattle.plane.specs.Refusal.{Valid}
use Rattle.plane.specs.Cut.{quarter}
use Rattle.plane.specs.Direction.{value}
use Rattle.plane.specs.Measure.{height, edge_squared}
use Rattle.plane.specs.Face.{Furthest}
use Rattle.polygon.specs.Point.{Small}
use Rattle.boxes.specs.Box.{along, half_round, box_edge}
use Rattle.boxes.specs.declared.Boxed.{Boxed}
use Rattle.boxes.specs.declared.jaws.Jaws.{Jaws}

-- the edge that leaves corner e, as a vector
abbrev side_of : List Point → ℕ → Point
side_of ps e = corner ps (next (length ps) e) ⊖ corner ps e

pub record Climbs (d : Point) (ps : List Point) (i : ℕ) : Type 0 where
  pub within : i < length ps
  pub reached : value d (corner ps (next (length ps) i)) ≤ℤ value d (corner ps i) → Furthest d ps i

pub record Aimed (l : List ℤ) (d : Point) (i : ℕ) : Type 0 where
  pub valid : Valid l
  pub three : 2 < length (points l)
  pub small : Small (2 ^ 22) d
  pub climbs : Climbs d (points l) i

pub record Holds (ps : List Point) (e : ℕ) (j : Jaws) : Type 0 where
  pub high-furthest : Furthest (quarter (side_of ps e)) ps j.high
  pub far-furthest : Furthest (side_of ps e) ps j.far
  pub near-furthest : Furthest (opposite (side_of ps e)) ps j.near

pub record Closing (l : List ℤ) (e : ℕ) (j : Jaws) : Type 0 where
  pub valid : Valid l
  pub three : 2 < length (points l)
  pub edge_in : e < length (points l)
  pub high-climbs : Climbs (quarter (side_of (points l) e)) (points l) j.high
  pub far-climbs : Climbs (side_of (points l) e) (points l) j.far
  pub near-climbs : Climbs (opposite (side_of (points l) e)) (points l) j.near

pub record Taken (l : List ℤ) (e : ℕ) (j : Jaws) : Type 0 where
  pub valid : Valid l
  pub edge_in : e < length (points l)
  pub holds : Holds (points l) e j

pub record Boxes (ps : List Point) (b : Boxed) : Type 0 where
  pub height-is : height ps b.edge ≡ pos b.height
  pub along-is : along ps b.edge ≡ pos b.along
  pub half_is : half_round ps b.edge ≡ pos b.half
  pub squared-is : edge_squared ps b.edge ≡ pos b.squared

abbrev pub is_smaller : Boxed → Boxed → Bool
is_smaller a b = ltb (a.half * a.half * b.squared) (b.half * b.half * a.squared)

pub record IsBox (ps : List Point) (b : Boxed) : Type 0 where
  pub edge-is : b.edge ≡ box_edge ps
  pub boxes : Boxes ps b
