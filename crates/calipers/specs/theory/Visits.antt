-- What the walk visits: the shape of all corner-plus-corner points.
--     sum-visited           the corners visited are those of the shape, in its order
--     visited-corner        wherever the walk is, there is a corner of the set
-- That every corner of the set is at a place of the walk, the place of its two parts, is in `Visited`.
use Rattle.std.specs.Prelude.{◌≡◌, List, ℕ, ◌<◌, ℤ, length}
use Rattle.std.proofs.Common.{◌∙◌, subst}
use Rattle.plane.specs.Point.{Point, points, ◌∈◌}
use Rattle.plane.specs.Refusal.{Valid}
use Rattle.plane.specs.Corner.{Corner, shape_of, sums}
use Rattle.plane.proofs.theory.lists.Members.{sums-some, position-member}
use Rattle.plane.proofs.theory.hull.ShapeOf.{shape_of-corner}
use Rattle.plane.proofs.theory.sum.EdgeSum.{vector_sum-shape}
use Rattle.calipers.specs.Walk.{here, begun, stepped, remaining}
use Rattle.calipers.specs.theory.Steps.{remaining-begin, at-begin, here-stepped}

module _ (a b : List ℤ) (v : Valid a) (w : Valid b) where
  abbrev A : List Point
  A = points a

  abbrev B : List Point
  B = points b

  pub sum-visited : remaining A B begun ≡ shape_of (sums A B)
  sum-visited = remaining-begin A B v.shape.some w.shape.some ∙ vector_sum-shape A B v.shape w.shape

  pub visited-corner : (n : ℕ) → n < length (remaining A B begun) → Corner (sums A B) (here A B (stepped A B n begun))
  visited-corner n h =
      let there = here-stepped a b begun (at-begin a b v w) n h in
      shape_of-corner (sums A B) (sums-some A B v.shape.some w.shape.some)
      (subst (λ (ps : List Point). here A B (stepped A B n begun) ∈ ps) sum-visited (rw there (position-member (remaining A B begun) n h)))
