-- A walk round two shapes meets a direction that leads away from their sum.
--     stepped-away     if the edge of the sum that leaves corner n has the origin to its right, the normal of the edge that the step passes
--     begun-away       if no edge has and the origin is outside, the opposite of the first corner
--     some-away        if the origin is outside, there is one
use Rattle.std.specs.Prelude.{◌≡◌, refl, Bool, true, false, List, ℕ, ◌<◌, ℤ, pos, length}
use Rattle.std.proofs.Common.{sym, ap₂, subst}
use Rattle.integer.specs.Bound.{within-neg}
use Rattle.plane.specs.Point.{Point, points, corner, opposite, ◌⊖◌}
use Rattle.plane.specs.Limits.{max_part}
use Rattle.plane.specs.Search.{some}
use Rattle.plane.specs.Shape.{IsShape}
use Rattle.plane.specs.Corner.{sums}
use Rattle.plane.specs.VectorSum.{vector_sum}
use Rattle.plane.proofs.theory.lists.Members.{sums-some}
use Rattle.plane.proofs.theory.lists.Sought.{some-witness}
use Rattle.plane.specs.Direction.{SameWay}
use Rattle.plane.proofs.theory.hull.ShapeOf.{shape_of-shape}
use Rattle.plane.proofs.theory.sum.EdgeSum.{vector_sum-shape}
use Rattle.polygon.specs.Point.{Small}
use Rattle.calipers.specs.Walk.{Walk, begun, advanced, stepped, At}
use Rattle.calipers.specs.theory.Steps.{at-stepped}
use Rattle.separation.specs.Around.{right_of, origin_in}
use Rattle.separation.specs.theory.Stops.{corner-here, stop-here}
use Rattle.separation.specs.Outward.{Outward}
use Rattle.separation.specs.theory.Edge.{edge-away, start-away}
use Rattle.separation.specs.theory.Passed.{passed_normal, passed-normal, here-limits}

module _ (a b : List ℤ) (start : At a b begun) where
  abbrev D : List Point
  D = vector_sum (points a) (points b)

  abbrev place : ℕ → Walk
  place n = stepped (points a) (points b) n begun

  sum-shape : IsShape D
  sum-shape = subst IsShape (sym (vector_sum-shape (points a) (points b) start.first-shape start.second-shape))
      (shape_of-shape (sums (points a) (points b)) (sums-some (points a) (points b) start.first-shape.some start.second-shape.some))

  pub stepped-away : (n : ℕ) → n < length D → right_of D n ≡ true
      → Outward D (passed_normal (points a) (points b) (place n) (advanced (points a) (points b) (place n)))
  stepped-away n h beyond =
      let r = passed-normal a b (place n) (at-stepped a b begun start n) in
      let edge = ap₂ ◌⊖◌ (stop-here a b start n h) (corner-here a b start n h) in
      subst (Outward D) (sym r.normal-is) (edge-away D sum-shape n h beyond r.from r.to
      (subst (λ p. SameWay (r.to ⊖ r.from) p) edge r.same_way) r.small)

  first_small : Small max_part (opposite (corner D 0))
  first_small =
      let small = here-limits start in
      subst (λ p. Small max_part (opposite p)) (corner-here a b start 0 sum-shape.some)
      (record { small-x = within-neg small.small-x; small-y = within-neg small.small-y })

  pub begun-away : some (right_of D) (length D) ≡ false → origin_in D ≡ pos 0 → Outward D (opposite (corner D 0))
  begun-away none o = start-away D sum-shape.some none o first_small

  pub some-away : origin_in D ≡ pos 0 → (d : Point) × Outward D d
  some-away o = go (some (right_of D) (length D)) refl
    where
      go : (t : Bool) → some (right_of D) (length D) ≡ t → (d : Point) × Outward D d
      go true e = let (n, h, beyond) = some-witness (right_of D) (length D) e in (_, stepped-away n h beyond)
      go false e = (_, begun-away e o)
