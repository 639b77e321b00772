-- The walk round the first shape and the mirror image of the second.
--     image-begun        it may begin
--     image-visited      the corners that it visits are those of the differences; `image-related`: how the shapes relate
--     image-sum          the shape of the sum is that of the differences; `image-all`: all corners to come are its own
--     differences-few    it has no more corners than both shapes together
--     image-sides        the ends of two sides are all edges; `image-few`: these are no more than the corners
--     image-extends      the image reaches as far, the other way round
use Rattle.std.specs.Prelude.{◌≡◌, refl, List, [], ◌∷◌, ℕ, ◌+◌, ◌/◌, ◌≤◌, ℤ, length}
use Rattle.std.proofs.Common.{sym, ◌∙◌, ap, ap₂, arith}
use Rattle.plane.specs.Point.{Point, points}
use Rattle.plane.specs.Refusal.{Valid}
use Rattle.plane.specs.Corner.{shape_of, sums, mirrored}
use Rattle.plane.specs.Forms.{edges}
use Rattle.plane.specs.Separation.{differences, relation_number}
use Rattle.plane.specs.VectorSum.{vector_sum}
use Rattle.plane.proofs.theory.forms.Vector.{opposite-opposite}
use Rattle.plane.proofs.theory.lists.Flat.{points-length}
use Rattle.plane.proofs.theory.sum.Positions.{edges-at-most}
use Rattle.plane.proofs.theory.sum.EdgeSum.{vector_sum-shape}
use Rattle.polygon.specs.declared.extent.Extent.{Extent}
use Rattle.polygon.specs.Extent.{highest, Extends}
use Rattle.sums.specs.Advance.{next_corners}
use Rattle.calipers.specs.declared.side.Side.{Side}
use Rattle.calipers.specs.Side.{Carried}
use Rattle.calipers.specs.Image.{image}
use Rattle.calipers.specs.Walk.{begun, At}
use Rattle.calipers.specs.theory.Image.{image-points, image-valid, image-count}
use Rattle.calipers.specs.theory.Steps.{at-begin}
use Rattle.sums.specs.theory.Summed.{next-all, sum-few}
use Rattle.separation.specs.Around.{origin_in}
use Rattle.separation.specs.theory.Apart.{differences-shape}
use Rattle.separation.specs.theory.Around.{origin_in-relation}

module _ (a b : List ℤ) (u : Valid a) (v : Valid b) where
  pub image-begun : At a (image b) begun
  image-begun = at-begin a (image b) u (image-valid b v)

  pub image-visited : vector_sum (points a) (points (image b)) ≡ shape_of (differences (points a) (points b))
  image-visited = ap (vector_sum (points a)) (image-points b) ∙ differences-shape (points a) (points b) u.shape v.shape.some

  pub image-related : origin_in (vector_sum (points a) (points (image b))) ≡ relation_number (points a) (points b)
  image-related = ap origin_in image-visited ∙ origin_in-relation (points a) (points b) u.shape.some v.shape.some

  pub image-sum : shape_of (sums (points a) (points (image b))) ≡ shape_of (differences (points a) (points b))
  image-sum = sym (vector_sum-shape (points a) (points (image b)) u.shape (image-valid b v).shape) ∙ image-visited

  -- all corners that the walk comes to, if it may go on for long enough
  pub image-all : (k : ℕ) → length (points a) + length (points b) ≤ k
      → next_corners a (image b) begun k ≡ shape_of (differences (points a) (points b))
  image-all k h = next-all a (image b) u (image-valid b v) k
      (omega (arith, sum-few a (image b) u (image-valid b v), image-count b v)) ∙ image-sum

  pub differences-few : length (shape_of (differences (points a) (points b))) ≤ length (points a) + length (points b)
  differences-few = omega (arith, ap length image-sum, sum-few a (image b) u (image-valid b v), image-count b v)

  pub image-few : length (edges (points a)) + length (edges (points (image b))) ≤ length a / 2 + length b / 2
  image-few =
      omega (arith, edges-at-most (points a), points-length a, edges-at-most (points (image b)), image-count b v, points-length b)

pub image-sides : {a b : List ℤ} {s t : Side} → Carried a s → Carried b t
    → s.end + t.end ≡ length (edges (points a)) + length (edges (points b))
image-sides p q = ap₂ ◌+◌ p.end_is q.end_is

-- ---- how far the image reaches

mirrored-twice : (ps : List Point) → mirrored (mirrored ps) ≡ ps
mirrored-twice [] = refl
mirrored-twice (p ∷ ps) = ap₂ ◌∷◌ (opposite-opposite p) (mirrored-twice ps)

pub image-extends : (ps : List Point) {e : Extent} → Extends ps e → Extends (mirrored ps) (record { high = e.low; low = e.high })
image-extends ps x = record { high_is = x.low-is; low-is = x.high_is ∙ ap highest (sym (mirrored-twice ps)) }
