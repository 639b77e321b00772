-- How many corners a sum has: one for each direction that an edge of one of the shapes has, and one if there is no edge.
--     sum-directions      `shared` counts the directions that both have
--     sum-points          two points make a point
use Rattle.std.specs.Prelude.{◌≡◌, refl, List, [], ◌∷◌, ◌+◌, ◌≤◌, ◌<◌, length}
use Rattle.std.proofs.Common.{sym, ◌∙◌, ap, arith}
use Rattle.plane.specs.Point.{Point, ◌⊕◌}
use Rattle.plane.specs.Shape.{IsShape}
use Rattle.plane.specs.Corner.{shape_of, sums}
use Rattle.plane.specs.Forms.{edges, Sorted}
use Rattle.plane.specs.VectorSum.{along, path, join_edges, vector_sum, shared}
use Rattle.plane.proofs.theory.sum.Path.{along-length}
use Rattle.plane.proofs.theory.forms.Standard.{shape→sorted}
use Rattle.plane.proofs.theory.sum.EdgeSum.{Joined, no-left, no-right, take_left, take-right, take-both, joined}
use Rattle.plane.proofs.theory.sum.EdgeSum.{join_edges-comm, vector_sum-shape}
use Rattle.plane.proofs.theory.sum.EdgeCount.{join_edges-count}

-- joined, there are at least as many edges as in either list
left_le : {E F G : List Point} → Joined E F G → length E ≤ length G
left_le no-left = omega arith
left_le no-right = omega arith
left_le (take_left h r) = let ih = left_le r in omega arith
left_le (take-right k r) = let ih = left_le r in omega arith
left_le (take-both h k r) = let ih = left_le r in omega arith

joined-some : (E F : List Point) → 0 < length E + length F → 0 < length (join_edges E F)
joined-some E F h = omega (arith, left_le (joined E F), left_le (joined F E), ap length (join_edges-comm E F))

-- a path along some edges has a corner for each
path-some : (p : Point) (E : List Point) → 0 < length E → path p E ≡ along p E
path-some p [] h = absurd (omega arith)
path-some p (e ∷ E) h = refl

joined-directions : (A B : List Point) → Sorted A → Sorted B → 0 < length (edges A) + length (edges B)
    → length (vector_sum A B) + shared (edges A) (edges B) ≡ length (edges A) + length (edges B)
joined-directions [] B s t h = absurd s
joined-directions (a ∷ A) [] s t h = absurd t
joined-directions (a ∷ A) (b ∷ B) s t h =
    let E = edges (a ∷ A) in
    let F = edges (b ∷ B) in
    let corners = ap length (path-some (a ⊕ b) (join_edges E F) (joined-some E F h)) ∙ along-length (a ⊕ b) (join_edges E F) in
    omega (arith, corners, join_edges-count E F s t)

pub sum-directions : (A B : List Point) → IsShape A → IsShape B → 0 < length (edges A) + length (edges B)
    → length (shape_of (sums A B)) + shared (edges A) (edges B) ≡ length (edges A) + length (edges B)
sum-directions A B s t h =
    rw (sym (vector_sum-shape A B s t)) (joined-directions A B (shape→sorted A s) (shape→sorted B t) h)

pub sum-points : (p q : Point) → shape_of (sums (p ∷ []) (q ∷ [])) ≡ (p ⊕ q) ∷ []
unfolding shape_of
sum-points p q = refl
