-- The caliper walk round two shapes (document 01, "Sum"; its language form names the walk by value).
-- The edges of both are passed in the order of their directions; two that point the same way are passed in one step.
--     Walk              a place of it
--     here A B w        the corner of the sum at which the walk is; after the last corner of a shape comes its first again
--     begun             where it begins
--     takes, passed     whether the next step passes edge i of A, and how many are passed after it; finished: all edges of both are
--     advanced A B w    one step further; stepped A B n w: n steps
--     ahead A B w       the places still to come, the present one first
--     remaining A B w   the corners of the sum that are still to come
--     At a b w          the walk is at a place of these two lists, which are shapes with coordinates in range
-- What it means: `Meaning.antt`; `Steps` of the theory.
use Rattle.std.specs.Prelude.{Bool, false, cond, List, [], ℕ, zero, suc, ℤ, drop}
use Rattle.plane.specs.Point.{Point, points, ◌⊕◌}
use Rattle.plane.specs.Refusal.{InRange}
use Rattle.plane.specs.Shape.{IsShape}
use Rattle.plane.specs.Forms.{edges}
use Rattle.plane.specs.VectorSum.{path, join_edges}
use Rattle.plane.specs.Cycle.{corner_round}
use Rattle.calipers.specs.Places.{takes as standing_takes, passed as standing_passed, Standing, Place, places_from}
use Rattle.calipers.specs.Places.{finished as places_finished}

-- i edges of the first shape and j of the second are passed; it is over when all corners are visited: two points have no edge, and one
-- corner to visit
pub record Walk : Type 0 where
  pub i : ℕ
  pub j : ℕ
  pub over : Bool

unfoldable pub here : List Point → List Point → Walk → Point
here A B w = corner_round A w.i ⊕ corner_round B w.j

abbrev pub begun : Walk
begun = record { i = 0; j = 0; over = false }

-- there is an edge i of A, and edge j of B, if there is one, is not before it
unfoldable pub takes : List Point → ℕ → List Point → ℕ → Bool
takes A i B j = standing_takes (edges A) i (edges B) j

unfoldable pub passed : List Point → ℕ → List Point → ℕ → ℕ
passed A i B j = standing_passed (edges A) i (edges B) j

unfoldable pub finished : List Point → ℕ → List Point → ℕ → Bool
finished A i B j = places_finished (edges A) i (edges B) j

unfoldable pub advanced : List Point → List Point → Walk → Walk
advanced A B w =
    let i = passed A w.i B w.j in
    let j = passed B w.j A w.i in
    record { i = i; j = j; over = finished A i B j }

abbrev pub stepped : List Point → List Point → ℕ → Walk → Walk
stepped A B zero w = w
stepped A B (suc n) w = advanced A B (stepped A B n w)

unfoldable pub ahead : List Point → List Point → Walk → List Place
ahead A B w = cond w.over [] (places_from w.i w.j (drop w.i (edges A)) (drop w.j (edges B)))

unfoldable pub remaining : List Point → List Point → Walk → List Point
remaining A B w = cond w.over [] (path (here A B w) (join_edges (drop w.i (edges A)) (drop w.j (edges B))))

pub record At (a b : List ℤ) (w : Walk) : Type 0 where
  pub first-near : InRange a
  pub second-near : InRange b
  pub first-shape : IsShape (points a)
  pub second-shape : IsShape (points b)
  pub standing : Standing (edges (points a)) (edges (points b)) w.i w.j
