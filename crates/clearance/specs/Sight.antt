-- What a walk round the corners of the differences found that began at some corner. Our own, not of document 02.
--     NoOrigin D          no corner is the origin
--     Nowhere D k         from corner k on no place passes but corner k
--     Looked a b i j r    a walk that began where i edges of the one shape and j of the other are passed saw r, or nothing
use Rattle.std.specs.Prelude.{◌≡◌, false, Option, Some, None, List, ℕ, suc, ◌≤◌, ◌<◌, ◌^◌, ℤ, length}
use Rattle.plane.specs.Point.{Point, points, corner}
use Rattle.plane.specs.Forms.{NonZero}
use Rattle.plane.specs.VectorSum.{vector_sum}
use Rattle.polygon.specs.Point.{at, Small}
use Rattle.calipers.specs.Walk.{begun, stepped}
use Rattle.clearance.specs.Stop.{rests, crosses, after, Stopped}
use Rattle.clearance.specs.declared.facing.Sight.{Sight}

abbrev pub NoOrigin : List Point → Type 0
NoOrigin D = (k : ℕ) → k < length D → NonZero (corner D k)

pub record Nowhere (D : List Point) (k : ℕ) : Type 0 where
  pub no-corner : (l : ℕ) → k ≤ l → suc l < length D → rests (corner D l) (corner D (suc l)) (after D (suc l)) ≡ false
  pub no_edge : (l : ℕ) → k ≤ l → l < length D → crosses (corner D l) (after D l) ≡ false

abbrev pub Looked : List ℤ → List ℤ → ℕ → ℕ → Option Sight → Type 0
Looked a b i j (Some r) = Small (2 ^ 22) (at r.n) × Stopped (vector_sum (points a) (points b)) (at r.n)
Looked a b i j None = (k : ℕ) → k < length (vector_sum (points a) (points b))
    → record { i = i; j = j; over = false } ≡ stepped (points a) (points b) k begun
    → Nowhere (vector_sum (points a) (points b)) k
