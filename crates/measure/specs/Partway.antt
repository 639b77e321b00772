-- What the searches for length and width know at a place of the half walk. Our own, not of document 01.
--     Begins l top end                the walk of the shape l begins: its top, and how many edges it has
--     ToCome A t i m k l              the pair (k, l) is at a place after (i, m) that is antipodal
--     Leads A t i m f g               every pair at the greatest distance is no better than (f, g), or is to come
--     Apart A p                       the squared distance that a pair carries is its own
--     Search l n top end s t best     the best pair so far
--     passed_at t i m                  the edges passed at place (i, m), for top t
--     BestOf A P b                    b is the best of the edges of which P holds
--     Sweep l top end s t best        the best of the edges passed so far
-- What they mean: `LengthScan` and `WidthScan` of the theory.
use Rattle.std.specs.Prelude.{◌≡◌, List, ◌⊎◌, ℕ, ◌+◌, ◌≤◌, ◌<◌, ℤ, pos, length}
use Rattle.plane.specs.Point.{Point, points, corner}
use Rattle.plane.specs.Refusal.{Valid}
use Rattle.plane.specs.Measure.{squared, length_squared}
use Rattle.plane.specs.Forms.{edges}
use Rattle.calipers.specs.declared.side.Side.{Side}
use Rattle.measure.specs.Comparison.{NoBetter, Stands, Width}
use Rattle.measure.specs.Half.{Chains, Antipodal}
use Rattle.measure.specs.Scan.{HalfAt}
use Rattle.measure.specs.declared.Length.{Length}
use Rattle.measure.specs.declared.narrowest.Across.{Across}

pub record Begins (l : List ℤ) (top end : ℕ) : Type 0 where
  pub valid : Valid l
  pub chains : Chains (points l) top
  pub sides : end ≡ length (edges (points l))

-- ---- length

pub record ToCome (A : List Point) (t i m k l : ℕ) : Type 0 where
  pub right : ℕ
  pub left : ℕ
  pub antipodal : Antipodal A t right left
  pub right-ahead : i ≤ right
  pub left-ahead : m ≤ left
  pub ahead : i + m < right + left
  pub stands : Stands A right left k l

pub record Leads (A : List Point) (t i m f g : ℕ) : Type 0 where
  pub ordered : f ≤ g
  pub within : g < length A
  pub others : (k l : ℕ) → k ≤ l → l < length A → squared (corner A k) (corner A l) ≡ length_squared A
      → ToCome A t i m k l ⊎ NoBetter A k l f g

pub record Apart (A : List Point) (p : Length) : Type 0 where
  pub distance : pos p.squared ≡ squared (corner A p.from) (corner A p.to)

pub record Search (l : List ℤ) (n top end : ℕ) (s t : Side) (best : Length) : Type 0 where
  pub half : HalfAt l top s t
  pub count : n ≡ length (points l)
  pub sides : end ≡ length (edges (points l))
  pub apart : Apart (points l) best
  pub leads : Leads (points l) top s.at t.at best.from best.to

-- ---- width

abbrev pub passed_at : ℕ → ℕ → ℕ → ℕ → Type 0
passed_at t i m f = (f < i) ⊎ ((t ≤ f) × (f < m))

abbrev pub BestOf : List Point → (ℕ → Type 0) → Across → Type 0
BestOf A P b = Width A P b.edge b.corner b.turn b.squared

pub record Sweep (l : List ℤ) (top end : ℕ) (s t : Side) (best : Across) : Type 0 where
  pub half : HalfAt l top s t
  pub three : 2 < length (points l)
  pub sides : end ≡ length (edges (points l))
  pub best-so-far : BestOf (points l) (passed_at top s.at t.at) best
