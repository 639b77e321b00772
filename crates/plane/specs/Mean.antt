-- Points of a shape, and their distances (document 02, request W3): "a point of a shape is the mean of its corners under whole-number
-- weights, 0 or more and not all 0, and distances compare as exact fractions". The weights are a function of the position; nothing is
-- divided: all is multiplied by the weights.
--     weight w ps           all weights of the corners together: the mean is a point if it is not 0
--     heap w ps             the corners times their weights, together: the mean is the heap over the weight
--     gap v A w B           from the mean of B under w to the mean of A under v, times both weights; their product is the share
--     AtMost n d v A w B    n/d is at most the squared distance of these two points: squared gap over squared share
--     Exactly n d v A w B   it is their squared distance
--     CommonPoint A B       some mean of A is a mean of B
-- What it means: `Meaning.antt` of the crate `clearance`.
use Rattle.std.specs.Prelude.{◌≡◌, List, [], ◌∷◌, ℕ, suc, ℤ, pos, ◌+ℤ◌, ◌*ℤ◌, ◌≤ℤ◌, ◌<ℤ◌}
use Rattle.plane.specs.Point.{Point, point, origin, ◌⊕◌, ◌⊖◌}
use Rattle.plane.specs.Direction.{value}

-- a vector times a number
abbrev pub times : ℤ → Point → Point
times k p = point (k *ℤ p.x) (k *ℤ p.y)

unfoldable pub weight : (ℕ → ℕ) → List Point → ℤ
weight w [] = pos 0
weight w (p ∷ ps) = pos (w 0) +ℤ weight (λ i. w (suc i)) ps

unfoldable pub heap : (ℕ → ℕ) → List Point → Point
heap w [] = origin
heap w (p ∷ ps) = times (pos (w 0)) p ⊕ heap (λ i. w (suc i)) ps

unfoldable pub gap : (ℕ → ℕ) → List Point → (ℕ → ℕ) → List Point → Point
gap v A w B = times (weight w B) (heap v A) ⊖ times (weight v A) (heap w B)

abbrev pub share : (ℕ → ℕ) → List Point → (ℕ → ℕ) → List Point → ℤ
share v A w B = weight v A *ℤ weight w B

abbrev pub AtMost : ℤ → ℤ → (ℕ → ℕ) → List Point → (ℕ → ℕ) → List Point → Type 0
AtMost n d v A w B = (n *ℤ (share v A w B *ℤ share v A w B)) ≤ℤ (d *ℤ value (gap v A w B) (gap v A w B))

abbrev pub Exactly : ℤ → ℤ → (ℕ → ℕ) → List Point → (ℕ → ℕ) → List Point → Type 0
Exactly n d v A w B = n *ℤ (share v A w B *ℤ share v A w B) ≡ d *ℤ value (gap v A w B) (gap v A w B)

pub record CommonPoint (A B : List Point) : Type 0 where
  pub one : ℕ → ℕ
  pub other : ℕ → ℕ
  pub one-point : pos 0 <ℤ weight one A
  pub other-point : pos 0 <ℤ weight other B
  pub same : gap one A other B ≡ origin
