-- What the boxes about two shapes say of their distance (document 02, W3: "distances compare as exact fractions"). Our own.
--     past g s          the greatest of g and of the coordinates of s, each with its sign changed
--     gap_of e f         how far two boxes are apart along x or y, the greater of the two; 0 if they are not
--     Bounded e         the numbers of a box may be added
--     Spans A B e f     e and f together are as wide as the boxes about A and about B; so e alone may be wider and f narrower
--     Reaches A B e     e is the box about all sums of a point of A and a point of B
--     Far e f t q       shapes that two boxes span are no nearer to each other than the root of t·t/q
-- A box is the greatest x and the greatest y of a shape, and those of its mirror image (`Extent.antt` of polygon).
use Rattle.std.specs.Prelude.{◌≡◌, true, List, ℕ, ◌*◌, ◌^◌, ℤ, pos, neg_ℤ}
use Rattle.plane.specs.Point.{Point, ◌⊕◌}
use Rattle.plane.specs.Shape.{IsShape}
use Rattle.plane.specs.Direction.{greater}
use Rattle.plane.specs.Corner.{mirrored}
use Rattle.plane.specs.Distance.{over, no_more, distance}
use Rattle.polygon.specs.declared.extent.Extent.{Extent}
use Rattle.polygon.specs.Point.{at, Small}
use Rattle.polygon.specs.Extent.{highest}

abbrev pub past : ℤ → Point → ℤ
past g s = greater g (greater (neg_ℤ s.x) (neg_ℤ s.y))

abbrev pub gap_of : Extent → Extent → ℤ
gap_of e f = past (past (pos 0) (at e.high ⊕ at f.low)) (at e.low ⊕ at f.high)

pub record Bounded (e : Extent) : Type 0 where
  pub high : Small (2 ^ 22) (at e.high)
  pub low : Small (2 ^ 22) (at e.low)

pub record Spans (A B : List Point) (e f : Extent) : Type 0 where
  pub ahead : at e.high ⊕ at f.low ≡ highest A ⊕ highest (mirrored B)
  pub behind : at e.low ⊕ at f.high ≡ highest (mirrored A) ⊕ highest B

pub record Reaches (A B : List Point) (e : Extent) : Type 0 where
  pub high_is : at e.high ≡ highest A ⊕ highest B
  pub low-is : at e.low ≡ highest (mirrored A) ⊕ highest (mirrored B)

abbrev pub Far : Extent → Extent → ℕ → ℕ → Type 0
Far e f t q = (A B : List Point) → IsShape A → IsShape B → Spans A B e f → no_more (over (pos (t * t)) (pos q)) (distance A B) ≡ true
