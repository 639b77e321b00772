-- Points that cannot be corners, found without a turn (Akl and Toussaint): those strictly inside a rectangle that the points reach past at
-- each of its corners. Our own, not of document 01.
--     is_inside b p      p lies strictly inside the rectangle b
--     outer b S         the points of S that do not, in their order
--     Reached b S       past each corner of b lies a point of S: it is at least as far out along both axes
--     Reduced S l r     the first r corners of l are points of S, and have the shape of all
use Rattle.std.specs.Prelude.{◌≡◌, Bool, cond, ◌&&◌, List, [], ◌∷◌, ℕ, ◌≤◌, ◌<◌, ℤ, length, take, ◌≤ℤ◌}
use Rattle.std.specs.Int.Signed.{lt_z}
use Rattle.plane.specs.Point.{Point, points, ◌∈◌, ◌⊆◌}
use Rattle.plane.specs.Corner.{shape_of}
use Rattle.sorting.specs.declared.interior.Rectangle.{Rectangle}

unfoldable pub is_inside : Rectangle → Point → Bool
is_inside b p = (lt_z b.left p.x && lt_z p.x b.right) && (lt_z b.low p.y && lt_z p.y b.high)

abbrev pub outer : Rectangle → List Point → List Point
outer b [] = []
outer b (p ∷ S) = let later = outer b S in cond (is_inside b p) later (p ∷ later)

-- some point of S is such a one
pub record Some (S : List Point) (P : Point → Type 0) : Type 0 where
  pub at : Point
  pub at_in : at ∈ S
  pub such : P at

pub record Reached (b : Rectangle) (S : List Point) : Type 0 where
  pub northeast : Some S (λ q. (b.right ≤ℤ q.x) × (b.high ≤ℤ q.y))
  pub northwest : Some S (λ q. (q.x ≤ℤ b.left) × (b.high ≤ℤ q.y))
  pub southwest : Some S (λ q. (q.x ≤ℤ b.left) × (q.y ≤ℤ b.low))
  pub southeast : Some S (λ q. (b.right ≤ℤ q.x) × (q.y ≤ℤ b.low))

pub record Reduced (S : List Point) (l : List ℤ) (r : ℕ) : Type 0 where
  pub some : 0 < r
  pub few : r ≤ length S
  pub within : r ≤ length (points l)
  pub part : take r (points l) ⊆ S
  pub shape : shape_of (take r (points l)) ≡ shape_of S
