-- The test `draws` as an order of points: x comes after p if it draws the start of the line to q away from p.
--     draws-self, draws-trans    the order is strict, so a walk along it never comes back
--     across-line                the step from p to x by the step from p to q
--     on-line-same               a point of the line that is as far in d as p is p
--     stays_same                 of two that both stay one is the other
use Rattle.std.specs.Prelude.{◌≡◌, Bool, true, false, not, [], ◌∷◌, ℤ, pos, neg_ℤ, ◌+ℤ◌, ◌-ℤ◌, ◌*ℤ◌}
use Rattle.std.proofs.Common.{arith}
use Rattle.integer.specs.Ring.{ring, reify, difference-zero}
use Rattle.integer.specs.Linear.{linear, lia, ◌&◌}
use Rattle.integer.specs.Order.{◌<×<◌, ◌<×≤◌, ◌≡×◌, contra<, le_antisym, zero-factor}
use Rattle.plane.specs.Point.{Point, ◌⊖◌}
use Rattle.plane.specs.Turn.{turn}
use Rattle.plane.specs.Direction.{value}
use Rattle.plane.specs.Tangent.{sign_of, on_side}
use Rattle.plane.proofs.theory.lists.Members.{point-path}
use Rattle.plane.proofs.theory.forms.Vector.{turn-back}
use Rattle.tangents.specs.Draws.{draws}
use Rattle.tangents.specs.theory.Sides.{sign_zero}
use Rattle.tangents.specs.theory.DrawsTest.{Rises, rise-gap, Stays, Drawn, across, ahead, draws→drawn, drawn→draws}

-- ---- the order is strict

-- a point is not ahead of itself
value-self : (e p : Point) → value e (p ⊖ p) ≡ pos 0
unfolding value
value-self e p = ring (e.x ∷ e.y ∷ p.x ∷ p.y ∷ []) (search reify depth 40) tt

times_zero : (z : ℤ) → z *ℤ pos 0 ≡ pos 0
times_zero z = ring (z ∷ []) (search reify depth 40) tt

pub draws-self : (s : Bool) (p q : Point) → draws s p q p ≡ false
unfolding draws on_side
draws-self s p q = rw (turn-back p q, times_zero (sign_of s), times_zero (sign_of (not s)), value-self (q ⊖ p) p)

-- three lines to q
three-lines : (d p q x y : Point) → (value d q -ℤ value d x) *ℤ turn p q y
    ≡ (value d q -ℤ value d p) *ℤ turn x q y +ℤ (value d q -ℤ value d y) *ℤ turn p q x
unfolding value turn
three-lines d p q x y =
    ring (d.x ∷ d.y ∷ p.x ∷ p.y ∷ q.x ∷ q.y ∷ x.x ∷ x.y ∷ y.x ∷ y.y ∷ []) (search reify depth 40) tt

module _ {d p q x y : Point} (rise-p : Rises d p q) (rise-x : Rises d x q) (rise-y : Rises d y q) where
  drawn-trans : (s : Bool) → Drawn s d p q x → Drawn s d x q y → Drawn s d p q y
  drawn-trans s (across h) (across k) = across (contra< (λ g. lia
      (sign_of s ∷ turn p q x ∷ turn x q y ∷ turn p q y ∷ value d p ∷ value d q ∷ value d x ∷ value d y ∷ [])
      (three-lines d p q x y ≡× sign_of s & rise-y.up <×< h & rise-p.up <×< k & rise-x.up <×≤ g) (search linear depth 40) (omega arith)))
  drawn-trans s (across h) (ahead e k) = across (contra< (λ g. lia
      (sign_of s ∷ turn p q x ∷ turn x q y ∷ turn p q y ∷ value d p ∷ value d q ∷ value d x ∷ value d y ∷ [])
      (three-lines d p q x y ≡× sign_of s & rise-y.up <×< h & e ≡× (sign_of s *ℤ (value d q -ℤ value d p)) & rise-x.up <×≤ g)
      (search linear depth 40) (omega arith)))
  drawn-trans s (ahead e h) (across k) = across (contra< (λ g. lia
      (sign_of s ∷ turn p q x ∷ turn x q y ∷ turn p q y ∷ value d p ∷ value d q ∷ value d x ∷ value d y ∷ [])
      (three-lines d p q x y ≡× sign_of s & rise-p.up <×< k & e ≡× (sign_of s *ℤ (value d q -ℤ value d y)) & rise-x.up <×≤ g)
      (search linear depth 40) (omega arith)))
  drawn-trans s (ahead e h) (ahead f k) = ahead (zero-factor (rise-gap rise-x) flat)
      (lia (value d p ∷ value d x ∷ value d y ∷ []) (h & k) (search linear depth 40) (omega arith))
    where
      flat : (value d q -ℤ value d x) *ℤ turn p q y ≡ pos 0
      flat = lia (turn p q x ∷ turn x q y ∷ turn p q y ∷ value d p ∷ value d q ∷ value d x ∷ value d y ∷ [])
          (three-lines d p q x y & e ≡× (value d q -ℤ value d y) & f ≡× (value d q -ℤ value d p)) (search linear depth 40) (omega arith)

  pub draws-trans : (s : Bool) → draws s p q x ≡ true → draws s x q y ≡ true → draws s p q y ≡ true
  draws-trans s h k = drawn→draws s y rise-p (drawn-trans s (draws→drawn s x rise-p h) (draws→drawn s y rise-x k))

-- ---- of two that both stay one is the other

-- x - p along q - p, in either coordinate
pub across-line : (d p q x : Point) → ((value d q -ℤ value d p) *ℤ (x.x -ℤ p.x)
    ≡ (value d x -ℤ value d p) *ℤ (q.x -ℤ p.x) -ℤ d.y *ℤ turn p q x)
    × ((value d q -ℤ value d p) *ℤ (x.y -ℤ p.y) ≡ (value d x -ℤ value d p) *ℤ (q.y -ℤ p.y) +ℤ d.x *ℤ turn p q x)
unfolding value turn
across-line d p q x = (
  ring (d.x ∷ d.y ∷ p.x ∷ p.y ∷ q.x ∷ q.y ∷ x.x ∷ x.y ∷ []) (search reify depth 40) tt,
  ring (d.x ∷ d.y ∷ p.x ∷ p.y ∷ q.x ∷ q.y ∷ x.x ∷ x.y ∷ []) (search reify depth 40) tt,
)

module _ {d p q : Point} (x : Point) (rise : Rises d p q) where
  pub on-line-same : turn p q x ≡ pos 0 → value d x ≡ value d p → x ≡ p
  on-line-same e f = point-path
      (difference-zero x.x p.x (zero-factor (rise-gap rise) part-x))
      (difference-zero x.y p.y (zero-factor (rise-gap rise) part-y))
    where
      part-x : (value d q -ℤ value d p) *ℤ (x.x -ℤ p.x) ≡ pos 0
      part-x = lia (value d p ∷ value d q ∷ value d x ∷ turn p q x ∷ d.y ∷ p.x ∷ q.x ∷ x.x ∷ [])
          ((across-line d p q x).0 & e ≡× d.y & f ≡× (q.x -ℤ p.x)) (search linear depth 40) (omega arith)

      part-y : (value d q -ℤ value d p) *ℤ (x.y -ℤ p.y) ≡ pos 0
      part-y = lia (value d p ∷ value d q ∷ value d x ∷ turn p q x ∷ d.x ∷ p.y ∷ q.y ∷ x.y ∷ [])
          ((across-line d p q x).1 & e ≡× d.x & f ≡× (q.y -ℤ p.y)) (search linear depth 40) (omega arith)

turn-other : (p q x : Point) → turn x q p ≡ neg_ℤ (turn p q x)
unfolding turn
turn-other p q x = ring (p.x ∷ p.y ∷ q.x ∷ q.y ∷ x.x ∷ x.y ∷ []) (search reify depth 40) tt

pub stays_same : {s : Bool} {d p q x : Point} → Rises d p q → Stays s d p q x → Stays s d x q p → x ≡ p
stays_same {s} {d} {p} {q} {x} rise h k = on-line-same x rise flat (le_antisym (h.near flat) (k.near back))
  where
    flat : turn p q x ≡ pos 0
    flat = sign_zero s h.side (lia (sign_of s ∷ turn p q x ∷ turn x q p ∷ [])
        (k.side & turn-other p q x ≡× sign_of s) (search linear depth 40) (omega arith))

    back : turn x q p ≡ pos 0
    back = lia (turn p q x ∷ turn x q p ∷ []) (turn-other p q x & flat) (search linear depth 40) (omega arith)
