-- Two directions on one line: what lies between two points in the one is a multiple of what lies between them in the other.
--     parallel-value      a point's values in the two
--     parallel-square     so x in n and h in m that go with each other, squared, over the squared lengths of n and m, are equal
use Rattle.std.specs.Prelude.{◌≡◌, [], ◌∷◌, ℤ, pos, ◌*ℤ◌, ◌<ℤ◌}
use Rattle.std.proofs.Common.{ap₂, arith}
use Rattle.integer.specs.Ring.{difference-zero}
use Rattle.integer.specs.Linear.{linear, lia, ◌&◌}
use Rattle.integer.specs.Order.{◌≡×◌, zero-factor}
use Rattle.plane.specs.Point.{Point}
use Rattle.plane.specs.Turn.{cross}
use Rattle.plane.specs.Direction.{value}
use Rattle.clearance.specs.theory.Bound.{lagrange}
use Rattle.clearance.specs.theory.Along.{by-edge}

module _ (m n : Point) (level : cross m n ≡ pos 0) where
  pub parallel-value : (p : Point) → value m m *ℤ value n p ≡ value m n *ℤ value m p
  parallel-value p = lia (value m m ∷ value n p ∷ value m n ∷ value m p ∷ cross m n ∷ cross m p ∷ [])
      (by-edge m n p & level ≡× cross m p) (search linear depth 40) (omega arith)

  pub parallel-square : pos 0 <ℤ value m m → (x h : ℤ) → value m m *ℤ x ≡ value m n *ℤ h → value m m *ℤ x *ℤ x ≡ value n n *ℤ h *ℤ h
  parallel-square long x h e = difference-zero (value m m *ℤ x *ℤ x) (value n n *ℤ h *ℤ h) (zero-factor {t = value m m} long
      (lia (value m m ∷ value m n ∷ value n n ∷ cross m n ∷ x ∷ h ∷ [])
      (ap₂ (λ y z. y *ℤ z) e e & lagrange m n ≡× (h *ℤ h) & level ≡× (cross m n *ℤ h *ℤ h)) (search linear depth 40) (omega arith)))
