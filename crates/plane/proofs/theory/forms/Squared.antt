-- The squared distance of two points.
--     squared-sym          either way round
--     squared-value        the value of the step in its own direction
--     squared-nonneg       not below 0
--     squared-positive     above 0, of different points
use Rattle.std.specs.Prelude.{◌≡◌, [], ◌∷◌, pos, ◌≤ℤ◌, ◌<ℤ◌}
use Rattle.integer.specs.Ring.{ring, reify}
use Rattle.plane.specs.Point.{Point, ◌⊖◌}
use Rattle.plane.specs.Measure.{squared}
use Rattle.plane.specs.Direction.{value}
use Rattle.plane.proofs.theory.forms.Vector.{⊖-zero, value-nonneg, square-positive}

pub squared-sym : (p q : Point) → squared p q ≡ squared q p
unfolding squared
squared-sym p q = ring (p.x ∷ p.y ∷ q.x ∷ q.y ∷ []) (search reify depth 40) tt

pub squared-value : (p q : Point) → squared p q ≡ value (q ⊖ p) (q ⊖ p)
unfolding squared value
squared-value p q = ring (p.x ∷ p.y ∷ q.x ∷ q.y ∷ []) (search reify depth 40) tt

pub squared-nonneg : (p q : Point) → pos 0 ≤ℤ squared p q
squared-nonneg p q = rw (squared-value p q) (value-nonneg (q ⊖ p))

pub squared-positive : (p q : Point) → (p ≡ q → ⊥) → pos 0 <ℤ squared p q
squared-positive p q n = rw (squared-value p q) (square-positive (q ⊖ p) (record { non_zero = λ e. n (⊖-zero p q e) }))
