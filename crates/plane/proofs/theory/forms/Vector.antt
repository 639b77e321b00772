-- Vectors: their sum, their cross product, and the value of a direction at them.
--     ⊕-comm, ⊕-assoc, ⊕-zero, zero-⊕, ⊕-left-comm, ⊕-swap     the laws of the sum
--     total E                             the sum of a list of vectors
--     opposite-opposite                   turned round twice
--     step_back, step-to, ⊖-self, ⊖-zero  a step less its start; the step to a point; only that from a point to itself is zero
--     step-moved                          the step between two points that are moved alike
--     cross-self, cross-swap, cross-opposite, cross-turned, cross-origin     the laws of the cross product
--     cross-nonzero                       above 0, of two vectors that are not zero
--     turn-edges                          the turn at a corner is the product of its two edges
--     turn-stay, turn-back, turn_level    with two of three corners equal there is no turn
--     value-cross                         the value of d is the product with d turned left by a quarter
--     value-⊕, value-⊖, value-sym         the value of a sum and of a step; a direction and a vector may be exchanged
--     value-origin, origin-value          the value of the origin, and in direction (0,0)
--     value-opposite, value-turned        the value of -p, and of p in direction -d
--     turned_lt, turned_le, turned-back   the opposite direction turns orders round
--     value-nonneg, square-positive       the value of a vector in its own direction is not below 0; of one not zero it is above
--     opposite-non-zero, quarter-non-zero     a vector that is not zero, turned round or left by a quarter
--     positive-non-zero, below-non-zero   a direction with a value above 0, or with two values, is not zero
-- Which vectors are up is in `HalfPlane.antt`, their order by angle in `Angle.antt`.
use Rattle.std.specs.Prelude.{◌≡◌, List, [], ◌∷◌, pos, neg_ℤ, ◌+ℤ◌, ◌-ℤ◌, ◌≤ℤ◌, ◌<ℤ◌}
use Rattle.std.proofs.Common.{◌∙◌, ap, arith}
use Rattle.std.proofs.Math.IntN.{neg_ℤ-neg_ℤ}
use Rattle.integer.specs.Ring.{ring, reify}
use Rattle.integer.specs.Linear.{linear, lia, ◌&◌}
use Rattle.integer.specs.Order.{contra<, square-nonneg, square-zero}
use Rattle.plane.specs.Point.{Point, origin, ◌⊕◌, ◌⊖◌, opposite}
use Rattle.plane.specs.Turn.{cross, turn}
use Rattle.plane.specs.Direction.{value}
use Rattle.plane.specs.Cut.{quarter}
use Rattle.plane.specs.Forms.{NonZero}
use Rattle.plane.proofs.theory.lists.Members.{point-path}

-- ---- sums

pub ⊕-comm : (p q : Point) → p ⊕ q ≡ q ⊕ p
⊕-comm p q = point-path (ring (p.x ∷ q.x ∷ []) (search reify depth 40) tt) (ring (p.y ∷ q.y ∷ []) (search reify depth 40) tt)

pub ⊕-assoc : (p q r : Point) → p ⊕ q ⊕ r ≡ p ⊕ (q ⊕ r)
⊕-assoc p q r =
    point-path (ring (p.x ∷ q.x ∷ r.x ∷ []) (search reify depth 40) tt) (ring (p.y ∷ q.y ∷ r.y ∷ []) (search reify depth 40) tt)

pub ⊕-zero : (p : Point) → p ⊕ origin ≡ p
⊕-zero p = point-path (ring (p.x ∷ []) (search reify depth 40) tt) (ring (p.y ∷ []) (search reify depth 40) tt)

pub ⊕-left-comm : (p q r : Point) → p ⊕ (q ⊕ r) ≡ q ⊕ (p ⊕ r)
⊕-left-comm p q r =
    point-path (ring (p.x ∷ q.x ∷ r.x ∷ []) (search reify depth 40) tt) (ring (p.y ∷ q.y ∷ r.y ∷ []) (search reify depth 40) tt)

pub ⊕-swap : (p q r s : Point) → p ⊕ q ⊕ (r ⊕ s) ≡ p ⊕ r ⊕ (q ⊕ s)
⊕-swap p q r s = point-path (ring (p.x ∷ q.x ∷ r.x ∷ s.x ∷ []) (search reify depth 40) tt)
    (ring (p.y ∷ q.y ∷ r.y ∷ s.y ∷ []) (search reify depth 40) tt)

pub zero-⊕ : (p : Point) → origin ⊕ p ≡ p
zero-⊕ p = ⊕-comm origin p ∙ ⊕-zero p

pub opposite-opposite : (p : Point) → opposite (opposite p) ≡ p
opposite-opposite p = point-path (neg_ℤ-neg_ℤ p.x) (neg_ℤ-neg_ℤ p.y)

-- the sum of a list of vectors; the origin on []
abbrev pub total : List Point → Point
total [] = origin
total (e ∷ E) = e ⊕ total E

-- ---- steps

-- a step less its start is the step
pub step_back : (p e : Point) → (p ⊕ e) ⊖ p ≡ e
step_back p e = point-path (ring (p.x ∷ e.x ∷ []) (search reify depth 40) tt) (ring (p.y ∷ e.y ∷ []) (search reify depth 40) tt)

-- the step from p to q leads to q
pub step-to : (p q : Point) → p ⊕ (q ⊖ p) ≡ q
step-to p q = point-path (ring (p.x ∷ q.x ∷ []) (search reify depth 40) tt) (ring (p.y ∷ q.y ∷ []) (search reify depth 40) tt)

pub step-moved : (p q r : Point) → (q ⊕ r) ⊖ (p ⊕ r) ≡ q ⊖ p
step-moved p q r =
    point-path (ring (p.x ∷ q.x ∷ r.x ∷ []) (search reify depth 40) tt) (ring (p.y ∷ q.y ∷ r.y ∷ []) (search reify depth 40) tt)

pub ⊖-self : (p : Point) → p ⊖ p ≡ origin
⊖-self p = point-path (ring (p.x ∷ []) (search reify depth 40) tt) (ring (p.y ∷ []) (search reify depth 40) tt)

pub ⊖-zero : (p q : Point) → q ⊖ p ≡ origin → p ≡ q
⊖-zero p q e = point-path
    (lia (p.x ∷ q.x ∷ []) (ap (λ (z : Point). z.x) e) (search linear depth 40) (omega arith))
    (lia (p.y ∷ q.y ∷ []) (ap (λ (z : Point). z.y) e) (search linear depth 40) (omega arith))

-- ---- cross products and turns

pub cross-self : (e : Point) → cross e e ≡ pos 0
unfolding cross
cross-self e = ring (e.x ∷ e.y ∷ []) (search reify depth 40) tt

pub cross-swap : (e f : Point) → cross f e ≡ neg_ℤ (cross e f)
unfolding cross
cross-swap e f = ring (e.x ∷ e.y ∷ f.x ∷ f.y ∷ []) (search reify depth 40) tt

pub cross-opposite : (e f : Point) → cross (opposite e) (opposite f) ≡ cross e f
unfolding cross
cross-opposite e f = ring (e.x ∷ e.y ∷ f.x ∷ f.y ∷ []) (search reify depth 40) tt

pub cross-turned : (e t : Point) → cross (opposite t) e ≡ cross e t
unfolding cross
cross-turned e t = ring (e.x ∷ e.y ∷ t.x ∷ t.y ∷ []) (search reify depth 40) tt

pub cross-origin : (e : Point) → (cross origin e ≡ pos 0) × (cross e origin ≡ pos 0)
unfolding cross
cross-origin e = (ring (e.x ∷ e.y ∷ []) (search reify depth 40) tt, ring (e.x ∷ e.y ∷ []) (search reify depth 40) tt)

pub cross-nonzero : {e f : Point} → pos 0 <ℤ cross e f → NonZero e × NonZero f
cross-nonzero {e} {f} h = (record { non_zero = left }, record { non_zero = right })
  where
    left : e ≡ origin → ⊥
    left q =
        let zero-cross : cross e f ≡ pos 0 = rw q (cross-origin f).0 in
        lia (cross e f ∷ []) (h & zero-cross) (search linear depth 40) (omega arith)

    right : f ≡ origin → ⊥
    right q =
        let zero-cross : cross e f ≡ pos 0 = rw q (cross-origin e).1 in
        lia (cross e f ∷ []) (h & zero-cross) (search linear depth 40) (omega arith)

pub turn-edges : (a q r : Point) → turn a q r ≡ cross (q ⊖ a) (r ⊖ q)
unfolding turn cross
turn-edges a q r = ring (a.x ∷ a.y ∷ q.x ∷ q.y ∷ r.x ∷ r.y ∷ []) (search reify depth 40) tt

pub turn-stay : (p q : Point) → turn p p q ≡ pos 0
unfolding turn
turn-stay p q = ring (p.x ∷ p.y ∷ q.x ∷ q.y ∷ []) (search reify depth 40) tt

pub turn-back : (p q : Point) → turn p q p ≡ pos 0
unfolding turn
turn-back p q = ring (p.x ∷ p.y ∷ q.x ∷ q.y ∷ []) (search reify depth 40) tt

pub turn_level : (p q : Point) → turn p q q ≡ pos 0
unfolding turn
turn_level p q = ring (p.x ∷ p.y ∷ q.x ∷ q.y ∷ []) (search reify depth 40) tt

-- ---- values

pub value-cross : (d e : Point) → value d e ≡ cross e (quarter d)
unfolding value cross
value-cross d e = ring (d.x ∷ d.y ∷ e.x ∷ e.y ∷ []) (search reify depth 40) tt

pub value-⊕ : (d p q : Point) → value d (p ⊕ q) ≡ value d p +ℤ value d q
unfolding value
value-⊕ d p q = ring (d.x ∷ d.y ∷ p.x ∷ p.y ∷ q.x ∷ q.y ∷ []) (search reify depth 40) tt

pub value-⊖ : (d p q : Point) → value d (p ⊖ q) ≡ value d p -ℤ value d q
unfolding value
value-⊖ d p q = ring (d.x ∷ d.y ∷ p.x ∷ p.y ∷ q.x ∷ q.y ∷ []) (search reify depth 40) tt

pub value-sym : (d p : Point) → value d p ≡ value p d
unfolding value
value-sym d p = ring (d.x ∷ d.y ∷ p.x ∷ p.y ∷ []) (search reify depth 40) tt

pub value-origin : (d : Point) → value d origin ≡ pos 0
unfolding value
value-origin d = ring (d.x ∷ d.y ∷ []) (search reify depth 40) tt

pub origin-value : (p : Point) → value origin p ≡ pos 0
origin-value p = value-sym origin p ∙ value-origin p

pub value-opposite : (d p : Point) → value d (opposite p) ≡ neg_ℤ (value d p)
unfolding value
value-opposite d p = ring (d.x ∷ d.y ∷ p.x ∷ p.y ∷ []) (search reify depth 40) tt

-- the direction turned round
pub value-turned : (d p : Point) → value (opposite d) p ≡ neg_ℤ (value d p)
unfolding value
value-turned d p = ring (d.x ∷ d.y ∷ p.x ∷ p.y ∷ []) (search reify depth 40) tt

pub value-nonneg : (v : Point) → pos 0 ≤ℤ value v v
unfolding value
value-nonneg v = lia (v.x ∷ v.y ∷ []) (square-nonneg v.x & square-nonneg v.y) (search linear depth 40) (omega arith)

-- where it is 0 the square of either part is not above 0
pub square-positive : (d : Point) → NonZero d → pos 0 <ℤ value d d
unfolding value
square-positive d n = contra< (λ g. n.non_zero (point-path
    (square-zero (lia (d.x ∷ d.y ∷ []) (g & square-nonneg d.y) (search linear depth 40) (omega arith)))
    (square-zero (lia (d.x ∷ d.y ∷ []) (g & square-nonneg d.x) (search linear depth 40) (omega arith)))))

-- what is less in a direction is greater in the opposite one
pub turned_lt : (d p q : Point) → value d p <ℤ value d q → value (opposite d) q <ℤ value (opposite d) p
turned_lt d p q h = lia (value d p ∷ value d q ∷ value (opposite d) p ∷ value (opposite d) q ∷ [])
    (h & value-turned d p & value-turned d q) (search linear depth 40) (omega arith)

pub turned_le : (d p q : Point) → value d p ≤ℤ value d q → value (opposite d) q ≤ℤ value (opposite d) p
turned_le d p q h = lia (value d p ∷ value d q ∷ value (opposite d) p ∷ value (opposite d) q ∷ [])
    (h & value-turned d p & value-turned d q) (search linear depth 40) (omega arith)

pub turned-back : (d p q : Point) → value (opposite d) q ≤ℤ value (opposite d) p → value d p ≤ℤ value d q
turned-back d p q h = lia (value d p ∷ value d q ∷ value (opposite d) p ∷ value (opposite d) q ∷ [])
    (h & value-turned d p & value-turned d q) (search linear depth 40) (omega arith)

-- ---- vectors that are not zero

pub opposite-non-zero : {v : Point} → NonZero v → NonZero (opposite v)
opposite-non-zero {v} n = record {
  non_zero = λ e. n.non_zero (point-path
      (lia (v.x ∷ []) (ap (λ (p : Point). p.x) e) (search linear depth 40) (omega arith))
      (lia (v.y ∷ []) (ap (λ (p : Point). p.y) e) (search linear depth 40) (omega arith)));
}

pub quarter-non-zero : {v : Point} → NonZero v → NonZero (quarter v)
quarter-non-zero {v} n = record {
  non_zero = λ e. n.non_zero (point-path (ap (λ (p : Point). p.y) e)
      (lia (v.y ∷ []) (ap (λ (p : Point). p.x) e) (search linear depth 40) (omega arith)));
}

pub positive-non-zero : (d p : Point) → pos 0 <ℤ value d p → NonZero d
positive-non-zero d p h = record {
  non_zero = λ e. lia (value d p ∷ []) (h & ap (λ z. value z p) e ∙ origin-value p) (search linear depth 40) (omega arith);
}

-- a direction in which two points differ
pub below-non-zero : (d p q : Point) → value d p <ℤ value d q → NonZero d
below-non-zero d p q h = positive-non-zero d (q ⊖ p)
    (lia (value d p ∷ value d q ∷ value d (q ⊖ p) ∷ []) (h & value-⊖ d q p) (search linear depth 40) (omega arith))
