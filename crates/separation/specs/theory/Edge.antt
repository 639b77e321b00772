-- Directions in which a shape is below the origin, where the origin is outside.
--     edge-away      the outer normal of a vector that points the same way as an edge which has the origin to its right
--     start-away     where no edge has it to its right: the opposite of the first corner
-- The shape is then a point, or a segment in line with the origin.
use Rattle.std.specs.Prelude.{◌≡◌, refl, Bool, true, false, cond, List, [], ◌∷◌, ℕ, ◌<◌, ltb, ℤ, nat_abs, ◌*ℤ◌, length, ◌<ℤ◌}
use Rattle.std.proofs.Common.{ap, arith, ltb-true}
use mathlib.Core.List.Memᴰ
use Rattle.std.proofs.Math.IntN.{pos}
use Rattle.std.specs.Int.Signed.{le_z}
use Rattle.integer.specs.Linear.{linear, lia, ◌&◌}
use Rattle.integer.specs.Order.{◌<×<◌, ◌<×≤◌, ◌≡×◌, contra<, lt_z-true, le_z-false}
use Rattle.plane.specs.Point.{Point, corner, origin, opposite, ◌⊖◌, ◌∈◌}
use Rattle.plane.specs.Turn.{cross, turn}
use Rattle.plane.specs.Limits.{max_part}
use Rattle.plane.specs.Search.{some}
use Rattle.plane.specs.Shape.{next, IsShape}
use Rattle.plane.specs.Direction.{value, support, SameWay}
use Rattle.plane.specs.Separation.{not_left}
use Rattle.plane.specs.Cut.{outward}
use Rattle.plane.proofs.theory.lists.Sought.{true-not-false}
use Rattle.plane.proofs.theory.forms.Vector.{value-origin, value-turned, square-positive, positive-non-zero}
use Rattle.plane.proofs.theory.support.Support.{support-attained}
use Rattle.polygon.specs.Point.{Small}
use Rattle.separation.specs.Around.{cross_at, right_of, origin_on, origin_in}
use Rattle.separation.specs.theory.InsideShape.{turn-origin}
use Rattle.separation.specs.theory.Sector.{value-outward, edge-outermost}
use Rattle.separation.specs.Outward.{Outward}

-- what all points of a list are below, the greatest value is below
support-lt : (d : Point) (D : List Point) {v : ℤ} → 0 < length D → ((r : Point) → r ∈ D → value d r <ℤ v) → support d D <ℤ v
support-lt d D h f = let top = support-attained d D h in rw (← top.at_value) (f top.at top.at_in)

-- ---- an edge

-- values in the directions of two normals go together
scaled : (p q a b : Point) (w : SameWay (q ⊖ p) (b ⊖ a)) (r : Point) → w.m *ℤ value (outward p q) r ≡ w.n *ℤ value (outward a b) r
unfolding value
scaled p q a b w r = lia (w.m ∷ w.n ∷ p.x ∷ p.y ∷ q.x ∷ q.y ∷ a.x ∷ a.y ∷ b.x ∷ b.y ∷ r.x ∷ r.y ∷ [])
    (w.along-x ≡× r.y & w.along-y ≡× r.x) (search linear depth 40) (omega arith)

module _ (D : List Point) (s : IsShape D) where
  -- past the edge there is no corner, and at it the value is the cross product
  edge-negative : (e : ℕ) → e < length D → right_of D e ≡ true → (r : Point) → r ∈ D
      → value (outward (corner D e) (corner D (next (length D) e))) r <ℤ pos 0
  unfolding right_of cross_at
  edge-negative e h right r m =
      let a = corner D e in
      let b = corner D (next (length D) e) in
      lia (value (outward a b) r ∷ value (outward a b) a ∷ value (outward a b) origin ∷ turn a b origin ∷ cross a b ∷ [])
      (edge-outermost D s e h r m & value-outward a b origin & value-origin (outward a b) & turn-origin a b
      & lt_z-true {x = cross a b} {y = pos 0} right) (search linear depth 40) (omega arith)

  pub edge-away : (e : ℕ) → e < length D → right_of D e ≡ true → (p q : Point)
      → SameWay (q ⊖ p) (corner D (next (length D) e) ⊖ corner D e) → Small max_part (outward p q) → Outward D (outward p q)
  edge-away e h right p q w near =
      record { in-limits = near; negative = support-lt (outward p q) D s.some negative }
    where
      a : Point
      a = corner D e

      b : Point
      b = corner D (next (length D) e)

      negative : (r : Point) → r ∈ D → value (outward p q) r <ℤ pos 0
      negative r m = contra< (λ g. lia (w.m ∷ w.n ∷ value (outward p q) r ∷ value (outward a b) r ∷ [])
          (scaled p q a b w r & w.m-above <×≤ g & w.n-above <×< edge-negative e h right r m) (search linear depth 40) (omega arith))

-- ---- no edge

-- the origin is outside, but to the right of no edge
outside-few : (D : List Point) → origin_in D ≡ pos 0 → some (right_of D) (length D) ≡ false
    → (length D < 3) × (pos 0 <ℤ value (corner D 0) (corner D (next (length D) 0)))
unfolding origin_in origin_on
outside-few D o none = go (some (right_of D) (length D)) none (ltb (length D) 3) refl
    (le_z (value (corner D 0) (corner D (next (length D) 0))) (pos 0)) refl (some (not_left D) (length D)) o
  where
    other : {n : ℕ} → 0 < n → pos n ≡ pos 0 → ⊥
    other h e = let z = ap nat_abs e in omega arith

    go : (r : Bool) → r ≡ false → (t : Bool) → ltb (length D) 3 ≡ t
        → (u : Bool) → le_z (value (corner D 0) (corner D (next (length D) 0))) (pos 0) ≡ u → (v : Bool)
        → cond r (pos 0) (cond t (cond u (pos 1) (pos 0)) (cond v (pos 1) (pos 2))) ≡ pos 0
        → (length D < 3) × (pos 0 <ℤ value (corner D 0) (corner D (next (length D) 0)))
    go true n t e u f v q = true-not-false refl n
    go false n true e true f v q = absurd (other (omega arith) q)
    go false n true e false f v q = (ltb-true (length D) 3 e, le_z-false f)
    go false n false e u f true q = absurd (other (omega arith) q)
    go false n false e u f false q = absurd (other (omega arith) q)

-- a point that has a value above 0 in its own direction is below 0 in the opposite one
turned-negative : (p q : Point) → pos 0 <ℤ value p q → value (opposite p) q <ℤ pos 0
turned-negative p q h = lia (value p q ∷ value (opposite p) q ∷ []) (h & value-turned p q) (search linear depth 40) (omega arith)

own-positive : (p q : Point) → pos 0 <ℤ value p q → pos 0 <ℤ value p p
own-positive p q h = square-positive p (positive-non-zero p q h)

few-negative : (D : List Point) → 0 < length D → length D < 3 → pos 0 <ℤ value (corner D 0) (corner D (next (length D) 0))
    → (r : Point) → r ∈ D → value (opposite (corner D 0)) r <ℤ pos 0
few-negative [] some few h r m = absurd (omega arith)
few-negative (p ∷ []) some few h r m = rw (Memᴰ.eq_of_singleton m) (turned-negative p p h)
few-negative (p ∷ (q ∷ [])) some few h r (Memᴰ.head e) = rw e (turned-negative p p (own-positive p q h))
few-negative (p ∷ (q ∷ [])) some few h r (Memᴰ.tail m) = rw (Memᴰ.eq_of_singleton m) (turned-negative p q h)
few-negative (p ∷ (q ∷ (t ∷ D))) some few h r m = absurd (omega arith)

pub start-away : (D : List Point) → 0 < length D → some (right_of D) (length D) ≡ false → origin_in D ≡ pos 0
    → Small max_part (opposite (corner D 0)) → Outward D (opposite (corner D 0))
start-away D any none o near = record {
  in-limits = near;
  negative = let r = outside-few D o none in support-lt (opposite (corner D 0)) D any (few-negative D any r.0 r.1);
}
