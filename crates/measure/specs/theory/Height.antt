-- The greatest turn against an edge, as a support: with d the direction to the left of the edge, the turn of a corner is the value of d
-- there, up to a number that the edge alone fixes.
--     edge_turn-value, height-support    the turn, and the greatest turn, by values of the direction to the left of the edge
--     height-above, height-had          no turn is above it; some corner has it
--     furthest-height, height-furthest  a corner has the greatest turn exactly if it is furthest in that direction
--     edge_squared-value                         the squared length as a product of the edge with itself
--     height-positive, edge_squared-positive     of a shape with three corners or more
--     facing-width                              against the edge of the width the first corner of greatest turn is width_corner
--     width-facing, width-earlier               and width_corner is such a corner; before it all turns are less
use Rattle.std.specs.Prelude.{◌≡◌, Bool, List, [], ◌∷◌, ℕ, ◌<◌, ℤ, ◌-ℤ◌, ◌≤ℤ◌, ◌<ℤ◌}
use Rattle.std.proofs.Common.{sym, ◌∙◌, ap, arith}
use Rattle.std.proofs.Math.IntN.{pos}
use Rattle.std.proofs.Math.ListN.{length}
use Rattle.std.specs.Int.Signed.{le_z, clash_ℤ}
use Rattle.integer.specs.Ring.{ring, reify}
use Rattle.integer.specs.Linear.{lia, linear, ◌&◌}
use Rattle.integer.specs.Order.{le_of_eq, le_antisym, le-le_z, lt-le_z, le_z-true, le_z-false, contra<}
use Rattle.plane.specs.Cut.{quarter}
use Rattle.plane.specs.Point.{Point, corner, ◌⊖◌}
use Rattle.plane.specs.Turn.{turn, Left}
use Rattle.plane.specs.Shape.{next, IsShape}
use Rattle.plane.specs.Direction.{value, support}
use Rattle.plane.specs.Measure.{greatest, edge_turn, height, edge_squared, width_edge, width_corner}
use Rattle.plane.proofs.theory.lists.Members.{position-member, member-position}
use Rattle.plane.proofs.theory.forms.Vector.{turn-stay}
use Rattle.plane.proofs.theory.support.Support.{value-le-support, support-attained}
use Rattle.plane.proofs.theory.lists.Sought.{first-true, first-least, first-at-most, first-unique}
use Rattle.plane.proofs.theory.lists.Greatest.{greatest-above, greatest-attained, greatest-le}
use Rattle.plane.proofs.theory.forms.Squared.{squared-positive, squared-value}
use Rattle.measure.specs.Comparison.{Facing}
use Rattle.plane.proofs.theory.sum.Positions.{edge_of, next-left}
use Rattle.plane.proofs.theory.lists.Next.{next-below}

turn-value : (a b c : Point) → turn a b c ≡ value (quarter (b ⊖ a)) c -ℤ value (quarter (b ⊖ a)) a
unfolding turn value
turn-value a b c = ring (a.x ∷ a.y ∷ b.x ∷ b.y ∷ c.x ∷ c.y ∷ []) (search reify depth 40) tt

module _ (ps : List Point) (e : ℕ) where
  edge_turn-value : (c : ℕ)
      → edge_turn ps e c ≡ value (quarter (edge_of ps e)) (corner ps c) -ℤ value (quarter (edge_of ps e)) (corner ps e)
  unfolding edge_turn
  edge_turn-value c = turn-value (corner ps e) (corner ps (next (length ps) e)) (corner ps c)

  pub height-above : (c : ℕ) → c < length ps → edge_turn ps e c ≤ℤ height ps e
  unfolding height
  height-above c h = greatest-above (edge_turn ps e) (length ps) c h

  pub height-had : 0 < length ps → (c : ℕ) × (c < length ps) × (height ps e ≡ edge_turn ps e c)
  unfolding height
  height-had h = greatest-attained (edge_turn ps e) (length ps) h

  height-support : 0 < length ps
      → height ps e ≡ support (quarter (edge_of ps e)) ps -ℤ value (quarter (edge_of ps e)) (corner ps e)
  unfolding height
  height-support some = le_antisym (greatest-le (edge_turn ps e) (length ps) some below) above
    where
      d : Point
      d = quarter (edge_of ps e)

      below : (c : ℕ) → c < length ps → edge_turn ps e c ≤ℤ (support d ps -ℤ value d (corner ps e))
      below c h = lia (edge_turn ps e c ∷ value d (corner ps c) ∷ support d ps ∷ value d (corner ps e) ∷ [])
          (edge_turn-value c & value-le-support d (position-member ps c h)) (search linear depth 40) (omega arith)

      above : (support d ps -ℤ value d (corner ps e)) ≤ℤ greatest (edge_turn ps e) (length ps)
      above =
          let r = support-attained d ps some in
          let c = member-position r.at_in in
          let k = c.0 in
          let same : value d (corner ps k) ≡ support d ps = ap (value d) c.2 ∙ r.at_value in
          let top = greatest (edge_turn ps e) (length ps) in
          lia (edge_turn ps e k ∷ value d (corner ps k) ∷ support d ps ∷ value d (corner ps e) ∷ top ∷ [])
          (edge_turn-value k & same & greatest-above (edge_turn ps e) (length ps) k c.1) (search linear depth 40) (omega arith)

  -- a corner has the greatest turn exactly if it is furthest in the direction to the left of the edge
  module _ (some : 0 < length ps) (c : ℕ) where
    -- what the two facts speak of
    abbrev numbers : List ℤ
    numbers = edge_turn ps e c ∷ height ps e ∷ value (quarter (edge_of ps e)) (corner ps c)
        ∷ support (quarter (edge_of ps e)) ps ∷ value (quarter (edge_of ps e)) (corner ps e) ∷ []

    pub furthest-height : value (quarter (edge_of ps e)) (corner ps c) ≡ support (quarter (edge_of ps e)) ps
        → edge_turn ps e c ≡ height ps e
    furthest-height h = lia numbers (h & edge_turn-value c & height-support some) (search linear depth 40) (omega arith)

    pub height-furthest : edge_turn ps e c ≡ height ps e
        → value (quarter (edge_of ps e)) (corner ps c) ≡ support (quarter (edge_of ps e)) ps
    height-furthest h = lia numbers (h & edge_turn-value c & height-support some) (search linear depth 40) (omega arith)

-- ---- the squared length, as a product of the edge with itself

pub edge_squared-value : (ps : List Point) (e : ℕ) → edge_squared ps e ≡ value (edge_of ps e) (edge_of ps e)
unfolding edge_squared
edge_squared-value ps e = squared-value (corner ps e) (corner ps (next (length ps) e))

-- ---- a shape with three corners or more

module _ (ps : List Point) (s : IsShape ps) (long : 2 < length ps) (e : ℕ) (h : e < length ps) where
  -- the corner after the end of the edge
  third-left : (c : ℕ) × (c < length ps) × Left (corner ps e) (corner ps (next (length ps) e)) (corner ps c)
  third-left = let n = length ps in
      (next n (next n e), next-below n (next n e) (next-below n e h), next-left ps s long e h)

  pub height-positive : pos 0 <ℤ height ps e
  unfolding edge_turn
  height-positive = let c = third-left in
      lia (turn (corner ps e) (corner ps (next (length ps) e)) (corner ps c.0) ∷ height ps e ∷ [])
      (c.2 & height-above ps e c.0 c.1) (search linear depth 40) (omega arith)

  pub edge_squared-positive : pos 0 <ℤ edge_squared ps e
  unfolding edge_squared
  edge_squared-positive = squared-positive (corner ps e) (corner ps (next (length ps) e)) (λ q. go q third-left)
    where
      go : corner ps e ≡ corner ps (next (length ps) e)
          → (c : ℕ) × (c < length ps) × Left (corner ps e) (corner ps (next (length ps) e)) (corner ps c) → ⊥
      go q c =
          let a = corner ps e in
          let b = corner ps (next (length ps) e) in
          let flat : turn a b (corner ps c.0) ≡ pos 0 = rw q (turn-stay b (corner ps c.0)) in
          lia (turn a b (corner ps c.0) ∷ []) (c.2 & flat) (search linear depth 40) (omega arith)

-- ---- the first corner of greatest turn

pub facing-width : {ps : List Point} {e c : ℕ} → width_edge ps ≡ e → Facing ps e c → width_corner ps ≡ c
unfolding width_corner
facing-width {ps} {e} {c} best f = rw best
    (first-unique (λ k. le_z (height ps e) (edge_turn ps e k)) (length ps) c (omega (arith, f.within))
    (λ q. le-le_z (le_of_eq (sym f.has))) (λ k l. lt-le_z (contra< (λ g. f.sole k l (le_antisym (height-above ps e k (below k l)) g)))))
  where
    below : (k : ℕ) → k < c → k < length ps
    below k l = omega (arith, f.within)

-- ---- width_corner is that corner

module _ (ps : List Point) where
  tests : ℕ → Bool
  tests c = le_z (height ps (width_edge ps)) (edge_turn ps (width_edge ps) c)

  pub width-earlier : (c : ℕ) → c < width_corner ps → edge_turn ps (width_edge ps) c <ℤ height ps (width_edge ps)
  unfolding width_corner tests
  width-earlier c h = le_z-false (first-least tests (length ps) c h)

  pub width-facing : 0 < length ps → Facing ps (width_edge ps) (width_corner ps)
  unfolding width_corner tests
  width-facing some =
      let top = height-had ps (width_edge ps) some in
      let found : width_corner ps < length ps =
      omega (arith, first-at-most tests (length ps) top.0 (le-le_z (le_of_eq top.2)), top.1) in
      record {
        within = found;
        has = le_antisym (height-above ps (width_edge ps) (width_corner ps) found) (le_z-true (first-true tests (length ps) found));
        sole = λ k l e. clash_ℤ (width-earlier k l) (le_of_eq (sym e));
      }
