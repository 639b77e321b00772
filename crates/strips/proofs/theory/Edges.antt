-- The spread across an edge, and that a direction in which two corners are furthest is the direction out of an edge.
--     NoNarrower ps d      the spread in d, over the length of d, is not below the width
--     out-squared          the direction out of an edge has the edge's squared length
--     out-spread           and for its spread the greatest turn
--     tied-no-narrower     where two corners are furthest in d, d is no narrower
use Rattle.std.specs.Prelude.{◌≡◌, List, [], ◌∷◌, ℕ, ◌<◌, ℤ, pos, ◌-ℤ◌, ◌*ℤ◌, length, ◌≤ℤ◌, ◌<ℤ◌}
use Rattle.std.proofs.Common.{◌∙◌, ap, arith}
use Rattle.integer.specs.Ring.{ring, reify}
use Rattle.integer.specs.Linear.{linear, lia, ◌&◌}
use Rattle.integer.specs.Order.{◌<×<◌, ◌<×≤◌, ◌≤×≤◌, ◌≡×◌, contra≤, weaken, le_antisym}
use Rattle.plane.specs.Point.{Point, corner, ◌⊖◌, ◌∈◌}
use Rattle.plane.specs.Turn.{turn, cross}
use Rattle.plane.specs.Shape.{next, IsShape}
use Rattle.plane.specs.Direction.{value}
use Rattle.plane.specs.Measure.{squared, edge_turn, height, edge_squared, width_edge}
use Rattle.plane.specs.Cut.{outward}
use Rattle.plane.proofs.theory.lists.Members.{position-member, member-position}
use Rattle.plane.proofs.theory.forms.Vector.{value-nonneg, value-⊖}
use Rattle.separation.specs.theory.Sector.{value-outward, edge-outermost}
use Rattle.measure.specs.theory.Height.{height-above, height-had, edge_squared-positive}
use Rattle.measure.specs.theory.Narrowest.{width-narrowest, no_wider-le}
use Rattle.strips.specs.Strip.{spread}
use Rattle.strips.specs.OwnDirection.{out_of}
use Rattle.strips.proofs.theory.Spread.{spread-above, spread-attained}
use Rattle.strips.proofs.theory.Outermost.{cross-outward, tied-edge}
use Rattle.strips.proofs.theory.Parallel.{parallel-value, parallel-square}

-- t·t/q ≤ spread·spread over the squared length, for the t and q of the width
abbrev pub NoNarrower : List Point → Point → Type 0
NoNarrower ps d = (height ps (width_edge ps) *ℤ height ps (width_edge ps) *ℤ value d d)
    ≤ℤ (spread d ps *ℤ spread d ps *ℤ edge_squared ps (width_edge ps))

-- ---- out of an edge

out-length : (a b : Point) → value (outward a b) (outward a b) ≡ squared a b
unfolding value squared
out-length a b = ring (a.x ∷ a.y ∷ b.x ∷ b.y ∷ []) (search reify depth 40) tt

module _ (ps : List Point) (s : IsShape ps) (e : ℕ) (h : e < length ps) where
  abbrev a : Point
  a = corner ps e

  abbrev b : Point
  b = corner ps (next (length ps) e)

  pub out-squared : value (out_of ps e) (out_of ps e) ≡ edge_squared ps e
  unfolding edge_squared
  out-squared = out-length a b

  -- the corner of greatest turn, by values
  turned-most : (c : ℕ) × (c < length ps) × (value (outward a b) a -ℤ value (outward a b) (corner ps c) ≡ height ps e)
  unfolding edge_turn
  turned-most =
      let c = height-had ps e s.some in (
        c.0,
        c.1,
        lia (value (outward a b) a ∷ value (outward a b) (corner ps c.0) ∷ turn a b (corner ps c.0) ∷ height ps e ∷ [])
            (c.2 & value-outward a b (corner ps c.0)) (search linear depth 40) (omega arith),
      )

  -- no corner is further out than the edge, and none turns more than the greatest turn
  pub out-spread : spread (out_of ps e) ps ≡ height ps e
  unfolding edge_turn
  out-spread = le_antisym below above
    where
      n : Point
      n = outward a b

      above : height ps e ≤ℤ spread n ps
      above =
          let c = turned-most in
          lia (value n a ∷ value n (corner ps c.0) ∷ height ps e ∷ spread n ps ∷ [])
          (c.2 & spread-above n ps (position-member ps e h) (position-member ps c.0 c.1)) (search linear depth 40) (omega arith)

      turned : (i : ℕ) → i < length ps → (value n a -ℤ value n (corner ps i)) ≤ℤ height ps e
      turned i k = lia (value n a ∷ value n (corner ps i) ∷ turn a b (corner ps i) ∷ height ps e ∷ [])
          (height-above ps e i k & value-outward a b (corner ps i)) (search linear depth 40) (omega arith)

      below : spread n ps ≤ℤ height ps e
      below =
          let (p, q, p-in, q-in, far) = spread-attained n ps s.some in
          let (i, k, r) = member-position q-in in
          lia (value n p ∷ value n q ∷ value n a ∷ spread n ps ∷ height ps e ∷ [])
          (far & edge-outermost ps s e h p p-in & rw r at (turned i k)) (search linear depth 40) (omega arith)

-- ---- a direction across an edge

-- of the edge h its greatest turn and M its squared length; N the squared length of the direction; y what a corner is short of the edge in
-- it, X the spread
numbers : (h M N y X t q : ℤ) → pos 0 <ℤ M → pos 0 ≤ℤ q → pos 0 ≤ℤ N → pos 0 ≤ℤ y → y ≤ℤ X → M *ℤ y *ℤ y ≡ N *ℤ h *ℤ h
    → (t *ℤ t *ℤ M) ≤ℤ (h *ℤ h *ℤ q) → (t *ℤ t *ℤ N) ≤ℤ (X *ℤ X *ℤ q)
numbers h M N y X t q long some size low high same narrow =
    contra≤ (λ g. lia (h ∷ M ∷ N ∷ y ∷ X ∷ t ∷ q ∷ []) (long <×< g & both ≤×≤ grown & size ≤×≤ narrow & same ≡× q)
    (search linear depth 40) (omega arith))
  where
    grown : (y *ℤ y) ≤ℤ (X *ℤ X)
    grown = lia (y ∷ X ∷ []) (high ≤×≤ high & low ≤×≤ high) (search linear depth 40) (omega arith)

    both : pos 0 ≤ℤ (M *ℤ q)
    both = lia (M ∷ q ∷ []) (long <×≤ some) (search linear depth 40) (omega arith)

module _ (ps : List Point) (s : IsShape ps) (three : 2 < length ps) (n : Point) where
  across-no-narrower : (e : ℕ) → e < length ps → value n (corner ps (next (length ps) e) ⊖ corner ps e) ≡ pos 0
      → ((p : Point) → p ∈ ps → value n p ≤ℤ value n (corner ps e)) → NoNarrower ps n
  across-no-narrower e h flat top =
      let c = turned-most ps s e h in
      let z = corner ps c.0 in
      let z-in = position-member ps c.0 c.1 in
      let first = width-narrowest s three in
      let falls = value-⊖ n a z in
      numbers (height ps e) (value m m) (value n n) (value n (a ⊖ z)) (spread n ps)
      (height ps (width_edge ps)) (edge_squared ps (width_edge ps))
      long
      (weaken (edge_squared-positive ps s three (width_edge ps) first.among))
      (value-nonneg n)
      (lia (value n a ∷ value n z ∷ value n (a ⊖ z) ∷ []) (falls & top z z-in) (search linear depth 40) (omega arith))
      (lia (value n a ∷ value n z ∷ value n (a ⊖ z) ∷ spread n ps ∷ []) (falls & spread-above n ps (position-member ps e h) z-in)
      (search linear depth 40) (omega arith))
      (parallel-square m n level long (value n (a ⊖ z)) (height ps e)
      (parallel-value m n level (a ⊖ z) ∙ ap (λ x. value m n *ℤ x) (value-⊖ m a z ∙ c.2)))
      (rw (out-squared ps s e h) (no_wider-le ps (width_edge ps) e (first.least e h)))
    where
      a : Point
      a = corner ps e

      m : Point
      m = out_of ps e

      long : pos 0 <ℤ value m m
      long = rw (out-squared ps s e h) (edge_squared-positive ps s three e h)

      level : cross m n ≡ pos 0
      level = cross-outward n a (corner ps (next (length ps) e)) ∙ flat

  pub tied-no-narrower : {a b : Point} → a ∈ ps → b ∈ ps → (a ≡ b → ⊥) → pos 0 <ℤ value n n
      → ((p : Point) → p ∈ ps → value n p ≤ℤ value n a) → ((p : Point) → p ∈ ps → value n p ≤ℤ value n b) → NoNarrower ps n
  tied-no-narrower a_in b-in other some top also = tied-edge ps s n a_in b-in other some top also across-no-narrower
