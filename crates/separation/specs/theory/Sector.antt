-- Round a shape: the outer normal of an edge, and the sector between the two edges at a corner.
--     value-outward                    in the direction that an edge faces outwards a point's value falls by its turn
--     sector                           the step from a corner to a point, written by the two edges at the corner
--     sector-weak                      between the two edges nothing is further than a corner that is no less far than its neighbours
--     level-zero                       a direction in which both edges at a corner are level is (0,0)
--     edge-outermost, edge-nonzero     in it no corner is further than the edge; in a polygon it is not zero
--     left→reached                     a point that is right of no edge of a polygon is in every direction no further than the polygon
--     left→passed                      left of all edges: the polygon is further in every direction other than (0,0)
use Rattle.std.specs.Prelude.{◌≡◌, ◌⊎◌, List, [], ◌∷◌, ℕ, ◌<◌, ◌-ℤ◌, ◌*ℤ◌, length, ◌≤ℤ◌, ◌<ℤ◌}
use Rattle.std.proofs.Common.{◌∙◌, ap, inl, inr, arith}
use Rattle.std.proofs.Math.IntN.{pos}
use Rattle.integer.specs.Ring.{ring, reify}
use Rattle.integer.specs.Linear.{linear, lia, ◌&◌}
use Rattle.integer.specs.Order.{◌<×<◌, ◌<×≤◌, ◌≤×≤◌, ◌≡×◌, lt-or-le, zero-factor}
use Rattle.integer.specs.Order.{contra<, contra≤, le_antisym}
use Rattle.plane.specs.Point.{Point, origin, corner, ◌∈◌}
use Rattle.plane.specs.Turn.{turn, Left}
use Rattle.plane.specs.Shape.{next, IsShape}
use Rattle.plane.specs.Direction.{value, support}
use Rattle.plane.specs.Forms.{NonZero}
use Rattle.plane.specs.Cut.{outward}
use Rattle.plane.proofs.theory.lists.Members.{point-path, member-position, position-member}
use Rattle.plane.proofs.theory.lists.Next.{next-below, preceding}
use Rattle.plane.proofs.theory.sum.Positions.{edge-turn, next-left}
use Rattle.plane.proofs.theory.support.Support.{value-le-support, support-attained}

-- ---- the outer normal of an edge

pub value-outward : (a b c : Point) → value (outward a b) c ≡ value (outward a b) a -ℤ turn a b c
unfolding value turn
value-outward a b c = ring (a.x ∷ a.y ∷ b.x ∷ b.y ∷ c.x ∷ c.y ∷ []) (search reify depth 40) tt

-- some point turns, so the normal is not zero
outward-nonzero : (a b c : Point) → Left a b c → NonZero (outward a b)
unfolding turn
outward-nonzero a b c h = record {
  non_zero = λ e. lia (a.x ∷ a.y ∷ b.x ∷ b.y ∷ c.x ∷ c.y ∷ [])
      (h & ap (λ (z : Point). z.x) e ≡× (c.x -ℤ a.x) & ap (λ (z : Point). z.y) e ≡× (c.y -ℤ a.y))
      (search linear depth 40) (omega arith);
}

-- ---- edges and corners of a shape

module _ (ps : List Point) (s : IsShape ps) where
  pub edge-outermost : (e : ℕ) → e < length ps → (q : Point) → q ∈ ps
      → value (outward (corner ps e) (corner ps (next (length ps) e))) q
      ≤ℤ value (outward (corner ps e) (corner ps (next (length ps) e))) (corner ps e)
  edge-outermost e h q m = at (member-position m)
    where
      a : Point
      a = corner ps e

      b : Point
      b = corner ps (next (length ps) e)

      at : (i : ℕ) × (i < length ps) × (corner ps i ≡ q) → value (outward a b) q ≤ℤ value (outward a b) a
      at r = lia (value (outward a b) q ∷ value (outward a b) a ∷ turn a b q ∷ [])
          (value-outward a b q & rw r.2 at (edge-turn ps s e r.0 h r.1)) (search linear depth 40) (omega arith)

  module _ (three : 2 < length ps) where
    pub edge-nonzero : (e : ℕ) → e < length ps → NonZero (outward (corner ps e) (corner ps (next (length ps) e)))
    edge-nonzero e h = outward-nonzero _ _ _ (next-left ps s three e h)

-- ---- the sector at a corner p between the edges from a and to c

-- x - p, written by the two edges
pub sector : (d a p c x : Point) → turn a p c *ℤ (value d x -ℤ value d p)
    ≡ turn a p x *ℤ (value d c -ℤ value d p) -ℤ turn p c x *ℤ (value d p -ℤ value d a)
unfolding value turn
sector d a p c x = ring (d.x ∷ d.y ∷ a.x ∷ a.y ∷ p.x ∷ p.y ∷ c.x ∷ c.y ∷ x.x ∷ x.y ∷ []) (search reify depth 40) tt

module _ (d a p c x : Point) (t : Left a p c) (before : value d a ≤ℤ value d p) (after : value d c ≤ℤ value d p) where
  -- both parts of the right side are at most 0
  pub sector-weak : pos 0 ≤ℤ turn a p x → pos 0 ≤ℤ turn p c x → value d x ≤ℤ value d p
  sector-weak h k = contra≤ (λ g. lia
      (turn a p c ∷ turn a p x ∷ turn p c x ∷ value d x ∷ value d p ∷ value d a ∷ value d c ∷ [])
      (sector d a p c x & t <×< g & h ≤×≤ after & k ≤×≤ before) (search linear depth 40) (omega arith))

  -- a direction in which both edges are level is zero
  pub level-zero : value d a ≡ value d p → value d c ≡ value d p → d ≡ origin
  unfolding turn value
  level-zero e f = point-path (zero-factor t across) (zero-factor t along)
    where
      across : turn a p c *ℤ d.x ≡ pos 0
      across = lia (d.x ∷ d.y ∷ a.x ∷ a.y ∷ p.x ∷ p.y ∷ c.x ∷ c.y ∷ [])
          (e ≡× (c.y -ℤ p.y) & f ≡× (p.y -ℤ a.y)) (search linear depth 40) (omega arith)

      along : turn a p c *ℤ d.y ≡ pos 0
      along = lia (d.x ∷ d.y ∷ a.x ∷ a.y ∷ p.x ∷ p.y ∷ c.x ∷ c.y ∷ [])
          (e ≡× (c.x -ℤ p.x) & f ≡× (p.x -ℤ a.x)) (search linear depth 40) (omega arith)

  -- and one of them is below 0, since not both edges are level
  sector-strict : NonZero d → pos 0 <ℤ turn a p x → pos 0 <ℤ turn p c x → value d x <ℤ value d p
  sector-strict n h k = contra< (λ g. go g (lt-or-le (value d a) (value d p)) (lt-or-le (value d c) (value d p)))
    where
      go : value d p ≤ℤ value d x → (value d a <ℤ value d p) ⊎ (value d p ≤ℤ value d a)
          → (value d c <ℤ value d p) ⊎ (value d p ≤ℤ value d c) → ⊥
      go g (inl l) r = lia (turn a p c ∷ turn a p x ∷ turn p c x ∷ value d x ∷ value d p ∷ value d a ∷ value d c ∷ [])
          (sector d a p c x & t <×≤ g & h <×≤ after & k <×< l) (search linear depth 40) (omega arith)
      go g (inr l) (inl r) = lia (turn a p c ∷ turn a p x ∷ turn p c x ∷ value d x ∷ value d p ∷ value d a ∷ value d c ∷ [])
          (sector d a p c x & t <×≤ g & h <×< r & k <×≤ before) (search linear depth 40) (omega arith)
      go g (inr l) (inr r) = n.non_zero (level-zero (le_antisym before l) (le_antisym after r))

-- ---- a polygon, at the corner that is furthest

-- a corner that is furthest, with the edge that leads to it
record Furthest (ps : List Point) (d : Point) : Type 0 where
  before : ℕ
  before-in : before < length ps
  is-furthest : value d (corner ps (next (length ps) before)) ≡ support d ps

furthest : (ps : List Point) (d : Point) → 0 < length ps → Furthest ps d
furthest ps d some =
    let top = support-attained d ps some in
    let (i, h, e) = member-position top.at_in in
    let (j, k, r) = preceding (length ps) i h in
    record { before = j; before-in = k; is-furthest = rw r (ap (value d) e ∙ top.at_value) }

module _ (ps : List Point) (s : IsShape ps) (three : 2 < length ps) (d x : Point) where
  abbrev top : Furthest ps d
  top = furthest ps d s.some

  abbrev at : ℕ
  at = next (length ps) top.before

  at_in : at < length ps
  at_in = next-below (length ps) top.before top.before-in

  no-further : (j : ℕ) → j < length ps → value d (corner ps j) ≤ℤ value d (corner ps at)
  no-further j h = rw top.is-furthest (value-le-support d (position-member ps j h))

  -- the edges at the furthest corner fall in the direction on both sides
  pub left→reached : ((e : ℕ) → e < length ps → pos 0 ≤ℤ turn (corner ps e) (corner ps (next (length ps) e)) x)
      → value d x ≤ℤ support d ps
  left→reached f = rw (← top.is-furthest) (sector-weak d _ _ _ x (next-left ps s three top.before top.before-in)
      (no-further top.before top.before-in) (no-further (next (length ps) at) (next-below (length ps) at at_in))
      (f top.before top.before-in) (f at at_in))

  pub left→passed : NonZero d → ((e : ℕ) → e < length ps → Left (corner ps e) (corner ps (next (length ps) e)) x)
      → value d x <ℤ support d ps
  left→passed n f = rw (← top.is-furthest) (sector-strict d _ _ _ x (next-left ps s three top.before top.before-in)
      (no-further top.before top.before-in) (no-further (next (length ps) at) (next-below (length ps) at at_in))
      n (f top.before top.before-in) (f at at_in))
