-- Half of the way round the box in a direction.
--     quarter-cross      two vectors turned by a quarter have the same product
--     around-quarter     the direction turned by a quarter has the same box
--     around-edge        of the direction out of an edge it is `half_round`
--     parallel-around    directions on one line have the same box: F·F/M is at most G·G/N, by the squared lengths M and N
use Rattle.std.specs.Prelude.{◌≡◌, ℕ, ◌<◌, ℤ, pos, neg_ℤ, ◌+ℤ◌, ◌*ℤ◌, length, ◌≤ℤ◌, ◌<ℤ◌}
use Rattle.std.proofs.Common.{◌∙◌, ap, ap₂, arith}
use mathlib.Core.List.{List, [], ◌∷◌}
use Rattle.integer.specs.Ring.{ring, reify}
use Rattle.integer.specs.Linear.{lia, linear, ◌&◌}
use Rattle.integer.specs.Order.{◌≤×≤◌, ◌≡×◌, cancel-le}
use Rattle.plane.specs.Point.{Point, corner, ◌⊖◌}
use Rattle.plane.specs.Turn.{cross}
use Rattle.plane.specs.Shape.{next, IsShape}
use Rattle.plane.specs.Cut.{quarter, outward}
use Rattle.plane.specs.Direction.{value}
use Rattle.plane.proofs.theory.lists.Members.{point-path}
use Rattle.plane.proofs.theory.forms.Vector.{value-nonneg}
use Rattle.clearance.specs.theory.Bound.{lagrange}
use Rattle.strips.specs.Strip.{spread}
use Rattle.strips.specs.OwnDirection.{out_of}
use Rattle.strips.proofs.theory.Spread.{spread-above, spread-attained, spread-turned}
use Rattle.strips.proofs.theory.Parallel.{parallel-value}
use Rattle.strips.proofs.theory.Edges.{out-spread}
use Rattle.boxes.specs.Box.{around, along, half_round}

pub quarter-squared : (d : Point) → value (quarter d) (quarter d) ≡ value d d
unfolding value
quarter-squared d = ring (d.x ∷ d.y ∷ []) (search reify depth 40) tt

quarter-value : (m n : Point) → value (quarter m) (quarter n) ≡ value m n
unfolding value
quarter-value m n = ring (m.x ∷ m.y ∷ n.x ∷ n.y ∷ []) (search reify depth 40) tt

pub quarter-cross : (m n : Point) → cross (quarter m) (quarter n) ≡ cross m n
unfolding cross
quarter-cross m n = ring (m.x ∷ m.y ∷ n.x ∷ n.y ∷ []) (search reify depth 40) tt

-- turned twice it points the other way, and has the same spread
pub around-quarter : (d : Point) (ps : List Point) → around (quarter d) ps ≡ around d ps
unfolding around
around-quarter d ps = lia (spread d ps ∷ spread (quarter d) ps ∷ spread (quarter (quarter d)) ps ∷ []) (spread-turned d ps)
    (search linear depth 40) (omega arith)

quarter-outward : (a b : Point) → quarter (outward a b) ≡ b ⊖ a
quarter-outward a b = point-path (ring (a.x ∷ b.x ∷ []) (search reify depth 40) tt) (ring (a.y ∷ b.y ∷ []) (search reify depth 40) tt)

pub around-edge : (ps : List Point) → IsShape ps → (e : ℕ) → e < length ps → around (out_of ps e) ps ≡ half_round ps e
unfolding around half_round along
around-edge ps s e h = ap₂ (λ t s. t +ℤ s) (out-spread ps s e h)
    (ap (λ d. spread d ps) (quarter-outward (corner ps e) (corner ps (next (length ps) e))))

-- ---- directions on one line

-- c·c = M-as-N, and M-as-G is not below c·F, nor below it with its sign changed
squares : (M N c F G : ℤ) → pos 0 <ℤ M → c *ℤ c ≡ M *ℤ N → (c *ℤ F) ≤ℤ (M *ℤ G) → neg_ℤ (c *ℤ F) ≤ℤ (M *ℤ G)
    → (F *ℤ F *ℤ N) ≤ℤ (G *ℤ G *ℤ M)
squares M N c F G long e up down = cancel-le long (lia (M ∷ N ∷ c ∷ F ∷ G ∷ []) (up ≤×≤ down & e ≡× (F *ℤ F))
    (search linear depth 40) (omega arith))

module _ (ps : List Point) (some : 0 < length ps) (m n : Point) (level : cross m n ≡ pos 0) where
  -- the two corners that are furthest apart in m, taken in either order
  parallel-spread : ((value m n *ℤ spread m ps) ≤ℤ (value m m *ℤ spread n ps))
      × (neg_ℤ (value m n *ℤ spread m ps) ≤ℤ (value m m *ℤ spread n ps))
  parallel-spread =
      let (p, q, p-in, q-in, far) = spread-attained m ps some in
      let ρ = value m m ∷ value m n ∷ value n p ∷ value n q ∷ value m p ∷ value m q ∷ spread m ps ∷ spread n ps ∷ [] in
      let facts = parallel-value m n level p & parallel-value m n level q & far ≡× value m n in (
        lia ρ (facts & value-nonneg m ≤×≤ spread-above n ps p-in q-in) (search linear depth 40) (omega arith),
        lia ρ (facts & value-nonneg m ≤×≤ spread-above n ps q-in p-in) (search linear depth 40) (omega arith),
      )

module _ (ps : List Point) (some : 0 < length ps) (m n : Point) (level : cross m n ≡ pos 0) (long : pos 0 <ℤ value m m) where
  pub parallel-around : (around m ps *ℤ around m ps *ℤ value n n) ≤ℤ (around n ps *ℤ around n ps *ℤ value m m)
  unfolding around
  parallel-around =
      let one = parallel-spread ps some m n level in
      let other = rw (quarter-value m m, quarter-value m n) at
      (parallel-spread ps some (quarter m) (quarter n) (quarter-cross m n ∙ level)) in
      let ρ = value m m ∷ value m n ∷ spread m ps ∷ spread n ps ∷ spread (quarter m) ps ∷ spread (quarter n) ps ∷ [] in
      squares (value m m) (value n n) (value m n) (around m ps) (around n ps) long
      (lia (value m m ∷ value m n ∷ value n n ∷ cross m n ∷ []) (lagrange m n & level ≡× cross m n) (search linear depth 40) (omega arith))
      (lia ρ (one.0 & other.0) (search linear depth 40) (omega arith))
      (lia ρ (one.1 & other.1) (search linear depth 40) (omega arith))
