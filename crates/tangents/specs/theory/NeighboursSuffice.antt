-- A corner of a shape that neither neighbour draws away is drawn away by no corner.
--     neighbours-rest     Rests, from the corner before and the corner after
--     better-rests        the same of the corner between them: what a step of the walk has found
-- The idea: the step from corner p to any other is a sum of the steps to its two neighbours, each taken 0 or more times
-- (`sector`); what no part of a sum does, the sum does not.
use Rattle.std.specs.Prelude.{◌≡◌, refl, Bool, true, false, List, [], ◌∷◌, ◌⊎◌, ℕ, ◌≤◌, ◌<◌, ltb, ℤ, pos, ◌+ℤ◌, ◌-ℤ◌, ◌*ℤ◌, length, ◌≤ℤ◌}
use Rattle.std.specs.Prelude.{◌<ℤ◌}
use Rattle.std.proofs.Common.{◌∙◌, ap, subst, inl, inr, arith, ltb-true, ltb-false}
use Rattle.integer.specs.Ring.{ring, reify}
use Rattle.integer.specs.Linear.{linear, lia, ◌&◌}
use Rattle.integer.specs.Order.{◌<×<◌, ◌≤×≤◌, ◌<×≤◌, ◌≡×◌, contra≤, le_antisym, lt-or-le}
use Rattle.plane.specs.Point.{Point, corner}
use Rattle.plane.specs.Turn.{turn, Left}
use Rattle.plane.specs.Shape.{next, IsShape}
use Rattle.plane.specs.Direction.{value}
use Rattle.plane.specs.Tangent.{sign_of}
use Rattle.plane.proofs.theory.lists.Next.{next-below, one-or-next}
use Rattle.plane.proofs.theory.sum.Positions.{edge-turn, next-left}
use Rattle.separation.specs.theory.Sector.{sector}
use Rattle.tangents.specs.Draws.{draws, Facing, Rests}
use Rattle.tangents.specs.theory.Sides.{sign_zero}
use Rattle.tangents.specs.theory.DrawsTest.{Rises, Stays, draws→stays, stays→draws}
use Rattle.tangents.specs.theory.DrawsOrder.{draws-self}

-- ---- the sector at p between the edges from a and to c

-- x - p, written by the two edges, against the line from p to q
sector-turn : (a p c q x : Point) → turn a p c *ℤ turn p q x ≡ turn a p x *ℤ turn p q c +ℤ turn p c x *ℤ turn p q a
unfolding turn
sector-turn a p c q x =
    ring (a.x ∷ a.y ∷ p.x ∷ p.y ∷ c.x ∷ c.y ∷ q.x ∷ q.y ∷ x.x ∷ x.y ∷ []) (search reify depth 40) tt

-- k steps to a neighbour that is not ahead, if any of them leave the line
part : {k z : ℤ} (s : Bool) (e : ℤ) → pos 0 ≤ℤ k → pos 0 ≤ℤ (sign_of s *ℤ z) → (sign_of s *ℤ (k *ℤ z)) ≤ℤ pos 0
    → (z ≡ pos 0 → e ≤ℤ pos 0) → (k *ℤ e) ≤ℤ pos 0
part {k} {z} s e some h flat near = go (lt-or-le (pos 0) k)
  where
    go : (pos 0 <ℤ k) ⊎ (k ≤ℤ pos 0) → (k *ℤ e) ≤ℤ pos 0
    go (inr none) = lia (k ∷ e ∷ []) (le_antisym none some ≡× e) (search linear depth 40) (omega arith)
    go (inl more) =
        let none : (sign_of s *ℤ z) ≤ℤ pos 0 =
        contra≤ (λ g. lia (sign_of s ∷ k ∷ z ∷ []) (more <×< g & flat) (search linear depth 40) (omega arith)) in
        let level = near (sign_zero s h none) in
        lia (k ∷ e ∷ []) (more <×≤ level) (search linear depth 40) (omega arith)

module _ {s : Bool} {d a p c q : Point} (x : Point) (bend : Left a p c) (left : pos 0 ≤ℤ turn a p x) (right : pos 0 ≤ℤ turn p c x)
    (before : Stays s d p q a) (after : Stays s d p q c) where
  sector-side : pos 0 ≤ℤ (sign_of s *ℤ turn p q x)
  sector-side = contra≤ (λ g. lia
      (sign_of s ∷ turn a p c ∷ turn p q x ∷ turn a p x ∷ turn p q c ∷ turn p c x ∷ turn p q a ∷ [])
      (sector-turn a p c q x ≡× sign_of s & bend <×< g & left ≤×≤ after.side & right ≤×≤ before.side)
      (search linear depth 40) (omega arith))

  module _ (e : turn p q x ≡ pos 0) where
    -- both parts are on the line
    part-after : (turn a p x *ℤ (value d c -ℤ value d p)) ≤ℤ pos 0
    part-after = part s _ left after.side flat near
      where
        flat : (sign_of s *ℤ (turn a p x *ℤ turn p q c)) ≤ℤ pos 0
        flat = lia (sign_of s ∷ turn a p c ∷ turn p q x ∷ turn a p x ∷ turn p q c ∷ turn p c x ∷ turn p q a ∷ [])
            (sector-turn a p c q x ≡× sign_of s & e ≡× (turn a p c *ℤ sign_of s) & right ≤×≤ before.side)
            (search linear depth 40) (omega arith)

        near : turn p q c ≡ pos 0 → (value d c -ℤ value d p) ≤ℤ pos 0
        near f = lia (value d c ∷ value d p ∷ []) (after.near f) (search linear depth 40) (omega arith)

    part-before : (turn p c x *ℤ (value d a -ℤ value d p)) ≤ℤ pos 0
    part-before = part s _ right before.side flat near
      where
        flat : (sign_of s *ℤ (turn p c x *ℤ turn p q a)) ≤ℤ pos 0
        flat = lia (sign_of s ∷ turn a p c ∷ turn p q x ∷ turn a p x ∷ turn p q c ∷ turn p c x ∷ turn p q a ∷ [])
            (sector-turn a p c q x ≡× sign_of s & e ≡× (turn a p c *ℤ sign_of s) & left ≤×≤ after.side)
            (search linear depth 40) (omega arith)

        near : turn p q a ≡ pos 0 → (value d a -ℤ value d p) ≤ℤ pos 0
        near f = lia (value d a ∷ value d p ∷ []) (before.near f) (search linear depth 40) (omega arith)

    sector-near : value d x ≤ℤ value d p
    sector-near = contra≤ (λ g. lia (turn a p c ∷ turn a p x ∷ turn p c x ∷ value d x ∷ value d p ∷ value d a ∷ value d c ∷ [])
        (sector d a p c x & bend <×< g & part-after & part-before) (search linear depth 40) (omega arith))

  sector-stays : Stays s d p q x
  sector-stays = record { side = sector-side; near = sector-near }

-- ---- corners of a shape

module _ (s : Bool) (ps : List Point) (shape : IsShape ps) (q : Point) (facing : Facing ps q) (b : ℕ) (h : b < length ps) where
  -- the corner, and the one after it
  abbrev i : ℕ
  i = next (length ps) b

  within : i < length ps
  within = next-below (length ps) b h

  rise : Rises facing.direction (corner ps i) q
  rise = record { up = facing.below i within }

  module _ (before : draws s (corner ps i) q (corner ps b) ≡ false)
      (after : draws s (corner ps i) q (corner ps (next (length ps) i)) ≡ false) where
    neighbours-few : length ps ≤ 2 → (k : ℕ) → k < length ps → draws s (corner ps i) q (corner ps k) ≡ false
    neighbours-few l k m = go (one-or-next (length ps) i k l within m)
      where
        go : (k ≡ i) ⊎ (k ≡ next (length ps) i) → draws s (corner ps i) q (corner ps k) ≡ false
        go (inl e) = ap (λ j. draws s (corner ps i) q (corner ps j)) e ∙ draws-self s (corner ps i) q
        go (inr e) = ap (λ j. draws s (corner ps i) q (corner ps j)) e ∙ after

    neighbours-many : 2 < length ps → (k : ℕ) → k < length ps → draws s (corner ps i) q (corner ps k) ≡ false
    neighbours-many l k m = stays→draws s (corner ps k) rise
        (sector-stays (corner ps k) (next-left ps shape l b h) (edge-turn ps shape b k h m) (edge-turn ps shape i k within m)
        (draws→stays s _ rise before) (draws→stays s _ rise after))

    pub neighbours-rest : Rests s ps i q
    neighbours-rest = record { within = within; undrawn = go (ltb 2 (length ps)) refl }
      where
        go : (b : Bool) → ltb 2 (length ps) ≡ b → (k : ℕ) → k < length ps → draws s (corner ps i) q (corner ps k) ≡ false
        go true e = neighbours-many (ltb-true 2 (length ps) e)
        go false e = neighbours-few (ltb-false 2 (length ps) e)

-- ---- a step of the walk

pub better-rests : (s : Bool) (ps : List Point) → IsShape ps → (q : Point) → Facing ps q
    → (b i : ℕ) → b < length ps → next (length ps) b ≡ i
    → draws s (corner ps i) q (corner ps b) ≡ false → draws s (corner ps i) q (corner ps (next (length ps) i)) ≡ false → Rests s ps i q
better-rests s ps shape q facing b i h e before after =
    subst (λ j. Rests s ps j q) e (neighbours-rest s ps shape q facing b h (rw e before) (rw e after))
