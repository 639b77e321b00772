-- Two lines, from p to q and from p' to q', in a direction d in which p and p' are below q and q'.
--     level-turns    the height of one line over the other is affine: the turns of both starts give the turn of an end
--     one_line       if the turns of both starts have one sign, each against the other line, and those of both ends too, the lines are one
-- The idea: if turn p q p' and turn p' q' p have one sign, the height of the second line over the first changes its sign from p to p', or
-- is 0 there. It does so again from q to q', which are further in d. It is affine, so it is 0. No side is asked for: one argument for all
-- four kinds.
use Rattle.std.specs.Prelude.{◌≡◌, [], ◌∷◌, ℤ, pos, ◌+ℤ◌, ◌-ℤ◌, ◌*ℤ◌, ◌≤ℤ◌, ◌<ℤ◌}
use Rattle.std.proofs.Common.{ap₂, arith}
use Rattle.integer.specs.Ring.{ring, reify}
use Rattle.integer.specs.Linear.{linear, lia, ◌&◌}
use Rattle.integer.specs.Order.{◌<×<◌, ◌<×≤◌, ◌≤×≤◌, ◌≡×◌, contra≤, square-nonneg, square-zero}
use Rattle.plane.specs.Point.{Point}
use Rattle.plane.specs.Turn.{turn}
use Rattle.plane.specs.Direction.{value}
use Rattle.tangents.specs.theory.DrawsTest.{Rises}

-- the ends of either line against the other
four-turns : (p q p' q' : Point) → turn p q p' +ℤ turn p' q' p ≡ turn p q q' +ℤ turn p' q' q
unfolding turn
four-turns p q p' q' = ring (p.x ∷ p.y ∷ q.x ∷ q.y ∷ p'.x ∷ p'.y ∷ q'.x ∷ q'.y ∷ []) (search reify depth 40) tt

-- and weighted by how far the lines rise
pub level-turns : (d p q p' q' : Point)
    → (value d q' -ℤ value d p) *ℤ turn p q p' +ℤ (value d q -ℤ value d p) *ℤ turn p' q' p ≡ (value d p' -ℤ value d p) *ℤ turn p q q'
unfolding turn value
level-turns d p q p' q' =
    ring (d.x ∷ d.y ∷ p.x ∷ p.y ∷ q.x ∷ q.y ∷ p'.x ∷ p'.y ∷ q'.x ∷ q'.y ∷ []) (search reify depth 40) tt

squares-zero : {m n : ℤ} (x y : ℤ) → pos 0 <ℤ m → pos 0 <ℤ n → (m *ℤ (x *ℤ x) +ℤ n *ℤ (y *ℤ y)) ≤ℤ pos 0 → (x ≡ pos 0) × (y ≡ pos 0)
squares-zero {m} {n} x y a b h = (
  square-zero (contra≤ (λ g. lia (m ∷ n ∷ x ∷ y ∷ []) (h & a <×< g & b <×≤ square-nonneg y) (search linear depth 40) (omega arith))),
  square-zero (contra≤ (λ g. lia (m ∷ n ∷ x ∷ y ∷ []) (h & a <×≤ square-nonneg x & b <×< g) (search linear depth 40) (omega arith))),
)

-- a and c are the turns of the starts, b and f those of the ends. In the product of the two equations no term is of the wrong sign
module _ (a b c f : ℤ) {d0 d1 e0 e1 : ℤ} (pq : d0 <ℤ e0) (pq' : d0 <ℤ e1) (p'q : d1 <ℤ e0) (p'q' : d1 <ℤ e1)
    (one : (e1 -ℤ d0) *ℤ a +ℤ (e0 -ℤ d0) *ℤ c ≡ (d1 -ℤ d0) *ℤ b) (two : (e0 -ℤ d1) *ℤ c +ℤ (e1 -ℤ d1) *ℤ a ≡ (d0 -ℤ d1) *ℤ f)
    (starts : pos 0 ≤ℤ (a *ℤ c)) (ends : pos 0 ≤ℤ (b *ℤ f)) where
  starts-zero : (a ≡ pos 0) × (c ≡ pos 0)
  starts-zero = squares-zero a c (p'q' <×< pq') (p'q <×< pq) (lia (a ∷ b ∷ c ∷ f ∷ d0 ∷ d1 ∷ e0 ∷ e1 ∷ [])
      (ap₂ ◌*ℤ◌ one two & (p'q <×< pq') <×≤ starts & (p'q' <×< pq) <×≤ starts & square-nonneg (d1 -ℤ d0) ≤×≤ ends)
      (search linear depth 40) (omega arith))

module _ {d p q p' q' : Point} (pq : Rises d p q) (pq' : Rises d p q') (p'q : Rises d p' q) (p'q' : Rises d p' q')
    (starts : pos 0 ≤ℤ (turn p q p' *ℤ turn p' q' p)) (ends : pos 0 ≤ℤ (turn p q q' *ℤ turn p' q' q)) where
  pub one_line : (turn p q p' ≡ pos 0) × (turn p q q' ≡ pos 0)
  one_line = (
    flat.0,
    square-zero (lia (turn p q p' ∷ turn p' q' p ∷ turn p q q' ∷ turn p' q' q ∷ [])
        (ends & four-turns p q p' q' ≡× turn p q q' & flat.0 ≡× turn p q q' & flat.1 ≡× turn p q q')
        (search linear depth 40) (omega arith)),
  )
    where
      flat : (turn p q p' ≡ pos 0) × (turn p' q' p ≡ pos 0)
      flat = starts-zero (turn p q p') (turn p q q') (turn p' q' p) (turn p' q' q) pq.up pq'.up p'q.up p'q'.up
          (level-turns d p q p' q') (level-turns d p' q' p q) starts ends
