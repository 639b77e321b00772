-- Of the pairs of points on one line, from a point of one list to a point of another, the nearest is the one drawn away at neither end.
--     nearest-same   a pair on the line that starts no later and ends no earlier, and is as near, is the same pair
-- The lines rise in a direction d.
use Rattle.std.specs.Prelude.{◌≡◌, [], ◌∷◌, ℤ, pos, ◌+ℤ◌, ◌-ℤ◌, ◌*ℤ◌, ◌≤ℤ◌, ◌<ℤ◌}
use Rattle.std.proofs.Common.{ap, arith}
use Rattle.integer.specs.Linear.{linear, lia, ◌&◌}
use Rattle.integer.specs.Order.{◌<×<◌, ◌≤×≤◌, ◌≡×◌, contra≤, le_antisym, square-nonneg}
use Rattle.plane.specs.Point.{Point, opposite, ◌⊖◌}
use Rattle.plane.specs.Turn.{turn, turn-swap}
use Rattle.plane.specs.Direction.{value}
use Rattle.plane.specs.Measure.{squared}
use Rattle.plane.proofs.theory.forms.Vector.{value-turned}
use Rattle.plane.proofs.theory.forms.Squared.{squared-value}
use Rattle.tangents.specs.theory.DrawsTest.{Rises, rise-gap, rise-positive, rise-back}
use Rattle.tangents.specs.theory.DrawsOrder.{across-line, on-line-same}

squares : (k k' : ℤ) (u v : Point) → k *ℤ v.x ≡ k' *ℤ u.x → k *ℤ v.y ≡ k' *ℤ u.y → k *ℤ k *ℤ value v v ≡ k' *ℤ k' *ℤ value u u
unfolding value
squares k k' u v e f = lia (k ∷ k' ∷ u.x ∷ u.y ∷ v.x ∷ v.y ∷ [])
    (ap (λ z. z *ℤ z) e & ap (λ z. z *ℤ z) f) (search linear depth 40) (omega arith)

-- of two lengths in line, what rises no less is no shorter
no_longer : (k k' : ℤ) {m n : ℤ} → pos 0 <ℤ k → pos 0 <ℤ k' → pos 0 <ℤ m → n ≤ℤ m → k *ℤ k *ℤ n ≡ k' *ℤ k' *ℤ m → k' ≤ℤ k
no_longer k k' {m} {n} a b c h e = contra≤ (λ g.
    let both : pos 0 <ℤ (k +ℤ k') = lia (k ∷ k' ∷ []) (a & b) (search linear depth 40) (omega arith) in
    lia (k ∷ k' ∷ m ∷ n ∷ []) (e & (g <×< both) <×< c & square-nonneg k ≤×≤ h) (search linear depth 40) (omega arith))

module _ {d p q p' q' : Point} (pq : Rises d p q) (p'q' : Rises d p' q') (e : turn p q p' ≡ pos 0) (f : turn p q q' ≡ pos 0) where
  scaled : (value d q -ℤ value d p) *ℤ (value d q -ℤ value d p) *ℤ squared p' q'
      ≡ (value d q' -ℤ value d p') *ℤ (value d q' -ℤ value d p') *ℤ squared p q
  scaled = rw (squared-value p q, squared-value p' q')
      (squares (value d q -ℤ value d p) (value d q' -ℤ value d p') (q ⊖ p) (q' ⊖ p') part-x part-y)
    where
      part-x : (value d q -ℤ value d p) *ℤ (q'.x -ℤ p'.x) ≡ (value d q' -ℤ value d p') *ℤ (q.x -ℤ p.x)
      part-x = lia (value d p ∷ value d q ∷ value d p' ∷ value d q' ∷ turn p q p' ∷ turn p q q' ∷ d.y ∷ p.x ∷ q.x ∷ p'.x ∷ q'.x ∷ [])
          ((across-line d p q p').0 & (across-line d p q q').0 & e ≡× d.y & f ≡× d.y) (search linear depth 40) (omega arith)

      part-y : (value d q -ℤ value d p) *ℤ (q'.y -ℤ p'.y) ≡ (value d q' -ℤ value d p') *ℤ (q.y -ℤ p.y)
      part-y = lia (value d p ∷ value d q ∷ value d p' ∷ value d q' ∷ turn p q p' ∷ turn p q q' ∷ d.x ∷ p.y ∷ q.y ∷ p'.y ∷ q'.y ∷ [])
          ((across-line d p q p').1 & (across-line d p q q').1 & e ≡× d.x & f ≡× d.x) (search linear depth 40) (omega arith)

  pub nearest-same : value d p' ≤ℤ value d p → value d q ≤ℤ value d q' → squared p' q' ≤ℤ squared p q → (p' ≡ p) × (q' ≡ q)
  nearest-same start end h = (
    on-line-same p' pq e (le_antisym start (lia (value d p ∷ value d q ∷ value d p' ∷ value d q' ∷ [])
        (short & end) (search linear depth 40) (omega arith))),
    on-line-same q' (rise-back pq) (lia (turn p q q' ∷ turn q p q' ∷ []) (turn-swap p q q' & f) (search linear depth 40) (omega arith))
        (lia (value d p ∷ value d q ∷ value d p' ∷ value d q' ∷ value (opposite d) q ∷ value (opposite d) q' ∷ [])
        (short & start & end & value-turned d q & value-turned d q') (search linear depth 40) (omega arith)),
  )
    where
      length-positive : pos 0 <ℤ squared p q
      length-positive = rw (squared-value p q) (rise-positive pq)

      short : (value d q' -ℤ value d p') ≤ℤ (value d q -ℤ value d p)
      short = no_longer (value d q -ℤ value d p) (value d q' -ℤ value d p') (rise-gap pq) (rise-gap p'q') length-positive h scaled
