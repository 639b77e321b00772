-- Each point of the second list has a start of its own, where the line to it stays. Of these lines one goes furthest to the side of the
-- second list: its end stays as well.
--     end_stays    no other line draws away from the direction of the line from p to q: then no y draws its end away from q
-- u is the side of the second list, seen from its end of the line.
use Rattle.std.specs.Prelude.{◌≡◌, Bool, [], ◌∷◌, pos, ◌+ℤ◌, ◌-ℤ◌, ◌*ℤ◌, ◌≤ℤ◌, ◌<ℤ◌}
use Rattle.std.proofs.Common.{arith}
use Rattle.integer.specs.Ring.{ring, reify}
use Rattle.integer.specs.Linear.{linear, lia, ◌&◌}
use Rattle.integer.specs.Order.{◌<×<◌, ◌<×≤◌, ◌≤×≤◌, ◌≡×◌, contra≤, square-nonneg, square-zero}
use Rattle.plane.specs.Point.{Point, origin, opposite, ◌⊖◌}
use Rattle.plane.specs.Turn.{turn, turn-swap}
use Rattle.plane.specs.Direction.{value}
use Rattle.plane.specs.Tangent.{sign_of}
use Rattle.plane.proofs.theory.forms.Vector.{value-turned}
use Rattle.tangents.specs.theory.Sides.{same-side}
use Rattle.tangents.specs.theory.DrawsTest.{Rises, value-back, Stays, Drawn, across, ahead}
use Rattle.tangents.specs.theory.OneLine.{level-turns}

-- the turn of one direction against the other
sum-turns : (p q p' y : Point) → turn (q ⊖ p) origin (y ⊖ p') ≡ turn q p y +ℤ turn p q p'
unfolding turn
sum-turns p q p' y = ring (p.x ∷ p.y ∷ q.x ∷ q.y ∷ p'.x ∷ p'.y ∷ y.x ∷ y.y ∷ []) (search reify depth 40) tt

module _ {s u : Bool} {d p q p' y : Point} (pq : Rises d p q) (py : Rises d p y) (p'y : Rises d p' y)
    (one : Stays s d p q p') (two : Stays s d p' y p) (three : Stays u (opposite d) (q ⊖ p) origin (y ⊖ p')) where
  starts : pos 0 ≤ℤ (turn p q p' *ℤ turn p' y p)
  starts = same-side s _ _ one.side two.side

  module _ (k : (sign_of u *ℤ turn q p y) <ℤ pos 0) where
    -- both starts are on side u
    start-beside : pos 0 <ℤ (sign_of u *ℤ turn p q p')
    start-beside = lia (sign_of u ∷ turn p q p' ∷ turn (q ⊖ p) origin (y ⊖ p') ∷ turn q p y ∷ [])
        (sum-turns p q p' y ≡× sign_of u & three.side & k) (search linear depth 40) (omega arith)

    other-beside : pos 0 ≤ℤ (sign_of u *ℤ turn p' y p)
    other-beside = contra≤ (λ g. lia (sign_of u ∷ turn p q p' ∷ turn p' y p ∷ [])
        (start-beside <×< g & square-nonneg (sign_of u) ≤×≤ starts) (search linear depth 40) (omega arith))

    not-across : ⊥
    not-across = lia (sign_of u ∷ turn p q p' ∷ turn p' y p ∷ turn (q ⊖ p) origin (y ⊖ p') ∷ turn p q y ∷ turn q p y
        ∷ value d p ∷ value d q ∷ value d p' ∷ value d y ∷ [])
        (level-turns d p q p' y ≡× sign_of u & turn-swap p q y ≡× (sign_of u *ℤ (value d p' -ℤ value d p))
        & sum-turns p q p' y ≡× (sign_of u *ℤ (value d y -ℤ value d p))
        & py.up <×≤ three.side & pq.up <×≤ other-beside & p'y.up <×< k) (search linear depth 40) (omega arith)

  not-ahead : turn q p y ≡ pos 0 → value (opposite d) q <ℤ value (opposite d) y → ⊥
  not-ahead e k = lia (value d p ∷ value d q ∷ value d p' ∷ value d y ∷ value (opposite d) q ∷ value (opposite d) y
      ∷ value (opposite d) (q ⊖ p) ∷ value (opposite d) (y ⊖ p') ∷ [])
      (k & one.near flat & two.near flat' & three.near level & value-turned d q & value-turned d y
      & value-back d p q & value-back d p' y) (search linear depth 40) (omega arith)
    where
      on_line : turn p q y ≡ pos 0
      on_line = lia (turn p q y ∷ turn q p y ∷ []) (turn-swap p q y & e) (search linear depth 40) (omega arith)

      flat : turn p q p' ≡ pos 0
      flat = square-zero (contra≤ (λ g. lia
          (turn p q p' ∷ turn p' y p ∷ turn p q y ∷ value d p ∷ value d q ∷ value d p' ∷ value d y ∷ [])
          (level-turns d p q p' y ≡× turn p q p' & on_line ≡× (turn p q p' *ℤ (value d p' -ℤ value d p))
          & py.up <×< g & pq.up <×≤ starts) (search linear depth 40) (omega arith)))

      flat' : turn p' y p ≡ pos 0
      flat' = square-zero (contra≤ (λ g. lia
          (turn p q p' ∷ turn p' y p ∷ turn p q y ∷ value d p ∷ value d q ∷ value d p' ∷ value d y ∷ [])
          (level-turns d p q p' y ≡× turn p' y p & on_line ≡× (turn p' y p *ℤ (value d p' -ℤ value d p))
          & py.up <×≤ starts & pq.up <×< g) (search linear depth 40) (omega arith)))

      level : turn (q ⊖ p) origin (y ⊖ p') ≡ pos 0
      level = lia (turn p q p' ∷ turn (q ⊖ p) origin (y ⊖ p') ∷ turn q p y ∷ []) (sum-turns p q p' y & e & flat)
          (search linear depth 40) (omega arith)

  pub end_stays : Drawn u (opposite d) q p y → ⊥
  end_stays (across k) = not-across k
  end_stays (ahead e k) = not-ahead e k
