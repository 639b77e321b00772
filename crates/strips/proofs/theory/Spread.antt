-- The least value of a direction over a list, and the spread of its values. A list with a point is one with 0 < length.
--     least-le-value, least-attained     no point is below it; some point has it
--     spread-above, spread-attained      no two values are further apart; two points are so far apart
--     spread-nonneg                      it is not below 0
--     spread-turned                      the opposite direction has the same spread
use Rattle.std.specs.Prelude.{◌≡◌, List, [], ◌∷◌, ◌<◌, pos, ◌-ℤ◌, length, ◌≤ℤ◌}
use Rattle.std.proofs.Common.{arith}
use Rattle.integer.specs.Ring.{ring, reify}
use Rattle.integer.specs.Linear.{linear, lia, ◌&◌}
use Rattle.plane.specs.Point.{Point, opposite, ◌∈◌}
use Rattle.plane.specs.Direction.{value, support}
use Rattle.plane.proofs.theory.forms.Vector.{value-turned, opposite-opposite}
use Rattle.plane.proofs.theory.support.Support.{value-le-support, support-attained}
use Rattle.strips.specs.Strip.{least, spread}

module _ (d : Point) (ps : List Point) where
  pub least-le-value : {p : Point} → p ∈ ps → least d ps ≤ℤ value d p
  unfolding least
  least-le-value {p} m = lia (support (opposite d) ps ∷ value (opposite d) p ∷ value d p ∷ [])
      (value-le-support (opposite d) m & value-turned d p) (search linear depth 40) (omega arith)

  pub least-attained : 0 < length ps → (p : Point) × p ∈ ps × (value d p ≡ least d ps)
  unfolding least
  least-attained some =
      let r = support-attained (opposite d) ps some in (
        r.at,
        r.at_in,
        lia (support (opposite d) ps ∷ value (opposite d) r.at ∷ value d r.at ∷ [])
            (r.at_value & value-turned d r.at) (search linear depth 40) (omega arith),
      )

  pub spread-above : {a b : Point} → a ∈ ps → b ∈ ps → (value d a -ℤ value d b) ≤ℤ spread d ps
  unfolding spread
  spread-above {a} {b} m n = lia (value d a ∷ value d b ∷ support d ps ∷ least d ps ∷ [])
      (value-le-support d m & least-le-value n) (search linear depth 40) (omega arith)

  pub spread-attained : 0 < length ps → (a : Point) × (b : Point) × a ∈ ps × b ∈ ps × (value d a -ℤ value d b ≡ spread d ps)
  unfolding spread
  spread-attained some =
      let top = support-attained d ps some in
      let low = least-attained some in (
        top.at,
        low.0,
        top.at_in,
        low.1,
        lia (value d top.at ∷ value d low.0 ∷ support d ps ∷ least d ps ∷ [])
            (top.at_value & low.2) (search linear depth 40) (omega arith),
      )

  pub spread-nonneg : 0 < length ps → pos 0 ≤ℤ spread d ps
  spread-nonneg some =
      let top = support-attained d ps some in
      lia (value d top.at ∷ spread d ps ∷ []) (spread-above top.at_in top.at_in) (search linear depth 40) (omega arith)

  pub spread-turned : spread (opposite d) ps ≡ spread d ps
  unfolding spread least
  spread-turned = rw (opposite-opposite d) (ring (support d ps ∷ support (opposite d) ps ∷ []) (search reify depth 40) tt)
