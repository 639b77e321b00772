-- Where a point and a shape are nearest.
--     Kind c O       the candidate: a corner of the shape, or an edge on which the point falls; never an edge of the point
--     point-kind     that of a point apart from the shape
use Rattle.std.specs.Prelude.{◌≡◌, true, List, [], ◌∷◌, ℕ, zero, suc, ◌<◌, pos, length}
use Rattle.std.proofs.Common.{arith}
use Rattle.integer.specs.Linear.{linear, lia, ◌&◌}
use Rattle.integer.specs.Ring.{ring, reify}
use Rattle.plane.specs.Point.{Point, corner}
use Rattle.plane.specs.Shape.{IsShape}
use Rattle.plane.specs.Measure.{squared}
use Rattle.plane.specs.Separation.{apart}
use Rattle.plane.specs.Clearance.{Candidate, corners, on_second, on_first, falls_on, nearest}
use Rattle.clearance.specs.Order.{Listed}
use Rattle.clearance.specs.theory.Bound.{foot-positive}
use Rattle.clearance.specs.theory.Nearest.{nearest-is-listed}
use Rattle.growth.proofs.theory.Places.{point-shape}

pub data Kind (c : Point) (O : List Point) : Candidate → Type 0 where
  at-corner : (j : ℕ) → j < length O → Kind c O (corners 0 j)
  at_edge : (e : ℕ) → e < length O → falls_on O e c ≡ true → Kind c O (on_second 0 e)

squared-self : (p : Point) → squared p p ≡ pos 0
unfolding squared
squared-self p = ring (p.x ∷ p.y ∷ []) (search reify depth 40) tt

no_edge : (c p : Point) (e : ℕ) → e < 1 → falls_on (c ∷ []) e p ≡ true → ⊥
no_edge c p zero h f = lia (squared c c ∷ []) (foot-positive c c p f & squared-self c) (search linear depth 40) (omega arith)
no_edge c p (suc e) h f = omega arith

listed-kind : (c : Point) (O : List Point) (s : Candidate) → Listed (c ∷ []) O s → Kind c O s
listed-kind c O (corners zero j) (h, k) = at-corner j k
listed-kind c O (corners (suc i) j) (h, k) = absurd (omega arith)
listed-kind c O (on_second zero e) (h, k, f) = at_edge e k f
listed-kind c O (on_second (suc i) e) (h, k, f) = absurd (omega arith)
listed-kind c O (on_first j e) (h, k, f) = absurd (no_edge c (corner O j) e k f)

pub point-kind : (c : Point) (O : List Point) → IsShape O → apart (c ∷ []) O ≡ true → Kind c O (nearest (c ∷ []) O)
point-kind c O s h = listed-kind c O (nearest (c ∷ []) O) (nearest-is-listed (c ∷ []) O (point-shape c) s h)
