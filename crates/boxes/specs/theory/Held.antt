-- What the corners that the calipers hold say of the box.
--     held-along       the step from the corner furthest back to the one furthest along the edge has the spread as its value
--     first-climbs     from corner 1 they may be closed on edge 0, but for the one that is furthest back
--     turned-back      that one from where the corner furthest from the edge is
--     holds-closing    closed on an edge they may be closed on the next
use Rattle.std.specs.Prelude.{◌≡◌, List, [], ◌∷◌, ℕ, ◌+◌, ◌<◌, ℤ, pos, length, ◌≤ℤ◌, ◌<ℤ◌}
use Rattle.std.proofs.Common.{subst, arith}
use Rattle.std.specs.Int.Signed.{≤ℤ_refl}
use Rattle.integer.specs.Ring.{ring, reify}
use Rattle.integer.specs.Linear.{lia, linear, ◌&◌}
use Rattle.plane.specs.Cut.{quarter}
use Rattle.plane.specs.Point.{Point, points, corner, opposite, ◌⊖◌}
use Rattle.plane.specs.Refusal.{Valid}
use Rattle.plane.specs.Shape.{next, IsShape}
use Rattle.plane.specs.Turn.{cross}
use Rattle.plane.specs.Direction.{value, support}
use Rattle.plane.specs.Face.{Furthest}
use Rattle.plane.proofs.theory.forms.Vector.{turn-edges, cross-opposite, value-⊖, value-turned, value-nonneg}
use Rattle.plane.proofs.theory.lists.Next.{next-on}
use Rattle.plane.proofs.theory.sum.Positions.{edge_of, next-left}
use Rattle.measure.specs.theory.Height.{edge_squared-value, edge_squared-positive}
use Rattle.strips.specs.Strip.{least, spread}
use Rattle.boxes.specs.declared.jaws.Jaws.{Jaws}
use Rattle.boxes.specs.Scan.{Climbs, Holds, Closing}
use Rattle.boxes.specs.theory.Around.{quarter-cross}
use Rattle.boxes.specs.theory.Climb.{climbed, climbs-turned}

pub held-along : {d : Point} {ps : List Point} {f g : ℕ} → Furthest d ps f → Furthest (opposite d) ps g
    → spread d ps ≡ value d (corner ps f ⊖ corner ps g)
unfolding spread least
held-along {d} {ps} {f} {g} far near = lia (support d ps ∷ support (opposite d) ps ∷ value d (corner ps f) ∷ value d (corner ps g)
    ∷ value (opposite d) (corner ps g) ∷ value d (corner ps f ⊖ corner ps g) ∷ [])
    (far.has & near.has & value-turned d (corner ps g) & value-⊖ d (corner ps f) (corner ps g)) (search linear depth 40) (omega arith)

-- ---- the first edge

quarter-level : (d : Point) → value (quarter d) d ≡ pos 0
unfolding value
quarter-level d = ring (d.x ∷ d.y ∷ []) (search reify depth 40) tt

back-left : (d : Point) → cross (quarter d) (opposite d) ≡ value d d
unfolding cross value
back-left d = ring (d.x ∷ d.y ∷ []) (search reify depth 40) tt

module _ {ps : List Point} (s : IsShape ps) (three : 2 < length ps) where
  second : next (length ps) 0 ≡ 1
  second = next-on (length ps) 0 (λ q. omega (arith, three))

  from_first : (d : Point) → pos 0 ≤ℤ value d (edge_of ps 0) → Climbs d ps 1
  from_first d h = rw second at (climbed ps d s three 0 (omega (arith, three))
      (lia (value d (corner ps 0) ∷ value d (corner ps (next (length ps) 0)) ∷ value d (edge_of ps 0) ∷ [])
      (h & value-⊖ d (corner ps (next (length ps) 0)) (corner ps 0)) (search linear depth 40) (omega arith)))

  pub first-climbs : Climbs (quarter (edge_of ps 0)) ps 1 × Climbs (edge_of ps 0) ps 1
  first-climbs = (
    from_first (quarter (edge_of ps 0)) (rw (quarter-level (edge_of ps 0)) (≤ℤ_refl (pos 0))),
    from_first (edge_of ps 0) (value-nonneg (edge_of ps 0)),
  )

  module _ {e : ℕ} (h : e < length ps) where
    pub turned-back : {i : ℕ} → Furthest (quarter (edge_of ps e)) ps i → Climbs (opposite (edge_of ps e)) ps i
    turned-back = climbs-turned s three (rw (back-left (edge_of ps e), ← edge_squared-value ps e) (edge_squared-positive ps s three e h))

    -- ---- the next edge

    next-turns : pos 0 <ℤ cross (edge_of ps e) (edge_of ps (next (length ps) e))
    next-turns = rw turn-edges at (next-left ps s three e h)

pub holds-closing : {l : List ℤ} {e : ℕ} {j : Jaws} → Valid l → 2 < length (points l) → e + 1 < length (points l) → Holds (points l) e j
    → Closing l (e + 1) j
holds-closing {l} {e} {j} v three h holds = record {
  valid = v;
  three = three;
  edge_in = h;
  high-climbs = climbs-turned s three (rw (quarter-cross (edge_of ps e) (edge_of ps (e + 1))) turns) holds.high-furthest;
  far-climbs = climbs-turned s three turns holds.far-furthest;
  near-climbs = climbs-turned s three (rw (cross-opposite (edge_of ps e) (edge_of ps (e + 1))) turns) holds.near-furthest;
}
  where
    ps : List Point
    ps = points l

    s : IsShape ps
    s = v.shape

    on : next (length ps) e ≡ e + 1
    on = next-on (length ps) e (λ q. omega arith)

    turns : pos 0 <ℤ cross (edge_of ps e) (edge_of ps (e + 1))
    turns = let within : e < length ps = omega arith in
        subst (λ (k : ℕ). pos 0 <ℤ cross (edge_of ps e) (edge_of ps k)) on (next-turns s three within)
