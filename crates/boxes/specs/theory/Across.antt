-- A direction along an edge of the shape or across one has no smaller box than the best edge.
--     NoSmaller ps d       the box in d, squared and over the squared length of d, is at least (T+S)·(T+S)/Q
--     best-long            Q is above 0
--     tied-no-smaller      where two corners are furthest in d, d points across the edge between them
use Rattle.std.specs.Prelude.{◌≡◌, List, ℕ, ◌<◌, pos, ◌*ℤ◌, length, ◌≤ℤ◌, ◌<ℤ◌}
use Rattle.std.proofs.Common.{◌∙◌}
use Rattle.plane.specs.Point.{Point, corner, ◌∈◌}
use Rattle.plane.specs.Turn.{cross}
use Rattle.plane.specs.Shape.{next, IsShape}
use Rattle.plane.specs.Direction.{value}
use Rattle.plane.specs.Measure.{edge_squared}
use Rattle.measure.specs.theory.Fractions.{fraction-trans}
use Rattle.measure.specs.theory.Height.{edge_squared-positive}
use Rattle.strips.specs.OwnDirection.{out_of}
use Rattle.strips.proofs.theory.Outermost.{cross-outward, tied-edge}
use Rattle.strips.proofs.theory.Edges.{out-squared}
use Rattle.boxes.specs.Box.{around, half_round, box_edge}
use Rattle.boxes.specs.theory.Least.{no_larger-le, box-leading}
use Rattle.boxes.specs.theory.Around.{around-edge, parallel-around}

-- (T+S)·(T+S)/Q is at most the box in d, squared, over the squared length of d
abbrev pub NoSmaller : List Point → Point → Type 0
NoSmaller ps d = (half_round ps (box_edge ps) *ℤ half_round ps (box_edge ps) *ℤ value d d)
    ≤ℤ (around d ps *ℤ around d ps *ℤ edge_squared ps (box_edge ps))

-- ---- along or across an edge

module _ (ps : List Point) (s : IsShape ps) (three : 2 < length ps) where
  best-in : box_edge ps < length ps
  best-in = (box-leading ps s three).among

  pub best-long : pos 0 <ℤ edge_squared ps (box_edge ps)
  best-long = edge_squared-positive ps s three (box_edge ps) best-in

  across-no-smaller : (n : Point) (e : ℕ) → e < length ps → cross (out_of ps e) n ≡ pos 0 → pos 0 <ℤ value n n → NoSmaller ps n
  across-no-smaller n e h level some =
      let best = half_round ps (box_edge ps) in
      let half = half_round ps e in
      fraction-trans (best *ℤ best) (half *ℤ half) (around n ps *ℤ around n ps) (edge_squared ps (box_edge ps)) (edge_squared ps e)
      (value n n)
      best-long long some (no_larger-le ps (box_edge ps) e ((box-leading ps s three).least e h))
      (rw (← around-edge ps s e h, ← out-squared ps s e h)
      (parallel-around ps s.some (out_of ps e) n level (rw (out-squared ps s e h) long)))
    where
      long : pos 0 <ℤ edge_squared ps e
      long = edge_squared-positive ps s three e h

  -- two different corners furthest in n: they are neighbours, and n points across the edge between them
  pub tied-no-smaller : (n : Point) {a b : Point} → a ∈ ps → b ∈ ps → (a ≡ b → ⊥) → pos 0 <ℤ value n n
      → ((p : Point) → p ∈ ps → value n p ≤ℤ value n a) → ((p : Point) → p ∈ ps → value n p ≤ℤ value n b) → NoSmaller ps n
  tied-no-smaller n a_in b-in other some top also = tied-edge ps s n a_in b-in other some top also (λ i h level furthest.
      across-no-smaller n i h (cross-outward n (corner ps i) (corner ps (next (length ps) i)) ∙ level) some)
