-- Only one direction in lowest terms has the widest gap. A direction with as wide a gap goes along the step between the two nearest points:
-- its value there is at least the gap, and not more than the length of both allows only if they are parallel.
--     as-wide-same     a direction with as wide a gap points the same way
--     widest-only      and in lowest terms it is the same direction
use Rattle.std.specs.Prelude.{◌≡◌, true, false, List, [], ◌∷◌, ℤ, pos, ◌+ℤ◌, ◌-ℤ◌, ◌*ℤ◌, ◌≤ℤ◌, ◌<ℤ◌}
use Rattle.std.proofs.Common.{arith}
use Rattle.integer.specs.Linear.{linear, lia, ◌&◌}
use Rattle.integer.specs.Order.{◌<×<◌, ◌<×≤◌, ◌≤×≤◌, ◌≡×◌, cancel, le_antisym, square-zero}
use Rattle.plane.specs.Point.{Point}
use Rattle.plane.specs.Turn.{cross}
use Rattle.plane.specs.Shape.{IsShape}
use Rattle.plane.specs.Direction.{value, support, SameWay}
use Rattle.plane.specs.Furthest.{common_divisor}
use Rattle.plane.specs.Separation.{apart}
use Rattle.plane.specs.Mean.{weight, gap, share}
use Rattle.plane.specs.Clearance.{top, bottom, nearest}
use Rattle.plane.specs.Forms.{NonZero}
use Rattle.plane.proofs.theory.forms.Vector.{square-positive}
use Rattle.plane.proofs.theory.forms.SameWay.{same-trans}
use Rattle.plane.proofs.theory.support.Support.{value-le-support}
use Rattle.plane.proofs.theory.direction.Primitive.{primitive-only}
use Rattle.clearance.specs.theory.Bound.{lagrange}
use Rattle.clearance.specs.theory.Means.{gap-value}
use Rattle.clearance.specs.theory.Attained.{Attained}
use Rattle.clearance.specs.theory.Nearest.{nearest-attained, nearest-is-whole}
use Rattle.strips.specs.Strip.{least, gap_in}
use Rattle.strips.specs.OwnDirection.{towards}
use Rattle.strips.proofs.theory.Spread.{least-le-value}
use Rattle.passage.specs.Corridor.{widest_of}
use Rattle.passage.proofs.theory.Widest.{step-some, widest-same, widest-some, widest-clearance, none-wider, widest-positive}
use Rattle.passage.specs.Corridor.{widest_of}
use Rattle.passage.proofs.theory.Widest.{not-level}

-- ---- two directions along one vector

record Along (d s : Point) : Type 0 where
  level : cross d s ≡ pos 0
  forward : pos 0 <ℤ value d s

along-same : {d e s : Point} → Along d s → Along e s → SameWay d e
unfolding value cross
along-same {d} {e} {s} p q = record {
  m = value e s;
  n = value d s;
  m-above = q.forward;
  n-above = p.forward;
  along-x = lia (d.x ∷ d.y ∷ e.x ∷ e.y ∷ s.x ∷ s.y ∷ []) (p.level ≡× e.y & q.level ≡× d.y) (search linear depth 40) (omega arith);
  along-y = lia (d.x ∷ d.y ∷ e.x ∷ e.y ∷ s.x ∷ s.y ∷ []) (p.level ≡× e.x & q.level ≡× d.x) (search linear depth 40) (omega arith);
}

-- ---- the numbers: t the gap in a direction, N its squared length; g and c the parts of the step along it and across it, times h, and S
-- the step's square; x/y the squared distance

module _ (t N g c h S x y : ℤ) (some : pos 0 <ℤ t) (far : (t *ℤ h) ≤ℤ g) (share-some : pos 0 <ℤ h) (whole : pos 0 <ℤ y)
    (schwarz : g *ℤ g +ℤ c *ℤ c ≡ N *ℤ S) (exact : x *ℤ (h *ℤ h) ≡ y *ℤ S) (wide : t *ℤ t *ℤ y ≡ x *ℤ N) where
  past : pos 0 <ℤ (t *ℤ h)
  past = lia (t ∷ h ∷ []) (some <×< share-some) (search linear depth 40) (omega arith)

  ahead : pos 0 <ℤ g
  ahead = lia ((t *ℤ h) ∷ g ∷ []) (past & far) (search linear depth 40) (omega arith)

  squares : t *ℤ h *ℤ (t *ℤ h) ≡ N *ℤ S
  squares = cancel whole (lia (t ∷ h ∷ N ∷ S ∷ x ∷ y ∷ []) (wide ≡× (h *ℤ h) & exact ≡× N) (search linear depth 40) (omega arith))

  straight : c ≡ pos 0
  straight = square-zero (lia ((t *ℤ h) ∷ g ∷ c ∷ N ∷ S ∷ []) (schwarz & squares & far ≤×≤ far & past <×≤ far)
      (search linear depth 40) (omega arith))

-- g·g/D is t·t/N, which is x/y
same-wide : (g D t N x y : ℤ) → pos 0 <ℤ N → g *ℤ g *ℤ N ≡ t *ℤ t *ℤ D → t *ℤ t *ℤ y ≡ x *ℤ N → g *ℤ g *ℤ y ≡ x *ℤ D
same-wide g D t N x y long same at = cancel long (lia (g ∷ D ∷ t ∷ N ∷ x ∷ y ∷ []) (same ≡× y & at ≡× D)
    (search linear depth 40) (omega arith))

module _ (A B : List Point) (s : IsShape A) (t : IsShape B) (h : apart A B ≡ true) where
  abbrev n : Point
  n = widest_of A B

  nearest-two : Attained A B (nearest A B)
  nearest-two = nearest-attained A B s t h

  abbrev step : Point
  step = gap nearest-two.one A nearest-two.other B

  shared : pos 0 <ℤ share nearest-two.one A nearest-two.other B
  shared = lia (weight nearest-two.one A ∷ weight nearest-two.other B ∷ []) (nearest-two.one-point <×< nearest-two.other-point)
      (search linear depth 40) (omega arith)

  step-far : (d : Point) → (gap_in d A B *ℤ share nearest-two.one A nearest-two.other B) ≤ℤ value d step
  unfolding gap_in
  step-far d = gap-value A B d (support d B) (least d A -ℤ support d B)
      (λ p l. lia (support d B ∷ least d A ∷ value d p ∷ []) (least-le-value d A l) (search linear depth 40) (omega arith))
      (λ p l. value-le-support d l) nearest-two.one nearest-two.other

  wide-along : (d : Point) → pos 0 <ℤ gap_in d A B
      → gap_in d A B *ℤ gap_in d A B *ℤ bottom A B (nearest A B) ≡ top A B (nearest A B) *ℤ value d d → Along d step
  wide-along d some wide = record {
    level = straight (gap_in d A B) (value d d) (value d step) (cross d step) (share nearest-two.one A nearest-two.other B)
        (value step step) (top A B (nearest A B)) (bottom A B (nearest A B)) some (step-far d) shared (nearest-is-whole A B s t h)
        (lagrange d step) nearest-two.exact wide;
    forward = ahead (gap_in d A B) (value d d) (value d step) (cross d step) (share nearest-two.one A nearest-two.other B)
        (value step step) (top A B (nearest A B)) (bottom A B (nearest A B)) some (step-far d) shared (nearest-is-whole A B s t h)
        (lagrange d step) nearest-two.exact wide;
  }

  module _ (d : Point) (some : NonZero d) (low : pos 0 ≤ℤ gap_in d A B)
      (wide : (gap_in n A B *ℤ gap_in n A B *ℤ value d d) ≤ℤ (gap_in d A B *ℤ gap_in d A B *ℤ value n n)) where
    pub as-wide-same : SameWay d n
    as-wide-same = along-same (wide-along d (not-level (gap_in n A B) (value n n) (gap_in d A B) (value d d)
        (widest-positive A B s t h) (square-positive d some) low wide) (same-wide (gap_in d A B) (value d d) (gap_in n A B) (value n n)
        (top A B (nearest A B)) (bottom A B (nearest A B)) (square-positive n (widest-some A B s t h))
        (le_antisym (none-wider A B s t h d some low) wide) (widest-clearance A B s t h)))
        (wide-along n (widest-positive A B s t h) (widest-clearance A B s t h))

    pub widest-only : common_divisor d ≡ false → d ≡ n
    widest-only lowest = primitive-only (towards A B (nearest A B)) d (step-some A B s t h) lowest
        (same-trans as-wide-same (widest-same A B s t h))
