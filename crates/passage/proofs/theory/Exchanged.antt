-- The obstacles change places: the direction across is turned round, and the room stays.
--     exchanged      the cart may still pass; the direction is the opposite one; the room and the free width are the same
-- Lists have a point: 0 < length.
use Rattle.std.specs.Prelude.{◌≡◌, refl, true, false, List, [], ◌∷◌, ℕ, zero, suc, ◌*◌, ◌<◌, ltb, ℤ, pos, negsuc, neg_ℤ, ◌*ℤ◌, length, ◌≤ℤ◌}
use Rattle.std.proofs.Common.{sym, ◌∙◌, ap}
use Rattle.std.proofs.Math.Path.{ap₂}
use Rattle.std.proofs.Math.IntN.{nat_abs}
use Rattle.integer.specs.Ring.{ring, reify}
use Rattle.integer.specs.Order.{weaken}
use Rattle.divisor.specs.Divisor.{gcd}
use Rattle.plane.specs.Point.{Point, opposite}
use Rattle.plane.specs.Shape.{IsShape}
use Rattle.plane.specs.Direction.{value, support}
use Rattle.plane.specs.Furthest.{common_divisor}
use Rattle.plane.specs.Measure.{root_below}
use Rattle.plane.specs.Separation.{apart}
use Rattle.plane.proofs.theory.forms.Vector.{opposite-opposite, opposite-non-zero}
use Rattle.plane.proofs.theory.direction.Primitive.{primitive-common}
use Rattle.separation.specs.theory.Apart.{apart-sym}
use Rattle.clearance.specs.theory.First.{turned-square}
use Rattle.strips.specs.Strip.{least, gap_in}
use Rattle.growth.specs.Grown.{grown}
use Rattle.growth.proofs.theory.Places.{grown-some, grown-shape}
use Rattle.passage.specs.Passage.{passable, across, room, free_width}
use Rattle.passage.specs.Corridor.{widest_of}
use Rattle.passage.proofs.theory.Widest.{step-some, widest-some, none-wider, widest-positive}
use Rattle.passage.proofs.theory.Only.{widest-only}
use Rattle.passage.proofs.theory.Room.{room-gap}

-- ---- the opposite direction

turned-gap : (A B : List Point) (d : Point) → gap_in (opposite d) B A ≡ gap_in d A B
unfolding gap_in least
turned-gap A B d = rw (opposite-opposite d) (ring (support (opposite d) A ∷ support d B ∷ []) (search reify depth 40) tt)

turned-size : (z : ℤ) → nat_abs (neg_ℤ z) ≡ nat_abs z
turned-size (pos zero) = refl
turned-size (pos (suc n)) = refl
turned-size (negsuc n) = refl

turned-common : (d : Point) → common_divisor (opposite d) ≡ common_divisor d
unfolding common_divisor
turned-common d = ap₂ (λ (a b : ℕ). ltb 1 (gcd a b)) (turned-size d.x) (turned-size d.y)

-- ---- two shapes

-- in the opposite direction the gap is as wide, and none is wider
module _ (A B : List Point) (s : IsShape A) (t : IsShape B) (h : apart A B ≡ true) where
  abbrev n : Point
  n = widest_of A B

  abbrev k : Point
  k = widest_of B A

  back : apart B A ≡ true
  back = apart-sym B A t.some s.some ∙ h

  lowest : common_divisor (opposite n) ≡ false
  lowest = turned-common n ∙ primitive-common _ (step-some A B s t h)

  as_wide : (gap_in k B A *ℤ gap_in k B A *ℤ value (opposite n) (opposite n))
      ≤ℤ (gap_in (opposite n) B A *ℤ gap_in (opposite n) B A *ℤ value k k)
  as_wide = rw (turned-gap A B n, turned-square n, ← turned-gap B A k, ← turned-square k)
      (none-wider A B s t h (opposite k) (opposite-non-zero (widest-some B A t s back))
      (rw (turned-gap B A k) (weaken (widest-positive B A t s back))))

  widest-turned : k ≡ opposite n
  widest-turned = sym (widest-only B A t s back (opposite n) (opposite-non-zero (widest-some A B s t h))
      (rw (turned-gap A B n) (weaken (widest-positive A B s t h))) as_wide lowest)

-- ---- the passage

module _ (L R A : List Point) (l : 0 < length L) (r : 0 < length R) (a : 0 < length A) where
  module _ (h : passable L R A ≡ true) where
    turned : across R L A ≡ opposite (across L R A)
    unfolding across
    turned = widest-turned (grown L A) (grown R A) (grown-shape L A l a) (grown-shape R A r a) h

    same-room : room R L A ≡ room L R A
    same-room = room-gap R L A r l a ∙ ap (λ d. gap_in d (grown R A) (grown L A)) turned
        ∙ turned-gap (grown L A) (grown R A) (across L R A) ∙ sym (room-gap L R A l r a)

    same_width : free_width R L A ≡ free_width L R A
    unfolding free_width
    same_width = ap₂ (λ (z y : ℤ). root_below (nat_abs z * nat_abs z) (nat_abs y)) same-room
        (ap (λ d. value d d) turned ∙ turned-square (across L R A))

    pub exchanged : (passable R L A ≡ true) × (across R L A ≡ opposite (across L R A)) × (room R L A ≡ room L R A)
        × (free_width R L A ≡ free_width L R A)
    exchanged = (apart-sym (grown R A) (grown L A) (grown-some R A r a) (grown-some L A l a) ∙ h, turned, same-room, same_width)
