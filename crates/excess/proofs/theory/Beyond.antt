-- The distance of a point from a shape.
--     beyond-whole         what its fraction is divided by is above 0; `beyond-nonneg`: it is not below 0
--     beyond-positive      it is above 0 if the point is apart from the shape
--     beyond-none          it is 0 if the point is not apart from the shape; `beyond-apart`: else the nearest candidate's
--     beyond-least         in no direction is the point further ahead of the shape
--     Ahead c O            and in some direction it is as far ahead, and ahead at all (`beyond-ahead`)
use Rattle.std.specs.Prelude.{◌≡◌, refl, Bool, true, false, cond, List, [], ◌∷◌, ℤ, pos, ◌-ℤ◌, ◌*ℤ◌, ◌≤ℤ◌, ◌<ℤ◌}
use Rattle.std.proofs.Math.Path.{ap}
use Rattle.std.proofs.Common.{arith}
use Rattle.integer.specs.Linear.{linear, lia, ◌&◌}
use Rattle.integer.specs.Order.{◌<×<◌, ◌<×≤◌, contra<, weaken}
use Rattle.plane.specs.Point.{Point, opposite}
use Rattle.plane.specs.Shape.{IsShape}
use Rattle.plane.specs.Direction.{value, support}
use Rattle.plane.specs.Separation.{apart}
use Rattle.plane.specs.Clearance.{top, bottom, nearest}
use Rattle.plane.specs.Forms.{NonZero}
use Rattle.plane.proofs.theory.forms.Vector.{value-turned, square-positive, below-non-zero}
use Rattle.plane.proofs.theory.support.Support.{support-one, support-attained}
use Rattle.clearance.specs.theory.Nearest.{nearest-is-whole}
use Rattle.strips.specs.Strip.{least, gap_in}
use Rattle.growth.proofs.theory.Places.{point-shape}
use Rattle.passage.proofs.theory.Gaps.{gap→apart}
use Rattle.passage.specs.Corridor.{widest_of}
use Rattle.passage.proofs.theory.Widest.{widest-some, widest-clearance, widest-positive, gap-clearance}
use Rattle.plane.specs.Distance.{Fraction, over, distance}
use Rattle.excess.specs.Excess.{beyond}

-- how far a point is ahead of a list
point-gap : (d c : Point) (O : List Point) → gap_in d (c ∷ []) O ≡ value d c -ℤ support d O
unfolding gap_in least
point-gap d c O = lia (support (opposite d) (c ∷ []) ∷ value (opposite d) c ∷ value d c ∷ support d O ∷ [])
    (support-one (opposite d) c & value-turned d c) (search linear depth 40) (omega arith)

-- g·g/D is x/y, and not 0
positive-top : (g D x y : ℤ) → pos 0 <ℤ g → pos 0 <ℤ D → pos 0 <ℤ y → g *ℤ g *ℤ y ≡ x *ℤ D → pos 0 <ℤ x
positive-top g D x y some long whole at =
    let square : pos 0 <ℤ (g *ℤ g) = lia (g ∷ []) (some <×< some) (search linear depth 40) (omega arith) in
    contra< (λ h. lia (g ∷ D ∷ x ∷ y ∷ []) (at & square <×< whole & long <×≤ h) (search linear depth 40) (omega arith))

pub record Ahead (c : Point) (O : List Point) : Type 0 where
  pub direction : Point
  pub some : NonZero direction
  pub ahead : support direction O <ℤ value direction c
  pub exact : let g = value direction c -ℤ support direction O in
      g *ℤ g *ℤ (beyond c O).denominator ≡ (beyond c O).numerator *ℤ value direction direction

module _ (c : Point) (O : List Point) (s : IsShape O) where
  abbrev C : List Point
  C = c ∷ []

  abbrev told : Bool → Fraction
  told t = cond t (over (top C O (nearest C O)) (bottom C O (nearest C O))) (over (pos 0) (pos 1))

  beyond-by : {t : Bool} → apart C O ≡ t → beyond c O ≡ told t
  unfolding beyond distance
  beyond-by e = ap told e

  pub beyond-none : apart C O ≡ false → beyond c O ≡ over (pos 0) (pos 1)
  beyond-none h = beyond-by h

  pub beyond-apart : apart C O ≡ true → beyond c O ≡ over (top C O (nearest C O)) (bottom C O (nearest C O))
  beyond-apart h = beyond-by h

  pub beyond-whole : pos 0 <ℤ (beyond c O).denominator
  beyond-whole = go (apart C O) refl
    where
      go : (t : Bool) → apart C O ≡ t → pos 0 <ℤ (beyond c O).denominator
      go true e = rw (beyond-by e) (nearest-is-whole C O (point-shape c) s e)
      go false e = rw (beyond-by e) (record { lt = tt })

  module _ (h : apart C O ≡ true) where
    abbrev n : Point
    n = widest_of C O

    pub beyond-ahead : Ahead c O
    beyond-ahead = record {
      direction = n;
      some = widest-some C O (point-shape c) s h;
      ahead = lia (gap_in n C O ∷ value n c ∷ support n O ∷ []) (point-gap n c O & widest-positive C O (point-shape c) s h)
          (search linear depth 40) (omega arith);
      exact = rw (beyond-apart h, ← point-gap n c O) (widest-clearance C O (point-shape c) s h);
    }

    pub beyond-positive : pos 0 <ℤ (beyond c O).numerator
    beyond-positive =
        let a = beyond-ahead in
        let d = a.direction in
        positive-top (value d c -ℤ support d O) (value d d) (beyond c O).numerator (beyond c O).denominator
        (lia (value d c ∷ support d O ∷ []) a.ahead (search linear depth 40) (omega arith)) (square-positive d a.some) beyond-whole
        a.exact

  pub beyond-nonneg : pos 0 ≤ℤ (beyond c O).numerator
  beyond-nonneg = go (apart C O) refl
    where
      go : (t : Bool) → apart C O ≡ t → pos 0 ≤ℤ (beyond c O).numerator
      go true e = weaken (beyond-positive e)
      go false e = rw (beyond-by e) (record { le = tt })

  -- the point is ahead, so apart
  pub beyond-least : (d : Point) → support d O <ℤ value d c → let g = value d c -ℤ support d O in
      (g *ℤ g *ℤ (beyond c O).denominator) ≤ℤ ((beyond c O).numerator *ℤ value d d)
  beyond-least d far =
      let gap : pos 0 <ℤ gap_in d C O = lia (gap_in d C O ∷ value d c ∷ support d O ∷ []) (point-gap d c O & far) (search linear depth 40)
      (omega arith) in
      let h = gap→apart C O (omega arith) s.some d gap in
      let high = support-attained d O s.some in
      let some = below-non-zero d high.at c (rw high.at_value far) in
      rw (beyond-apart h, ← point-gap d c O) (gap-clearance C O (point-shape c) s h d some (weaken gap))
