-- How far apart two shapes are, as the code holds it. Our own, not of document 02.
--     fraction_of w         the squared distance as one fraction
--     Sized w              the numbers that it is divided by are not 0, and neither is the distance of two corners
--     HasRatio f r         turn·turn over squared of r is the fraction f
--     Beyond e S f         two shapes that the box e and that about S span are no nearer than f
use Rattle.std.specs.Prelude.{◌≡◌, true, Option, Some, None, List, ◌*◌, ◌<◌, pos, ◌*ℤ◌}
use Rattle.plane.specs.Point.{Point}
use Rattle.plane.specs.Shape.{IsShape}
use Rattle.plane.specs.Distance.{Fraction, over, no_more, distance}
use Rattle.polygon.specs.declared.extent.Extent.{Extent}
use Rattle.polygon.specs.Extent.{Extends}
use Rattle.extents.specs.Far.{Spans}
pub use Rattle.clearance.specs.Answer.{spacing_numbers}
use Rattle.clearance.specs.declared.measured.Distance.{Distance}
use Rattle.clearance.specs.declared.measured.Ratio.{Ratio}

-- of shapes that are apart
abbrev pub apart_fraction : Distance → Fraction
apart_fraction (Distance.Corners i j d w) = over (pos d) (pos 1)
apart_fraction (Distance.OnSecond c e t q w) = over (pos (t * t)) (pos q)
apart_fraction (Distance.OnFirst c e t q w) = over (pos (t * t)) (pos q)

abbrev pub fraction_of : Option Distance → Fraction
fraction_of None = over (pos 0) (pos 1)
fraction_of (Some d) = apart_fraction d

abbrev pub ApartSized : Distance → Type 0
ApartSized (Distance.Corners i j d w) = 0 < d
ApartSized (Distance.OnSecond c e t q w) = 0 < q
ApartSized (Distance.OnFirst c e t q w) = 0 < q

abbrev pub Sized : Option Distance → Type 0
Sized None = Unit {0}
Sized (Some d) = ApartSized d

pub record HasRatio (f : Fraction) (r : Ratio) : Type 0 where
  pub some : 0 < r.squared
  pub is : pos (r.turn * r.turn) *ℤ f.denominator ≡ f.numerator *ℤ pos r.squared

abbrev pub Beyond : Extent → List Point → Fraction → Type 0
Beyond e S f = (A B : List Point) → IsShape A → IsShape B → ((g : Extent) → Extends S g → Spans A B e g) → no_more f (distance A B) ≡ true
