-- The squared distance of two shapes as one exact fraction, so that more than two shapes can be compared (document 02, W3: "distances
-- compare as exact fractions"). Our own: clearance answers it in parts.
--     Fraction, over n d     n over d
--     no_more f g             f is at most g, for denominators above 0
--     distance A B           that of clearance's nearest candidate; 0 over 1 if the shapes are not apart
use Rattle.std.specs.Prelude.{Bool, cond, List, ℤ, pos, ◌*ℤ◌}
use Rattle.std.specs.Int.Signed.{le_z}
use Rattle.plane.specs.Point.{Point}
use Rattle.plane.specs.Separation.{apart}
use Rattle.plane.specs.Clearance.{top, bottom, nearest}

pub record Fraction : Type 0 where
  pub numerator : ℤ
  pub denominator : ℤ

abbrev pub over : ℤ → ℤ → Fraction
over n d = record { numerator = n; denominator = d }

abbrev pub no_more : Fraction → Fraction → Bool
no_more f g = le_z (f.numerator *ℤ g.denominator) (g.numerator *ℤ f.denominator)

-- "Shapes not apart still answer 0"
unfoldable pub distance : List Point → List Point → Fraction
distance A B = cond (apart A B) (over (top A B (nearest A B)) (bottom A B (nearest A B))) (over (pos 0) (pos 1))
