-- The words in which `Meaning.antt` speaks of changes and settled answers. Our own, not of documents 01 and 02.
--     NoFurther f g, Nearer f g      distances compared "as exact fractions": a/b ≤ c/d says a·d ≤ c·b
--     further d N O             how much further N reaches than O in the direction d, times the length of d; below 0 if less far
--     ApartBy w A B             A and B are apart, and their clearance is at least w, for w from 0 on
--     Millimetres q w           the question q is answered, and w is the last number of the answer before the floor: of clearance the
--                               distance rounded down, of passage the free width rounded down, of excess the distance rounded up; 0 if
--                               the shapes are not apart, if the cart may not pass, and if the new shape is inside the old one
--     Told new old c g u f      what the numbers are of an answer of excess that does not begin with 0
use Rattle.std.specs.Prelude.{◌≡◌, true, false, List, [], ◌∷◌, ℕ, ℤ, ◌-ℤ◌, ◌*ℤ◌, ◌≤ℤ◌, ◌<ℤ◌}
use Rattle.plane.specs.Point.{Point}
use Rattle.plane.specs.Reply.{answered}
use Rattle.plane.specs.Direction.{support}
use Rattle.plane.specs.Separation.{inside, apart}
use Rattle.plane.specs.Clearance.{top, bottom, nearest}
use Rattle.plane.specs.Floor.{Floored, corners}
use Rattle.plane.specs.Question.{Question, reply}
use Rattle.growth.specs.Grown.{EndsIn}
use Rattle.plane.specs.Distance.{Fraction}
use Rattle.excess.specs.Excess.{outermost, excess, up}

abbrev pub NoFurther : Fraction → Fraction → Type 0
NoFurther f g = (f.numerator *ℤ g.denominator) ≤ℤ (g.numerator *ℤ f.denominator)

abbrev pub Nearer : Fraction → Fraction → Type 0
Nearer f g = (f.numerator *ℤ g.denominator) <ℤ (g.numerator *ℤ f.denominator)

abbrev pub further : Point → List Point → List Point → ℤ
further d N O = support d N -ℤ support d O

pub record ApartBy (w : ℤ) (A B : List Point) : Type 0 where
  pub are-apart : apart A B ≡ true
  pub so-clear : (w *ℤ w *ℤ bottom A B (nearest A B)) ≤ℤ top A B (nearest A B)

pub record Millimetres (q : Question) (w : ℤ) : Type 0 where
  pub numbers : List ℤ
  pub floor : ℤ
  pub is-answered : reply q ≡ answered numbers
  pub ends : EndsIn (w ∷ floor ∷ []) numbers

-- corner c of the new shape, its squared distance g from the old one, u millimetres rounded up, the floor f
pub record Told (new old : Floored) (c : ℕ) (g : Fraction) (u f : ℕ) : Type 0 where
  pub not-inside : inside (corners new) (corners old) ≡ false
  pub corner-is : c ≡ outermost (corners new) (corners old)
  pub distance_is : g ≡ excess (corners new) (corners old)
  pub up_is : u ≡ up (corners new) (corners old)
  pub floor-is : f ≡ new.floor
