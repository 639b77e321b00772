-- What the code's test of two Bools says.
--     equal, different     where it fails, and where it passes
use mathlib.Core.Path.{◌≡◌, refl}
use mathlib.Core.Bool.{Bool, true, false, not, beq, true≢false, false≢true}

pub equal : (x y : Bool) → not (beq x y) ≡ false → x ≡ y
equal true true h = refl
equal true false h = absurd (true≢false h)
equal false true h = absurd (true≢false h)
equal false false h = refl

pub different : (x y : Bool) → not (beq x y) ≡ true → x ≡ not y
different true true h = absurd (false≢true h)
different true false h = refl
different false true h = refl
different false false h = absurd (false≢true h)
