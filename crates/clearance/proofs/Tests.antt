-- Tests that the code joins.
--     and-taken, and_left     `x && y` where the code found x true, and where it found it false
use mathlib.Core.Path.{◌≡◌, sym, ◌∙◌, ap}
use mathlib.Core.Bool.{Bool, true, false, ◌&&◌}

module _ {x one : Bool} (other : Bool) (e : x ≡ one) where
  pub and-taken : {y : Bool} → x ≡ true → y ≡ other → y ≡ (one && other)
  and-taken t f = f ∙ ap (λ (b : Bool). b && other) (sym t ∙ e)

  pub and_left : x ≡ false → x ≡ (one && other)
  and_left t = t ∙ ap (λ (b : Bool). b && other) (sym t ∙ e)
