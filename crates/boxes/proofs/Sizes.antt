-- A number of 64 bits with its sign, read as one without.
--     below_half     it is below 2^63
use mathlib.Core.Path.{◌≡◌, refl, sym, subst, ◌∙◌}
use Prim.Native.Nat.{ℕ, ◌^◌, ◌<◌}
use lib.IntN.{ℤ, pos}
use lib.Signed.{mag}
use mir.Syntax.{w64}
use mir.Val.{to_z, of_z}
use Rattle.integer.specs.Machine.{result-is}

pub below_half : (x : ℤ) {r : ℕ} → mag x < 2 ^ 63 → to_z w64 (of_z w64 x) ≡ pos r → r < 2 ^ 63
below_half x h e = subst (λ z. mag z < 2 ^ 63) (sym (result-is w64 {x = x} {v = x} h refl) ∙ e) h
