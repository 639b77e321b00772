-- `common_divisor` meets its contract: the divisor is that of the sizes of the parts.
use mir.Syntax.{w32}
use mathlib.Core.Path.{◌∙◌, ap, ap₂}
use Prim.Native.Nat.{ℕ}
use lib.Dec.{ltb}
use lib.IntN.{nat_abs}
use mir.Facts.{to_z-of_z}
use Rattle.divisor.specs.Divisor.{gcd}
use Rattle.plane.specs.Furthest.{common_divisor}
use Rattle.direction.proofs.common_divisor.Goals as goal

pub returns : goal.returns
unfolding common_divisor
returns c =
    let u-size = c.magnitude.ensures ∙ ap nat_abs (to_z-of_z {w = w32} c.ranges.u) in
    let v-size = c.magnitude-2.ensures ∙ ap nat_abs (to_z-of_z {w = w32} c.ranges.v) in
    ap (λ (n : ℕ). ltb 1 n) (c.divisor.ensures ∙ ap₂ gcd u-size v-size)
