-- A corner by itself, as the code reads it back from a list of two numbers.
use mathlib.Core.Path.{◌≡◌, ap₂}
use mathlib.Core.List.{[], ◌∷◌}
use native.Mathlib.Omega.{arith}
use Prim.Native.Nat.{◌^◌}
use lib.IntN.{ℤ}
use mir.Syntax.{w32}
use mir.Val.{to_z, of_z}
use mir.Facts.{to_z-of_z}
use Rattle.integer.specs.Bound.{Within, within-widen}
use Rattle.integer.specs.Machine.{within-fits}
use Rattle.plane.specs.Limits.{max_coordinate, coordinate-small}
use Rattle.plane.specs.Point.{Point, point, numbers}
use Rattle.plane.specs.Refusal.{Valid}

read : {z : ℤ} → Within max_coordinate z → to_z w32 (of_z w32 z) ≡ z
read h = to_z-of_z {w = w32} (within-fits {n = 2 ^ 20} tt (within-widen coordinate-small h))

pub reads-back : (p : Point) → Valid (numbers (p ∷ [])) → point (to_z w32 (of_z w32 p.x)) (to_z w32 (of_z w32 p.y)) ∷ [] ≡ p ∷ []
reads-back p v = ap₂ (λ x y. point x y ∷ []) (read (v.in_range.near 0 (omega arith))) (read (v.in_range.near 1 (omega arith)))
