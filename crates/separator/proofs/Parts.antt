-- The parts of a direction as numbers of 32 bits.
--     part-fits, part-read      a part within its limit fits, and is read back as it is
--     point-read                so is a point with two such parts
use mathlib.Core.Path.{◌≡◌, ap₂}
use Prim.Native.Nat.{◌^◌}
use lib.IntN.{ℤ}
use mir.Syntax.{w32}
use mir.Val.{to_z, of_z, SFits}
use Rattle.integer.specs.Bound.{Within}
use Rattle.integer.specs.Machine.{bounded, machine-read, machine-is, within-fits}
use Rattle.plane.specs.Point.{Point, point}
use Rattle.polygon.specs.Point.{Small}

pub part-fits : {z : ℤ} → Within (2 ^ 22) z → SFits w32 z
part-fits h = within-fits tt h

pub part-read : {z : ℤ} → Within (2 ^ 22) z → to_z w32 (of_z w32 z) ≡ z
part-read h = machine-is (machine-read w32 _ (bounded h)) tt

pub point-read : {p : Point} → Small (2 ^ 22) p → point (to_z w32 (of_z w32 p.x)) (to_z w32 (of_z w32 p.y)) ≡ p
point-read s = ap₂ point (part-read s.small-x) (part-read s.small-y)
