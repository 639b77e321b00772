-- `arrived` meets its contract: sums of small parts fit 32 bits.
use mathlib.Core.Path.{refl, ap₂}
use Rattle.plane.specs.Point.{point}
use Rattle.integer.specs.Machine.{machine, bounded, machine-is}
use Rattle.calipers.proofs.side.arrived.Goals as goal

pub returns : goal.returns
returns c =
    (refl, refl, ap₂ point (machine-is (search (machine, bounded) depth 40) tt) (machine-is (search (machine, bounded) depth 40) tt), refl)
