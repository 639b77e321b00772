-- `normal` meets its contract: differences of small parts fit 32 bits.
use mathlib.Core.Path.{ap₂}
use Rattle.integer.specs.Machine.{machine, bounded, machine-is}
use Rattle.plane.specs.Point.{point}
use Rattle.separation.proofs.normal.normal.Goals as goal

pub returns : goal.returns
returns c = ap₂ point (machine-is (search (machine, bounded) depth 40) tt) (machine-is (search (machine, bounded) depth 40) tt)
