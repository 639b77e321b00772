-- `opposite` meets its contract: the opposite of a small part fits 32 bits.
use mathlib.Core.Path.{◌∙◌, ap₂}
use lib.IntN.{+ℤ_idl}
use Rattle.integer.specs.Machine.{machine, bounded, machine-is}
use Rattle.plane.specs.Point.{point}
use Rattle.polygon.proofs.point.opposite.Goals as goal

pub returns : goal.returns
returns c =
    ap₂ point (machine-is (search (machine, bounded) depth 40) tt ∙ +ℤ_idl _)
    (machine-is (search (machine, bounded) depth 40) tt ∙ +ℤ_idl _)
