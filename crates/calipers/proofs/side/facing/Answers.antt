-- `facing` meets its contract: differences of small parts fit 32 bits.
use mathlib.Core.Path.{refl, ◌∙◌, ap₂}
use mir.Syntax.{w64}
use Rattle.plane.specs.Point.{point}
use Rattle.integer.specs.Machine.{machine, bounded, machine-is, result-is}
use Rattle.calipers.proofs.side.facing.Goals as goal

pub returns : goal.returns
returns c = (
  refl,
  refl,
  ap₂ point (machine-is (search (machine, bounded) depth 40) tt) (machine-is (search (machine, bounded) depth 40) tt),
  ap₂ point (result-is w64 c.from.type_inv (c.from.ensures ∙ machine-is (search (machine, bounded) depth 40) tt))
      (result-is w64 c.from-2.type_inv (c.from-2.ensures ∙ machine-is (search (machine, bounded) depth 40) tt)),
)
