-- `squared` meets its contract: the product of the vector between the points with itself.
use mathlib.Core.Path.{◌∙◌, ap}
use mir.Syntax.{w64}
use Rattle.integer.specs.Machine.{result-is}
use Rattle.plane.specs.Point.{Point}
use Rattle.plane.specs.Direction.{value}
use Rattle.plane.specs.Measure.{squared as measure_squared}
use Rattle.polygon.proofs.point.squared.Goals as goal

pub returns : goal.returns
unfolding value measure_squared
returns c = result-is w64 c.dot.type_inv (c.dot.ensures ∙ ap (λ (e : Point). value e e) c.step-d.ensures)
