-- `exceeds_points` meets its contract. The limit is opened here alone.
use mathlib.Core.Path.{refl}
use Rattle.plane.specs.Limits.{max_points}
use Rattle.polygon.proofs.limits.exceeds_points.Goals as goal

pub returns : goal.returns
unfolding max_points
returns c = refl
