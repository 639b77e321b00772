-- `exceeds_corners` meets its contract. The limit is opened here alone.
use mathlib.Core.Path.{refl}
use Rattle.plane.specs.Limits.{max_corners}
use Rattle.polygon.proofs.limits.exceeds_corners.Goals as goal

pub returns : goal.returns
unfolding max_corners
returns c = refl
