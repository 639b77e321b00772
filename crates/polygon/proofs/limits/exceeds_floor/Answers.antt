-- `exceeds_floor` meets its contract. The limit is opened here alone.
use mathlib.Core.Path.{refl}
use Rattle.plane.specs.Limits.{max_floor}
use Rattle.polygon.proofs.limits.exceeds_floor.Goals as goal

pub returns : goal.returns
unfolding max_floor
returns c = refl
