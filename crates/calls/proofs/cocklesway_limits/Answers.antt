-- `cocklesway_limits` meets its contract: the constants of the code are the limits, which are opened for it.
use mathlib.Core.Path.{refl}
use Rattle.plane.specs.Limits.{max_corners, max_points, max_coordinate, max_part, max_floor}
use Rattle.calls.proofs.cocklesway_limits.Goals as goal

pub returns : goal.returns
unfolding max_corners max_points max_coordinate max_part max_floor
returns c = (refl, refl, refl, refl, refl)
