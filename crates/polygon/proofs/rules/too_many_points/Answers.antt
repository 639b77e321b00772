-- `too_many_points` meets its contract.
use mathlib.Core.Path.{◌∙◌, ap}
use Prim.Native.Nat.{ℕ}
use lib.Dec.{ltb}
use Rattle.plane.specs.Limits.{max_points}
use Rattle.plane.specs.Sweep.{too_many_points}
use Rattle.polygon.proofs.rules.too_many_points.Goals as goal

pub returns : goal.returns
unfolding too_many_points
returns c = c.exceeds_points.ensures ∙ ap (λ (n : ℕ). ltb max_points n) c.count.ensures
