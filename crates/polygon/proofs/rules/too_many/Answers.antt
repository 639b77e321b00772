-- `too_many` meets its contract.
use mathlib.Core.Path.{◌∙◌, ap}
use Prim.Native.Nat.{ℕ}
use lib.Dec.{ltb}
use Rattle.plane.specs.Limits.{max_corners}
use Rattle.plane.specs.Refusal.{too_many}
use Rattle.polygon.proofs.rules.too_many.Goals as goal

pub returns : goal.returns
unfolding too_many
returns c = c.exceeds_corners.ensures ∙ ap (λ (n : ℕ). ltb max_corners n) c.count.ensures
