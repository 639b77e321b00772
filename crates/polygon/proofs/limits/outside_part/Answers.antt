-- `outside_part` meets its contract. The limit is opened here alone.
use mir.Syntax.{w32}
use mathlib.Core.Path.{◌∙◌, ap}
use mathlib.Core.Bool.{◌||◌}
use lib.IntN.{ℤ, pos, neg_ℤ}
use lib.Signed.{lt_z}
use mir.Facts.{to_z-of_z}
use Rattle.integer.specs.Bound.{beyond-size}
use Rattle.plane.specs.Limits.{max_part}
use Rattle.polygon.proofs.limits.outside_part.Goals as goal

pub returns : goal.returns
unfolding max_part
returns c =
    c.beyond.ensures
    ∙ ap (λ (z : ℤ). lt_z z (neg_ℤ (pos max_part)) || lt_z (pos max_part) z) (to_z-of_z {w = w32} c.ranges.z)
    ∙ beyond-size max_part c.args.z
