-- `value_at` meets its contract.
use Rattle.polygon.specs.theory.Small.{small-corner, small-wide}
use Rattle.clearance.proofs.face.value_at.Goals as goal

pub dot-requires : goal.dot-requires
dot-requires c =
    let pre = c.requires in
    (pre.2, small-wide (small-corner _ pre.1 _ pre.0 c.corner_at.ensures))
