-- `cross_at` meets its contract.
use Rattle.polygon.specs.theory.Small.{small-corner, small-wide}
use Rattle.area.proofs.cross_at.Goals as goal

pub cross-requires : goal.cross-requires
cross-requires c =
    let pre = c.requires in (
      small-wide (small-corner _ pre.2 _ pre.0 c.corner_at.ensures),
      small-wide (small-corner _ pre.2 _ pre.1 c.corner_at-2.ensures),
    )
