-- `edge_at` meets its contract.
use native.Mathlib.Omega.{arith}
use Rattle.plane.proofs.theory.lists.Flat.{points-length}
use Rattle.polygon.specs.theory.Small.{small-corner}
use Rattle.sums.proofs.size.edge_at.Goals as goal

pub overflow_add-i : goal.overflow_add-i
overflow_add-i c = omega (arith, c.requires.0, points-length c.args.list.now, c.well_formed.0)

pub step-requires : goal.step-requires
step-requires c =
    let pre = c.requires in (
      small-corner _ pre.1 _ (omega (arith, pre.0)) c.corner_at.ensures,
      small-corner _ pre.1 _ pre.0 c.corner_at-2.ensures,
    )
