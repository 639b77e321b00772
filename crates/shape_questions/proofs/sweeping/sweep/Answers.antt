-- `sweep` meets its contract: the largest buffer holds both chains of the points of any sweep.
use native.Mathlib.Omega.{arith}
use Rattle.plane.specs.Limits.{max_points}
use Rattle.plane.proofs.theory.lists.Flat.{points-length}
use Rattle.shape_questions.proofs.sweeping.sweep.Goals as goal

pub sweep_within-requires-2 : goal.sweep_within-requires-2
unfolding max_points
sweep_within-requires-2 c =
    let v = c.requires in
    (v, omega (arith, v.few, v.paired, points-length c.args.list.now), omega arith)
