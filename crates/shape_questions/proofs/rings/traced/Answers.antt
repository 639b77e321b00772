-- `traced` meets its contract: the buffers hold the positions of all points.
use native.Mathlib.Omega.{arith}
use Rattle.plane.specs.Limits.{max_points}
use Rattle.shape_questions.proofs.rings.traced.Goals as goal

pub traced_in-requires-2 : goal.traced_in-requires-2
unfolding max_points
traced_in-requires-2 c =
    let pre = c.requires in
    let few = pre.0.few in
    let all = pre.1.all in
    (pre.0, pre.1, omega arith, omega arith)
