-- `merge` meets its contract: the largest buffer holds the corners of any two shapes.
use native.Mathlib.Omega.{arith}
use Rattle.plane.specs.Limits.{max_corners}
use Rattle.plane.proofs.theory.lists.Flat.{points-length}
use Rattle.pair_questions.proofs.merging.merge.Goals as goal

pub merge_within-requires-2 : goal.merge_within-requires-2
unfolding max_corners
merge_within-requires-2 c =
    let u = c.requires.0 in
    let v = c.requires.1 in
    let one = points-length c.args.a.now in
    let other = points-length c.args.b.now in
    (u, v, omega (arith, u.few, v.few, u.paired, v.paired, one, other), omega arith)
