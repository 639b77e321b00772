-- `next` meets its contract.
use native.Mathlib.Omega.{arith}
use Rattle.plane.specs.Point.{points}
use Rattle.plane.proofs.theory.lists.Flat.{points-length}
use Rattle.plane.proofs.theory.sum.Positions.{edges-at-most}
use Rattle.calipers.specs.theory.Image.{image-edges}
use Rattle.calipers.proofs.image.next.Goals as goal

pub overflow_add-s : goal.overflow_add-s
overflow_add-s c =
    let l = c.args.list.now in
    let side = c.requires.2 in
    omega (arith, side.at_in, image-edges l c.requires.0, edges-at-most (points l), points-length l)
