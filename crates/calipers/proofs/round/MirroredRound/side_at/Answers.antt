-- `side_at` meets its contract: the image has as many edges as the shape, and a slice no more than half its numbers.
use native.Mathlib.Omega.{arith}
use Rattle.plane.specs.Point.{points}
use Rattle.plane.proofs.theory.lists.Flat.{points-length}
use Rattle.plane.proofs.theory.sum.Positions.{edges-at-most}
use Rattle.calipers.specs.theory.Image.{image-edges}
use Rattle.calipers.proofs.round.MirroredRound.side_at.Goals as goal

pub returns : goal.returns
returns c =
    let l = c.args.self.now.list.now in
    let side = c.side_at.ensures in (
      side.0,
      omega (arith, side.1.end_is, image-edges l c.requires.0.0, edges-at-most (points l), points-length l, c.well_formed),
      side.1,
    )
