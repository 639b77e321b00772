-- `count` meets its contract: two numbers to a corner.
use mathlib.Core.Path.{sym}
use Rattle.plane.proofs.theory.lists.Flat.{points-length}
use Rattle.polygon.proofs.corners.count.Goals as goal

pub returns : goal.returns
returns c = sym (points-length c.args.list.now)
