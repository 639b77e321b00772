-- `push` meets its contract: the point is written after what stays under it.
use native.Mathlib.Omega.{arith}
use Rattle.plane.proofs.theory.lists.Flat.{points-length}
use Rattle.hull.specs.theory.Stack.{settled-scanned}
use Rattle.hull.proofs.scan.push.Goals as goal

pub settle-under-requires : goal.settle-under-requires
settle-under-requires c = (omega (arith, c.requires.0), c.requires.1, c.requires.2)

pub put-requires : goal.put-requires
put-requires c =
    omega (arith, c.settle-under.ensures.few, c.requires.0, points-length c.args.buf.now)

pub overflow_add-result : goal.overflow_add-result
overflow_add-result c =
    omega (arith, c.settle-under.ensures.few, c.requires.0, points-length c.args.buf.now)

pub returns : goal.returns
returns c =
    settled-scanned c.requires.0 c.requires.1 c.requires.2 c.settle-under.ensures c.put.ensures
