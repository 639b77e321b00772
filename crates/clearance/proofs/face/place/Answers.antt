-- `place` meets its contract: past the last corner the first comes again.
use native.Mathlib.Omega.{arith}
use Rattle.plane.proofs.theory.lists.Flat.{points-length}
use Rattle.clearance.proofs.face.place.Goals as goal

pub overflow_add-k : goal.overflow_add-k
overflow_add-k c =
    omega (arith, c.count-n.ensures, c.requires, c.if-n-i.false, points-length c.args.list.now)
