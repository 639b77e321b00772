-- `reckon` meets its contract: the corners of both shapes together bound those of the differences, or these are counted.
use native.Mathlib.Omega.{arith}
use Rattle.plane.proofs.theory.lists.Flat.{points-length}
use Rattle.sums.specs.Size.{enough}
use Rattle.separation.specs.theory.Image.{differences-few}
use Rattle.separation.proofs.differences.reckon.Goals as goal

pub overflow_add-most : goal.overflow_add-most
overflow_add-most c =
    omega (arith, c.count.ensures, c.count-2.ensures, points-length c.args.a.now, points-length c.args.b.now)

pub returns-then-suffices : goal.returns-then-suffices
returns-then-suffices c =
    let pre = c.requires in
    let fits = c.suffices.ensures c.if-suffices.true in
    let few = differences-few _ _ pre.0 pre.1 in
    enough (omega (arith, few, c.count.ensures, c.count-2.ensures)) fits.0 fits.1
