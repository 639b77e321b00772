-- `reckon` meets its contract: the corners of both shapes together bound those of the sum, or these are counted.
use native.Mathlib.Omega.{arith}
use Prim.Native.Nat.{◌+◌, ◌≤◌}
use lib.ListN.{length}
use Rattle.plane.specs.Limits.{max_corners}
use Rattle.plane.specs.Point.{points}
use Rattle.plane.specs.Corner.{shape_of, sums}
use Rattle.plane.proofs.theory.lists.Flat.{points-length}
use Rattle.sums.specs.Size.{enough}
use Rattle.calipers.specs.theory.Steps.{at-begin}
use Rattle.sums.specs.theory.Summed.{sum-few, reckoned-count}
use Rattle.sums.proofs.size.reckon.Goals as goal
use Rattle.sums.proofs.size.reckon.Goals.{After-count-2}

pub overflow_add-most : goal.overflow_add-most
overflow_add-most c =
    let a = c.args.a.now in
    let b = c.args.b.now in
    omega (arith, c.count.ensures, c.count-2.ensures, points-length a, points-length b, c.well_formed.0, c.well_formed.1.0)

-- the sum has no more corners than both shapes together
few : (c : After-count-2) → let args = c.args in
    length (shape_of (sums (points args.a.now) (points args.b.now))) ≤ c.count.result + c.count-2.result
few c = let pre = c.requires in omega (arith, sum-few _ _ pre.0 pre.1, c.count.ensures, c.count-2.ensures)

pub returns-then-suffices : goal.returns-then-suffices
returns-then-suffices c =
    let fits = c.suffices.ensures c.if-suffices.true in
    enough (few c.before.before) fits.0 fits.1

pub count_on-requires : goal.count_on-requires
count_on-requires c =
    let pre = c.requires in (at-begin _ _ pre.0 pre.1, omega arith)

pub returns : goal.returns
unfolding max_corners
returns c =
    reckoned-count c.args.a.now c.args.b.now c.requires.0 c.requires.1 (max_corners + 1) (omega arith)
    c.count_on.ensures
