-- `furthest_from` meets its contract. The invariant: the corner is on the way up; the measure is how many steps are left to the corner that
-- `furthest` finds.
use mathlib.Core.Path.{sym, subst, ◌∙◌}
use native.Mathlib.Omega.{arith}
use lib.ListN.{length}
use lib.Signed.{◌<ℤ◌}
use Rattle.integer.specs.Order.{weaken}
use Rattle.plane.specs.Limits.{corners-small}
use Rattle.plane.specs.Point.{points, corner}
use Rattle.plane.specs.Shape.{next}
use Rattle.plane.specs.Direction.{value}
use Rattle.plane.proofs.theory.face.FirstFurthest.{furthest-greatest}
use Rattle.plane.proofs.theory.lists.Next.{next-below}
use Rattle.polygon.specs.Point.{at}
use Rattle.boxes.specs.Scan.{Climbs}
use Rattle.boxes.specs.theory.Climb.{rises-up, rises-not, rising-not-found, climbed, still-less}
use Rattle.boxes.proofs.climb.furthest_from.Goals as goal
use Rattle.boxes.proofs.climb.furthest_from.Goals.{In-loop-d}

pub loop-d-init : goal.loop-d-init
loop-d-init c = c.requires.climbs

pub rises-requires : goal.rises-requires
rises-requires c = let pre = c.requires in (pre.valid, c.loop-d.invariant.within, pre.small)

pub overflow_add-i : goal.overflow_add-i
overflow_add-i c =
    omega (arith, c.loop-d.invariant.within, c.requires.valid.few, corners-small)

pub round-i-requires : goal.round-i-requires
round-i-requires c =
    (omega (arith, c.loop-d.invariant.within), c.requires.valid.shape.some)

-- the next corner is further
further : (c : In-loop-d) →
    let d = at c.args.d in
    let ps = points c.args.list.now in
    value d (corner ps c.loop-d.i) <ℤ value d (corner ps (next (length ps) c.loop-d.i))
further c = rises-up _ _ _ (sym c.rises.ensures ∙ c.loop-d-test.true)

pub loop-d-smaller : goal.loop-d-smaller
loop-d-smaller c =
    let some = c.requires.valid.shape.some in
    let i-in = c.loop-d.invariant.within in
    rw c.round-i.ensures.value (still-less _ _ _ i-in (furthest-greatest _ _ some).within
    (rising-not-found _ _ some _ _ (next-below _ _ i-in) (further c.before)))

pub loop-d-preserved : goal.loop-d-preserved
loop-d-preserved c =
    let pre = c.requires in
    subst (Climbs _ _) (sym c.round-i.ensures.value)
    (climbed _ _ pre.valid.shape pre.three _ c.loop-d.invariant.within (weaken (further c.before)))

pub returns : goal.returns
returns c = c.loop-d.invariant.reached (rises-not _ _ _ (sym c.rises.ensures ∙ c.loop-d-test.false))
