-- `along` meets its contract: the cross product with the direction, from both sides of 0.
use mathlib.Core.Path.{◌≡◌, ◌∙◌, ap, ap₂}
use lib.IntN.{ℤ, pos}
use lib.Signed.{le_z}
use mir.Syntax.{w64}
use mir.Val.{to_z, of_z}
use Rattle.integer.specs.Machine.{result-is}
use Rattle.plane.specs.Point.{points, corner, ◌⊖◌}
use Rattle.plane.specs.Turn.{cross}
use Rattle.polygon.specs.Point.{at}
use Rattle.polygon.specs.theory.Small.{small-corner, small-step}
use Rattle.clearance.specs.Faces.{is_along}
use Rattle.clearance.proofs.Tests.{and-taken, and_left}
use Rattle.clearance.proofs.reach.along.Goals as goal
use Rattle.clearance.proofs.reach.along.Goals.{After-cross-beside}

pub step-requires : goal.step-requires
step-requires c =
    let pre = c.requires in
    (small-corner _ pre.3 _ pre.1 c.corner_at.ensures, small-corner _ pre.2 _ pre.0 c.corner_at-2.ensures)

pub cross-beside-requires : goal.cross-beside-requires
cross-beside-requires c =
    let both = step-requires c.before in
    (c.requires.4, small-step both.0 both.1 c.step.ensures)

beside-is : (c : After-cross-beside) →
    to_z w64 (of_z w64 c.cross-beside.result)
    ≡ cross (at c.args.n)
    (corner (points c.args.a.now) c.args.i ⊖ corner (points c.args.b.now) c.args.j)
beside-is c =
    result-is w64 c.cross-beside.type_inv (c.cross-beside.ensures ∙ ap (cross (at c.args.n))
    (c.step.ensures ∙ ap₂ ◌⊖◌ c.corner_at-2.ensures c.corner_at.ensures))

pub returns-then-beside-ge0 : goal.returns-then-beside-ge0
unfolding is_along
returns-then-beside-ge0 c = and-taken _ (ap (le_z (pos 0)) (beside-is c.before)) c.if-beside-ge0.true
    (ap (λ (z : ℤ). le_z z (pos 0)) (beside-is c.before))

pub returns-else-beside-ge0 : goal.returns-else-beside-ge0
unfolding is_along
returns-else-beside-ge0 c = and_left _ (ap (le_z (pos 0)) (beside-is c.before)) c.if-beside-ge0.false
