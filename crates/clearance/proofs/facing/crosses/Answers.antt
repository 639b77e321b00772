-- `crosses` meets its contract: the side of the origin, and its foot.
use mathlib.Core.Path.{◌≡◌, ap}
use lib.IntN.{ℤ, pos}
use lib.Signed.{lt_z}
use mir.Syntax.{w64}
use mir.Val.{to_z, of_z}
use Rattle.integer.specs.Machine.{result-is}
use Rattle.plane.specs.Turn.{cross}
use Rattle.polygon.specs.Point.{at}
use Rattle.clearance.specs.Stop.{crosses}
use Rattle.clearance.proofs.Tests.{and-taken, and_left}
use Rattle.clearance.proofs.facing.crosses.Goals as goal
use Rattle.clearance.proofs.facing.crosses.Goals.{After-cross-turn}

side-is : (c : After-cross-turn) → let args = c.args in
    lt_z (to_z w64 (of_z w64 c.cross-turn.result)) (pos 0) ≡ lt_z (cross (at args.w) (at args.d)) (pos 0)
side-is c = ap (λ (z : ℤ). lt_z z (pos 0)) (result-is w64 c.cross-turn.type_inv c.cross-turn.ensures)

pub returns-then-turn-lt0 : goal.returns-then-turn-lt0
unfolding crosses
returns-then-turn-lt0 c = and-taken _ (side-is c.before) c.if-turn-lt0.true c.foot_inside-inside.ensures

pub returns-else-turn-lt0 : goal.returns-else-turn-lt0
unfolding crosses
returns-else-turn-lt0 c = and_left _ (side-is c.before) c.if-turn-lt0.false
