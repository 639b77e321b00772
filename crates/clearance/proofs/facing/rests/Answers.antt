-- `rests` meets its contract: two comparisons of values.
use mathlib.Core.Path.{◌≡◌, ap₂}
use lib.Signed.{le_z}
use mir.Syntax.{w64}
use mir.Val.{to_z, of_z}
use Rattle.integer.specs.Machine.{result-is}
use Rattle.plane.specs.Direction.{value}
use Rattle.polygon.specs.Point.{at}
use Rattle.clearance.specs.Stop.{rests}
use Rattle.clearance.proofs.Tests.{and-taken, and_left}
use Rattle.clearance.proofs.facing.rests.Goals as goal
use Rattle.clearance.proofs.facing.rests.Goals.{After-dot-other}

one-is : (c : After-dot-other) → let args = c.args in
    le_z (to_z w64 (of_z w64 c.dot-own.result)) (to_z w64 (of_z w64 c.dot-one.result))
    ≡ le_z (value (at args.w) (at args.w)) (value (at args.w) (at args.p))
one-is c =
    ap₂ le_z (result-is w64 c.dot-own.type_inv c.dot-own.ensures)
    (result-is w64 c.dot-one.type_inv c.dot-one.ensures)

other-is : (c : After-dot-other) → let args = c.args in
    le_z (to_z w64 (of_z w64 c.dot-own.result)) (to_z w64 (of_z w64 c.dot-other.result))
    ≡ le_z (value (at args.w) (at args.w)) (value (at args.w) (at args.d))
other-is c =
    ap₂ le_z (result-is w64 c.dot-own.type_inv c.dot-own.ensures) (result-is w64 c.dot-other.type_inv c.dot-other.ensures)

pub returns-then-own-one : goal.returns-then-own-one
unfolding rests
returns-then-own-one c = and-taken _ (one-is c.before) c.if-own-one.true (other-is c.before)

pub returns-else-own-one : goal.returns-else-own-one
unfolding rests
returns-else-own-one c = and_left _ (one-is c.before) c.if-own-one.false
