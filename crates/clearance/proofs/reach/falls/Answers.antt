-- `falls` meets its contract: how far the foot is along the edge, against 0 and the edge's squared length.
use mathlib.Core.Path.{◌≡◌, ◌∙◌, ap, ap₂}
use lib.IntN.{pos}
use lib.Signed.{lt_z}
use mir.Syntax.{w64}
use mir.Val.{to_z, of_z}
use Rattle.integer.specs.Machine.{result-is}
use Rattle.plane.specs.Point.{◌⊖◌}
use Rattle.plane.specs.Direction.{value}
use Rattle.plane.specs.Clearance.{falls}
use Rattle.polygon.specs.Point.{at}
use Rattle.polygon.specs.theory.Small.{small-step}
use Rattle.clearance.proofs.Tests.{and-taken, and_left}
use Rattle.clearance.proofs.reach.falls.Goals as goal
use Rattle.clearance.proofs.reach.falls.Goals.{After-dot-way}

pub dot-way-requires : goal.dot-way-requires
dot-way-requires c =
    let pre = c.requires in
    (small-step pre.0 pre.1 c.step.ensures, small-step pre.0 pre.2 c.step-2.ensures)

way-is : (c : After-dot-way) → let args = c.args in
    to_z w64 (of_z w64 c.dot-way.result) ≡ value (at args.q ⊖ at args.p) (at args.c ⊖ at args.p)
way-is c =
    result-is w64 c.dot-way.type_inv (c.dot-way.ensures ∙ ap₂ value c.step.ensures c.step-2.ensures)

pub returns-then-way-gt0 : goal.returns-then-way-gt0
unfolding falls
returns-then-way-gt0 c =
    and-taken _ (ap (lt_z (pos 0)) (way-is c.before.before)) c.if-way-gt0.true
    (ap₂ lt_z (way-is c.before.before) (result-is w64 c.squared-squared.type_inv c.squared-squared.ensures))

pub returns-else-way-gt0 : goal.returns-else-way-gt0
unfolding falls
returns-else-way-gt0 c = and_left _ (ap (lt_z (pos 0)) (way-is c.before.before)) c.if-way-gt0.false
