-- `past` meets its contract: the product of the steps, the other way round.
use mathlib.Core.Path.{◌∙◌, ap₂}
use mir.Syntax.{w64}
use Rattle.integer.specs.Machine.{result-is}
use Rattle.plane.specs.Turn.{cross}
use Rattle.polygon.specs.theory.Small.{small-step}
use Rattle.contact.proofs.theory.Sides.{past-cross}
use Rattle.contact.proofs.walls.past.Goals as goal

pub cross-requires : goal.cross-requires
cross-requires c =
    let pre = c.requires in
    (small-step pre.0 pre.2 c.step.ensures, small-step pre.0 pre.1 c.step-2.ensures)

pub returns : goal.returns
returns c = result-is w64 c.cross.type_inv
    (c.cross.ensures ∙ ap₂ cross c.step.ensures c.step-2.ensures ∙ past-cross _ _ _)
