-- `turn` meets its contract: the cross product of the two steps from a.
use mathlib.Core.Path.{sym, ◌∙◌, ap₂}
use mir.Syntax.{w64}
use Rattle.integer.specs.Machine.{result-is}
use Rattle.plane.specs.Turn.{cross, turn-cross}
use Rattle.polygon.specs.theory.Small.{small-step}
use Rattle.hull.proofs.scan.turn.Goals as goal

pub cross-requires : goal.cross-requires
cross-requires c =
    (small-step c.requires.0 c.requires.1 c.step.ensures, small-step c.requires.0 c.requires.2 c.step-2.ensures)

pub returns : goal.returns
returns c =
    result-is w64 c.cross.type_inv (c.cross.ensures ∙ ap₂ cross c.step.ensures c.step-2.ensures
    ∙ sym (turn-cross _ _ _))
