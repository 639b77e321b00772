-- `turn_at` meets its contract: the cross product of the two steps from corner a.
use mathlib.Core.Path.{sym, ◌∙◌, ap₂}
use mir.Syntax.{w64}
use Rattle.integer.specs.Machine.{result-is}
use Rattle.plane.specs.Point.{◌⊖◌}
use Rattle.plane.specs.Turn.{cross, turn-cross}
use Rattle.polygon.specs.theory.Small.{small-corner, small-step}
use Rattle.polygon.proofs.corners.turn_at.Goals as goal

pub step-edge-requires : goal.step-edge-requires
step-edge-requires c =
    let pre = c.requires in
    (small-corner _ pre.3 _ pre.0 c.corner_at-from.ensures, small-corner _ pre.3 _ pre.1 c.corner_at.ensures)

pub step-other-requires : goal.step-other-requires
step-other-requires c =
    let pre = c.requires in
    (small-corner _ pre.3 _ pre.0 c.corner_at-from.ensures, small-corner _ pre.3 _ pre.2 c.corner_at-2.ensures)

pub cross-requires : goal.cross-requires
cross-requires c =
    let s = step-edge-requires c.before.before.before in
    let t = step-other-requires c.before in
    (small-step s.0 s.1 c.step-edge.ensures, small-step t.0 t.1 c.step-other.ensures)

pub returns : goal.returns
returns c =
    let from = c.corner_at-from.ensures in
    result-is w64 c.cross.type_inv (c.cross.ensures
    ∙ ap₂ cross (c.step-edge.ensures ∙ ap₂ ◌⊖◌ c.corner_at.ensures from)
    (c.step-other.ensures ∙ ap₂ ◌⊖◌ c.corner_at-2.ensures from) ∙ sym (turn-cross _ _ _))
