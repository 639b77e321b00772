-- `dot` meets its contract: the value of a direction is the cross product with its left.
use mathlib.Core.Path.{◌≡◌, sym, ◌∙◌, ap, ap₂, subst}
use lib.IntN.{pos, ◌-ℤ◌, +ℤ_idl}
use mir.Syntax.{w32, w64}
use mir.Val.{to_z, of_z}
use Rattle.integer.specs.Bound.{within-neg}
use Rattle.integer.specs.Machine.{machine, bounded, machine-is, result-is}
use Rattle.plane.specs.Cut.{quarter}
use Rattle.plane.specs.Point.{point}
use Rattle.plane.specs.Turn.{cross}
use Rattle.plane.proofs.theory.forms.Vector.{value-cross}
use Rattle.polygon.specs.Point.{at, Small}
use Rattle.polygon.proofs.point.dot.Goals as goal
use Rattle.polygon.proofs.point.dot.Goals.{After-struct_told-2-1}

-- the left of d, as it is passed on
left_is : (c : After-struct_told-2-1) → let d = c.args.d in
    point (to_z w32 (of_z w32 (pos 0 -ℤ to_z w32 (of_z w32 d.y)))) (to_z w32 (of_z w32 d.x)) ≡ quarter (at d)
left_is c = ap₂ point (machine-is (search (machine, bounded) depth 40) tt ∙ +ℤ_idl _) (machine-is (search (machine, bounded) depth 40) tt)

pub cross-requires : goal.cross-requires
cross-requires c =
    let pre = c.requires in
    (pre.1, subst (Small _) (sym (left_is c)) (record { small-x = within-neg pre.0.small-y; small-y = pre.0.small-x }))

pub returns : goal.returns
returns c =
    let args = c.args in
    result-is w64 c.cross.type_inv (c.cross.ensures
    ∙ ap (cross (at args.p)) (left_is c.before) ∙ sym (value-cross (at args.d) (at args.p)))
