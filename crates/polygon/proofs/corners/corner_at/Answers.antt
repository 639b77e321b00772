-- `corner_at` meets its contract: the places are within the list, and the numbers read back are the corner's.
use mir.Syntax.{w32}
use mathlib.Core.Path.{sym, ◌∙◌, ap₂}
use native.Mathlib.Omega.{arith}
use mir.Facts.{to_z-of_z}
use borrow.Author.Rules.{sfits_of}
use Rattle.plane.specs.Point.{point}
use Rattle.plane.proofs.theory.lists.Flat.{points-length, points-x, points-y}
use Rattle.polygon.proofs.corners.corner_at.Goals as goal

pub overflow_mul-result : goal.overflow_mul-result
overflow_mul-result c = omega (arith, points-length c.args.list.now)

pub offset_bounds-list-i : goal.offset_bounds-list-i
offset_bounds-list-i c = omega (arith, points-length c.args.list.now)

pub bounds-list-i : goal.bounds-list-i
bounds-list-i c = omega (arith, points-length c.args.list.now)

pub overflow_mul-result-2 : goal.overflow_mul-result-2
overflow_mul-result-2 c = omega (arith, points-length c.args.list.now)

pub overflow_add-result : goal.overflow_add-result
overflow_add-result c = omega (arith, points-length c.args.list.now)

pub offset_bounds-list-i-2 : goal.offset_bounds-list-i-2
offset_bounds-list-i-2 c = omega (arith, points-length c.args.list.now)

pub bounds-list-i-2 : goal.bounds-list-i-2
bounds-list-i-2 c = omega (arith, points-length c.args.list.now)

pub returns : goal.returns
returns c =
    let l = c.args.list.now in
    ap₂ point (to_z-of_z {w = w32} (sfits_of c.result-1.given) ∙ sym (points-x l c.args.i c.requires))
    (to_z-of_z {w = w32} (sfits_of c.result-2-1.given) ∙ sym (points-y l c.args.i c.requires))
