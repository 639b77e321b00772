-- `precedes` meets its contract: the two tests on y leave equal y.
use mathlib.Core.Path.{◌≡◌, refl, sym, ◌∙◌, ap₂}
use mir.Syntax.{w32}
use mir.Val.{to_z, of_z}
use Rattle.integer.specs.Machine.{result-is}
use Rattle.integer.specs.Order.{lt_z-true, lt_z-false}
use Rattle.plane.specs.Point.{Point, point}
use Rattle.plane.specs.Shape.{precedes}
use Rattle.plane.proofs.theory.forms.Precedes.{precedes-below, precedes-above, precedes-level}
use Rattle.polygon.specs.Point.{at}
use Rattle.polygon.proofs.point.precedes.Goals as goal
use Rattle.polygon.proofs.point.precedes.Goals.{After-struct_told-2-1}

-- a point, read back from the bits of its coordinates
abbrev readback : Point → Point
readback p = point (to_z w32 (of_z w32 p.x)) (to_z w32 (of_z w32 p.y))

same : (c : After-struct_told-2-1) → let args = c.args in
    precedes (readback (at args.a)) (readback (at args.b)) ≡ precedes (at args.a) (at args.b)
same c =
    ap₂ precedes (ap₂ point (result-is w32 c.struct_told-1.given.0.1 refl) (result-is w32 c.struct_told-1.given.1.0.1 refl))
    (ap₂ point (result-is w32 c.struct_told-2-1.given.0.1 refl) (result-is w32 c.struct_told-2-1.given.1.0.1 refl))

pub returns-then-a-b : goal.returns-then-a-b
returns-then-a-b c = sym (precedes-below _ _ (lt_z-true c.if-a-b.true)) ∙ same (goal.at.returns-then-a-b c).After-struct_told-2-1

pub returns-then-b-a : goal.returns-then-b-a
returns-then-b-a c = sym (precedes-above _ _ (lt_z-true c.if-b-a.true)) ∙ same (goal.at.returns-then-b-a c).After-struct_told-2-1

pub returns-else-b-a : goal.returns-else-b-a
returns-else-b-a c =
    sym (precedes-level _ _ (lt_z-false c.if-b-a.false) (lt_z-false c.if-a-b.false))
    ∙ same (goal.at.returns-else-b-a c).After-struct_told-2-1
