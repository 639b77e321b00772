-- `squared` meets its contract.
use mathlib.Core.Path.{◌≡◌, sym, ◌∙◌, ap}
use mir.Syntax.{w64}
use mir.Val.{to_z, of_z}
use Rattle.integer.specs.Machine.{result-is}
use Rattle.plane.specs.Point.{Point, points}
use Rattle.plane.specs.Direction.{value}
use Rattle.plane.specs.Measure.{edge_squared}
use Rattle.plane.proofs.theory.forms.Vector.{value-nonneg}
use Rattle.plane.proofs.theory.lists.Next.{next-below}
use Rattle.polygon.specs.theory.Small.{small-edge, small-wide}
use Rattle.measure.specs.theory.Height.{edge_squared-value}
use Rattle.boxes.proofs.jaws.squared.Goals as goal
use Rattle.boxes.proofs.jaws.squared.Goals.{After-dot}

pub dot-requires : goal.dot-requires
dot-requires c =
    let pre = c.requires in
    let small = small-wide (small-edge _ pre.0.in_range _ _ pre.1 (next-below _ _ pre.1) c.edge_at-along.ensures) in
    (small, small)

dot-is : (c : After-dot) → let args = c.args in
    edge_squared (points args.list.now) args.edge ≡ to_z w64 (of_z w64 c.dot.result)
dot-is c = edge_squared-value _ _ ∙ sym (ap (λ (e : Point). value e e) c.edge_at-along.ensures)
    ∙ sym (result-is w64 c.dot.type_inv c.dot.ensures)

pub magnitude-requires : goal.magnitude-requires
magnitude-requires c = rw (result-is w64 c.dot.type_inv c.dot.ensures) (value-nonneg _)

pub returns : goal.returns
returns c = dot-is c.before ∙ c.magnitude.ensures
