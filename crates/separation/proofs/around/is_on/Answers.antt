-- `is_on` meets its contract: the first edge of the sum, and the value of its ends.
use mathlib.Core.Path.{◌≡◌, refl, ◌∙◌, ap, ap₂}
use mathlib.Core.Bool.{Bool, false}
use lib.IntN.{ℤ, pos}
use lib.ListN.{length}
use lib.Signed.{le_z}
use mir.Syntax.{w64}
use mir.Val.{to_z, of_z}
use Rattle.integer.specs.Machine.{result-is}
use Rattle.plane.specs.Point.{points, corner}
use Rattle.plane.specs.Shape.{next}
use Rattle.plane.specs.Direction.{value}
use Rattle.plane.specs.VectorSum.{vector_sum}
use Rattle.polygon.specs.theory.Small.{small-plus}
use Rattle.calipers.specs.Image.{image}
use Rattle.calipers.specs.Side.{walk_of}
use Rattle.calipers.specs.Walk.{begun, At}
use Rattle.calipers.specs.theory.Carry.{sides-walk, sides-here, sides-advanced, sides-at, corners-fit, edges_fit}
use Rattle.separation.specs.Around.{origin_on}
use Rattle.separation.specs.theory.Image.{image-begun}
use Rattle.separation.proofs.Passing.{passing-start, passing-corners}
use Rattle.separation.proofs.around.is_on.Goals as goal
use Rattle.separation.proofs.around.is_on.Goals.{After-dot, After-next-n, After-side_at-t, Start}

-- the walk may begin
starts : (c : Start) → At c.args.a.now (image c.args.b.now) begun
starts c = image-begun _ _ c.requires.0 c.requires.1

-- the two sides, at the beginning
begins : (c : After-side_at-t) → walk_of c.side_at-s.result c.side_at-t.result false ≡ begun
begins c = sides-walk begun c.side_at-s.result c.side_at-t.result c.side_at-s.ensures.0 c.side_at-t.ensures.0

stands : (c : After-side_at-t)
    → At c.args.a.now (image c.args.b.now)
    (walk_of c.side_at-s.result c.side_at-t.result false)
stands c = rw (begins c) (starts c.before.before)

pub order-c-requires : goal.order-c-requires
order-c-requires c = edges_fit (stands c) c.side_at-s.ensures.1 c.side_at-t.ensures.1

pub here-requires : goal.here-requires
here-requires c =
    corners-fit (stands c.before.before.before) c.side_at-s.ensures.1 c.side_at-t.ensures.1

-- the two sides after the step
steps : (c : After-next-n) (end : Bool) → let args = c.args in
    At args.a.now (image args.b.now) (walk_of c.next-m.result c.next-n.result end)
steps c end =
    sides-at (stands c.before.before.before) c.side_at-s.ensures.1 c.side_at-t.ensures.1
    (result-is w64 c.order-c.type_inv c.order-c.ensures) c.next-m.result c.next-n.result
    c.next-m.ensures.0
    c.next-n.ensures.0

pub here-requires-2 : goal.here-requires-2
here-requires-2 c =
    corners-fit (steps c.before false) c.next-m.ensures.1 c.next-n.ensures.1

pub dot-requires : goal.dot-requires
dot-requires c =
    let first = corners-fit (stands c.before.before.before.before.before) c.side_at-s.ensures.1 c.side_at-t.ensures.1 in
    let second = corners-fit (steps c.before.before false) c.next-m.ensures.1 c.next-n.ensures.1 in
    (small-plus first.0 first.1 c.here.ensures, small-plus second.0 second.1 c.here-2.ensures)

-- what is tested, by the corners of the sum
tested : (c : After-dot) →
    let D = vector_sum (points c.args.a.now) (points (image c.args.b.now)) in
    to_z w64 (of_z w64 c.dot.result) ≡ value (corner D 0) (corner D (next (length D) 0))
tested c =
    let first = c.side_at-s.ensures.1 in
    let second = c.side_at-t.ensures.1 in
    let on = sides-advanced (stands c.before.before.before.before.before.before) first second
    (result-is w64 c.order-c.type_inv c.order-c.ensures)
    c.next-m.result c.next-n.result c.next-m.ensures.0 c.next-n.ensures.0 refl in
    result-is w64 c.dot.type_inv
    (c.dot.ensures ∙ ap₂ value (c.here.ensures ∙ sides-here (stands c.before.before.before.before.before.before) first second)
    (c.here-2.ensures ∙ sides-here (steps c.before.before.before _) c.next-m.ensures.1 c.next-n.ensures.1)
    ∙ passing-corners (passing-start (starts c.before.before.before.before.before.before.before.before)
    (begins c.before.before.before.before.before.before)) refl on value)

pub returns : goal.returns
unfolding origin_on
returns c = ap (λ (z : ℤ). le_z z (pos 0)) (tested c)
