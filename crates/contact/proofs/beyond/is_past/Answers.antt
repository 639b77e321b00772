-- `is_past` meets its contract: the corner of the box is as small as its ends.
use mathlib.Core.Path.{◌≡◌, sym, ◌∙◌, ap, ap₂, subst}
use Prim.Native.Nat.{◌^◌}
use mir.Syntax.{w64}
use mir.Val.{to_z, of_z}
use lib.Signed.{lt_z}
use Rattle.integer.specs.Machine.{result-is}
use Rattle.plane.specs.Direction.{value}
use Rattle.polygon.specs.Point.{at, Small}
use Rattle.polygon.specs.theory.Small.{small-wide}
use Rattle.contact.specs.Share.{box_corner}
use Rattle.contact.proofs.theory.Sides.{small-place}
use Rattle.contact.proofs.theory.Beyond.{by_first, corner-small}
use Rattle.contact.proofs.beyond.is_past.Goals as goal
use Rattle.contact.proofs.beyond.is_past.Goals.{After-dot, After-dot-far}

pub dot-far-requires : goal.dot-far-requires
dot-far-requires c = let pre = c.requires in
    (small-wide pre.2, subst (Small (2 ^ 22)) (sym c.far_corner.ensures) (corner-small (at c.args.d) pre.0 pre.1))

pub dot-requires : goal.dot-requires
dot-requires c = let pre = c.requires in (small-wide pre.2, small-wide (small-place pre.3.from-near))

pub dot-requires-then-far-dot : goal.dot-requires-then-far-dot
dot-requires-then-far-dot c = let pre = c.requires in (small-wide pre.2, small-wide (small-place pre.3.to-near))

reach-is : (c : After-dot-far) → let args = c.args in
    to_z w64 (of_z w64 c.dot-far.result) ≡ value (at args.d) (box_corner (at args.e.high) (at args.e.low) (at args.d))
reach-is c = result-is w64 c.dot-far.type_inv (c.dot-far.ensures ∙ ap (value (at c.args.d)) c.far_corner.ensures)

-- how far the box reaches, and where the first place is
far-is : (c : After-dot) → let args = c.args in
    lt_z (to_z w64 (of_z w64 c.dot-far.result)) (to_z w64 (of_z w64 c.dot.result))
    ≡ lt_z (value (at args.d) (box_corner (at args.e.high) (at args.e.low) (at args.d))) (value (at args.d) (at args.t))
far-is c = ap₂ lt_z (reach-is c.before) (result-is w64 c.dot.type_inv c.dot.ensures)

pub returns-then-far-dot : goal.returns-then-far-dot
returns-then-far-dot c =
    ap₂ lt_z (reach-is c.before.before.before) (result-is w64 c.dot-then-far-dot.type_inv c.dot-then-far-dot.ensures)
    ∙ by_first _ (sym (far-is c.before.before) ∙ c.if-far-dot.true)

pub returns-else-far-dot : goal.returns-else-far-dot
returns-else-far-dot c = c.if-far-dot.false ∙ by_first _ (sym (far-is c.before) ∙ c.if-far-dot.false)
