-- `same_at` meets its contract: two points are the same if neither precedes the other.
use mathlib.Core.Path.{sym, ◌∙◌, ap, ap₂}
use mathlib.Core.Bool.{Bool, not, ◌&&◌}
use Rattle.plane.specs.Point.{points, corner}
use Rattle.plane.specs.Shape.{precedes}
use Rattle.plane.proofs.theory.forms.Precedes.{same_point-neither}
use Rattle.ring.proofs.places.same_at.Goals as goal

pub returns-then-not-precedes_at : goal.returns-then-not-precedes_at
returns-then-not-precedes_at c =
    let i = corner (points c.args.list.now) c.args.i in
    let j = corner (points c.args.list.now) c.args.j in
    sym (same_point-neither i j ∙ ap₂ (λ (s t : Bool). not s && not t) (sym c.precedes_at.ensures)
    (sym c.precedes_at-then-not-precedes_at.ensures) ∙ ap (λ (s : Bool). not s && not c.precedes_at-then-not-precedes_at.result)
    c.if-not-precedes_at.true)

pub returns-else-not-precedes_at : goal.returns-else-not-precedes_at
returns-else-not-precedes_at c =
    let i = corner (points c.args.list.now) c.args.i in
    let j = corner (points c.args.list.now) c.args.j in
    ap not c.if-not-precedes_at.false
    ∙ sym (same_point-neither i j ∙ ap (λ (s : Bool). not s && not (precedes j i)) (sym c.precedes_at.ensures)
    ∙ ap (λ (s : Bool). not s && not (precedes j i)) c.if-not-precedes_at.false)
