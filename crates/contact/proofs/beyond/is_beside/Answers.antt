-- `is_beside` meets its contract: the opposite direction is as small.
use mathlib.Core.Path.{sym, ◌∙◌, ap}
use mathlib.Core.Bool.{Bool, ◌||◌}
use Rattle.plane.specs.Point.{Point, opposite}
use Rattle.polygon.specs.Point.{at}
use Rattle.contact.specs.Share.{is_past}
use Rattle.contact.proofs.theory.Beyond.{opposite-small}
use Rattle.contact.proofs.beyond.is_beside.Goals as goal

pub returns-then-is_past : goal.returns-then-is_past
returns-then-is_past c =
    let args = c.args in
    c.if-is_past.true
    ∙ ap (λ (b : Bool). b || is_past (at args.e.high) (at args.e.low) (opposite (at args.d)) (at args.t) (at args.u))
    (sym c.if-is_past.true ∙ c.is_past.ensures)

pub is_past-requires-else-is_past : goal.is_past-requires-else-is_past
is_past-requires-else-is_past c =
    let pre = c.requires in
    (pre.0, pre.1, opposite-small c.opposite.ensures pre.2, pre.3)

pub returns-else-is_past : goal.returns-else-is_past
returns-else-is_past c =
    let args = c.args in
    c.is_past-else-is_past.ensures
    ∙ ap (λ (d : Point). is_past (at args.e.high) (at args.e.low) d (at args.t) (at args.u)) c.opposite.ensures
    ∙ ap (λ (b : Bool). b || is_past (at args.e.high) (at args.e.low) (opposite (at args.d)) (at args.t) (at args.u))
    (sym c.if-is_past.false ∙ c.is_past.ensures)
