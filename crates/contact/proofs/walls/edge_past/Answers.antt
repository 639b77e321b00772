-- `edge_past` meets its contract: no corner is past the line of an edge, so how far a place is past it is its turn.
use mathlib.Core.Path.{◌≡◌, sym, ◌∙◌, ap, ap₂, subst}
use Prim.Native.Nat.{ℕ}
use lib.IntN.{ℤ, neg_ℤ}
use lib.ListN.{length}
use mir.Syntax.{w64}
use mir.Val.{to_z, of_z}
use Rattle.integer.specs.Bound.{Within, within-neg}
use Rattle.integer.specs.Machine.{result-is}
use Rattle.plane.specs.Point.{Point, points, corner}
use Rattle.plane.specs.Turn.{turn}
use Rattle.plane.specs.Shape.{next}
use Rattle.plane.proofs.theory.lists.Flat.{points_near}
use Rattle.plane.proofs.theory.lists.Next.{next-below}
use Rattle.plane.proofs.theory.support.Bounds.{turn-size}
use Rattle.polygon.specs.Point.{at}
use Rattle.polygon.specs.theory.Small.{small-corner}
use Rattle.contact.proofs.theory.Sides.{near-place, small-place, past-edge}
use Rattle.contact.proofs.walls.edge_past.Goals as goal
use Rattle.contact.proofs.walls.edge_past.Goals.{After-corner_at-b, After-past}

-- the second corner
end_is : (c : After-corner_at-b) → let args = c.args in let G = points args.list.now in
    at c.corner_at-b.result ≡ corner G (next (length G) args.i)
end_is c =
    let args = c.args in
    c.corner_at-b.ensures ∙ ap (corner (points args.list.now)) (c.next.ensures.value
    ∙ ap (λ (n : ℕ). next n args.i) c.count.ensures)

pub past-requires : goal.past-requires
past-requires c =
    let p = c.requires in (
      small-corner _ p.0.in_range _ p.1 c.corner_at-a.ensures,
      small-corner _ p.0.in_range _ (next-below _ _ p.1) (end_is c),
      small-place p.2,
    )

-- how far the place is past it
turn_is : (c : After-past) → let args = c.args in let G = points args.list.now in
    to_z w64 (of_z w64 c.past.result) ≡ neg_ℤ (turn (corner G args.i) (corner G (next (length G) args.i)) (at args.p))
turn_is c =
    let args = c.args in
    result-is w64 c.past.type_inv (c.past.ensures ∙ ap₂ (λ (a b : Point). neg_ℤ (turn a b (at args.p)))
    c.corner_at-a.ensures (end_is c.before))

pub returns : goal.returns
returns c =
    let p = c.requires in
    let G = points c.args.list.now in
    let from = points_near _ p.0.in_range c.args.i p.1 in
    let to = points_near _ p.0.in_range (next (length G) c.args.i) (next-below _ _ p.1) in (
      turn_is c ∙ past-edge G p.0.shape c.args.i p.1 (at c.args.p),
      subst (λ (z : ℤ). Within 8_000_000_000_000 z) (sym (turn_is c)) (within-neg (turn-size from to (near-place p.2))),
    )
