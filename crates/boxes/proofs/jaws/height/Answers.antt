-- `height` meets its contract: the corner furthest to the left of the edge has the greatest turn.
use mathlib.Core.Path.{◌≡◌, sym, ◌∙◌, ap}
use native.Mathlib.Omega.{arith}
use mir.Syntax.{w64}
use mir.Val.{to_z, of_z}
use lib.Signed.{◌≤ℤ◌}
use lib.IntN.{pos}
use Rattle.integer.specs.Machine.{result-is}
use Rattle.plane.specs.Limits.{corners-small}
use Rattle.plane.specs.Point.{points, corner}
use Rattle.plane.specs.Turn.{turn}
use Rattle.plane.specs.Measure.{edge_turn}
use Rattle.plane.proofs.theory.sum.Positions.{edge-turn}
use Rattle.measure.specs.theory.Height.{furthest-height}
use Rattle.boxes.proofs.Sizes.{below_half}
use Rattle.boxes.proofs.jaws.height.Goals as goal
use Rattle.boxes.proofs.jaws.height.Goals.{After-turn_at}

pub overflow_add-edge : goal.overflow_add-edge
overflow_add-edge c = omega (arith, c.requires.edge_in, c.requires.valid.few, corners-small)

pub round-end-requires : goal.round-end-requires
round-end-requires c = (omega (arith, c.requires.edge_in), c.requires.valid.shape.some)

pub turn_at-requires : goal.turn_at-requires
turn_at-requires c =
    let pre = c.requires in
    (pre.edge_in, c.round-end.ensures.upper_bound, pre.holds.high-furthest.within, pre.valid.in_range)

told : (c : After-turn_at) → let args = c.args in let ps = points args.list.now in
    to_z w64 (of_z w64 c.turn_at.result) ≡
    turn (corner ps args.edge) (corner ps c.round-end.result) (corner ps args.at.high)
told c = result-is w64 c.turn_at.type_inv c.turn_at.ensures

turn_is : (c : After-turn_at) → let args = c.args in
    to_z w64 (of_z w64 c.turn_at.result) ≡ edge_turn (points args.list.now) args.edge args.at.high
unfolding edge_turn
turn_is c =
    let args = c.args in
    let ps = points args.list.now in
    told c ∙ ap (λ b. turn (corner ps args.edge) (corner ps b) (corner ps args.at.high)) c.round-end.ensures.value

not_right : (c : After-turn_at) → let args = c.args in
    pos 0 ≤ℤ edge_turn (points args.list.now) args.edge args.at.high
unfolding edge_turn
not_right c =
    let pre = c.requires in
    edge-turn _ pre.valid.shape _ _ pre.edge_in pre.holds.high-furthest.within

pub magnitude-requires : goal.magnitude-requires
magnitude-requires c = rw (turn_is c) (not_right c)

pub returns : goal.returns
returns c = (
  sym (furthest-height _ _ c.requires.valid.shape.some _ c.requires.holds.high-furthest.has) ∙ sym (turn_is c.before)
      ∙ c.magnitude.ensures,
  below_half c.turn_at.result c.turn_at.type_inv c.magnitude.ensures,
)
