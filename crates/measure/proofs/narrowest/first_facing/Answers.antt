-- `first_facing` meets its contract: corner 0, or the one before the given one, or that itself.
use mathlib.Core.Path.{◌≡◌}
use Prim.Native.Nat.{◌-◌, ◌≤◌}
use native.Mathlib.Omega.{arith}
use mir.Syntax.{w64}
use mir.Val.{to_z, of_z}
use Rattle.integer.specs.Machine.{result-is}
use Rattle.plane.specs.Limits.{corners-small}
use Rattle.plane.specs.Point.{points, corner}
use Rattle.plane.specs.Turn.{turn}
use Rattle.plane.specs.Measure.{edge_turn, height}
use Rattle.measure.specs.theory.Passed.{facing-first, facing-before, facing-here}
use Rattle.measure.proofs.Found.{far-has, not_first, as-far, nearer}
use Rattle.measure.proofs.narrowest.first_facing.Goals as goal
use Rattle.measure.proofs.narrowest.first_facing.Goals.{After-turn_at, After-turn_at-2, After-turn_at-turn, Else-turn-turn_at}

-- ---- the turns, each where it is known
far-is : (c : After-turn_at-turn) → let ps = points c.args.list.now in
    to_z w64 (of_z w64 c.turn_at-turn.result)
    ≡ turn (corner ps c.args.edge) (corner ps c.round-end.result) (corner ps c.round-far.result)
far-is c = result-is w64 c.turn_at-turn.type_inv c.turn_at-turn.ensures

first-is : (c : After-turn_at) → let ps = points c.args.list.now in
    to_z w64 (of_z w64 c.turn_at.result)
    ≡ turn (corner ps c.args.edge) (corner ps c.round-end.result) (corner ps 0)
first-is c = result-is w64 c.turn_at.type_inv c.turn_at.ensures

before-turn : (c : After-turn_at-2) →
    let ps = points c.args.list.now in
    to_z w64 (of_z w64 c.turn_at-2.result)
    ≡ turn (corner ps c.args.edge) (corner ps c.round-end.result)
    (corner ps (c.round-far.result - 1))
before-turn c = result-is w64 c.turn_at-2.type_inv c.turn_at-2.ensures

-- ---- the needs
pub overflow_add-edge : goal.overflow_add-edge
overflow_add-edge c = omega (arith, c.requires.edge_in, c.requires.valid.few, corners-small)

pub round-end-requires : goal.round-end-requires
round-end-requires c = (omega (arith, c.requires.edge_in), c.requires.valid.shape.some)

pub round-far-requires : goal.round-far-requires
round-far-requires c = (c.requires.corner-in, c.requires.valid.shape.some)

pub turn_at-turn-requires : goal.turn_at-turn-requires
turn_at-turn-requires c =
    let pre = c.requires in (pre.edge_in, c.round-end.ensures.upper_bound, c.round-far.ensures.upper_bound, pre.valid.in_range)

pub turn_at-requires : goal.turn_at-requires
turn_at-requires c =
    let pre = c.requires in
    (pre.edge_in, c.round-end.ensures.upper_bound, pre.valid.shape.some, pre.valid.in_range)

pub returns-then-turn-turn_at : goal.returns-then-turn-turn_at
returns-then-turn-turn_at c =
    let pre = c.requires in
    facing-first pre.valid.shape.some (as-far pre c.round-end.ensures.value
    c.round-far.ensures.value 0 (far-is c.before.before) (first-is c.before) pre.valid.shape.some
    c.if-turn-turn_at.true)

-- past the first test corner 0 has a smaller turn, and so is not the given one
first-nearer : (c : Else-turn-turn_at) → let ps = points c.args.list.now in
    edge_turn ps c.args.edge 0 ≡ height ps c.args.edge → ⊥
first-nearer c =
    nearer c.requires c.round-end.ensures.value c.round-far.ensures.value 0 (far-is c.before.before)
    (first-is c.before) c.if-turn-turn_at.false

some-before : (c : Else-turn-turn_at) → 1 ≤ c.round-far.result
some-before c =
    not_first _ _ _ (far-has c.requires c.round-far.ensures.value) (first-nearer c)

pub overflow_sub-before : goal.overflow_sub-before
overflow_sub-before c = some-before c

pub turn_at-requires-2 : goal.turn_at-requires-2
turn_at-requires-2 c =
    let pre = c.requires in
    (pre.edge_in, c.round-end.ensures.upper_bound, omega (arith, c.round-far.ensures.upper_bound), pre.valid.in_range)

pub returns-then-turn-turn_at-2 : goal.returns-then-turn-turn_at-2
returns-then-turn-turn_at-2 c =
    let pre = c.requires in
    facing-before pre.valid.shape (omega (arith, pre.three)) pre.edge_in c.round-far.ensures.upper_bound
    (far-has pre c.round-far.ensures.value) (first-nearer c.before.before)
    (as-far pre c.round-end.ensures.value c.round-far.ensures.value _ (far-is c.before.before.before.before)
    (before-turn c.before) (omega (arith, c.round-far.ensures.upper_bound)) c.if-turn-turn_at-2.true)

pub returns-else-turn-turn_at-2 : goal.returns-else-turn-turn_at-2
returns-else-turn-turn_at-2 c =
    let pre = c.requires in
    facing-here pre.valid.shape (omega (arith, pre.three)) pre.edge_in c.round-far.ensures.upper_bound
    (far-has pre c.round-far.ensures.value) (first-nearer c.before.before)
    (nearer pre c.round-end.ensures.value c.round-far.ensures.value _ (far-is c.before.before.before.before)
    (before-turn c.before) c.if-turn-turn_at-2.false)
