-- `stride` meets its contract. The invariant: the best of the edges passed; the measure is how many steps are to come.
use mathlib.Core.Path.{◌≡◌, refl}
use mathlib.Core.Bool.{Bool, true, false}
use Prim.Native.Nat.{◌+◌, ◌<◌}
use native.Mathlib.Omega.{arith}
use lib.IntN.{pos}
use lib.Signed.{lt_z}
use mir.Syntax.{w64}
use mir.Val.{to_z, of_z}
use Rattle.integer.specs.Machine.{result-is}
use Rattle.plane.specs.Turn.{cross}
use Rattle.calipers.specs.Side.{next_of}
use Rattle.measure.specs.Half.{goes_right}
use Rattle.measure.specs.theory.Chains.{chains-in}
use Rattle.measure.proofs.Stepped.{Inside, half-start, half-edges, half_room, half-on, inside_on, inside-left, inside-told}
use Rattle.measure.proofs.Sweep.{sweep-start, sweep-fits, sweep-next}
use Rattle.measure.proofs.narrowest.stride.Goals as goal
use Rattle.measure.proofs.narrowest.stride.Goals.{After-order, In-loop-best}

pub side_at-s-requires : goal.side_at-s-requires
side_at-s-requires c = let v = c.requires.0.valid in (omega arith, v.in_range, v.shape.some)

pub side_at-t-requires : goal.side_at-t-requires
side_at-t-requires c = let from = c.requires.0 in (chains-in from.chains, from.valid.in_range, from.valid.shape.some)

pub loop-best-init : goal.loop-best-init
loop-best-init c =
    let pre = c.requires in
    sweep-start (half-start pre.0.valid pre.0.chains c.side_at-s.ensures c.side_at-t.ensures) pre.1 pre.0.sides
    c.side_at-s.ensures.0 c.side_at-t.ensures.0

pub are_inside-requires : goal.are_inside-requires
are_inside-requires c = let room = (half_room c.loop-best.invariant.half).0 in (omega (arith, room), omega (arith, room))

-- no chain ends soon
inside : (c : In-loop-best) → let args = c.args in
    Inside args.top args.end c.loop-best.s c.loop-best.t
inside c = c.are_inside.ensures c.loop-best-test.true

pub order-requires : goal.order-requires
order-requires c = half-edges c.loop-best.invariant.half

-- the sign alone tells the step, and one is to come
told : (c : After-order) {b : Bool} → lt_z (to_z w64 (of_z w64 c.order.result)) (pos 0) ≡ b
    →
    let args = c.args in
    let s = c.loop-best.s in
    let t = c.loop-best.t in
    (s.at + t.at < args.top + args.end) × (b ≡ goes_right args.top args.end s.at t.at (cross (next_of s) (next_of t)))
told c e =
    let inv = c.loop-best.invariant in (
      inside_on inv.half inv.sides (inside c.before),
      inside-told inv.half inv.sides (inside c.before) (result-is w64 c.order.type_inv c.order.ensures) e,
    )

-- both sides can go on
ready : (c : In-loop-best) →
    (c.loop-best.s.at + 2 < c.loop-best.s.end) × (c.loop-best.t.at + 2 < c.loop-best.t.end)
ready c = let inv = c.loop-best.invariant in inside-left inv.half inv.sides (inside c)

-- ---- a step on the right-hand chain
pub measured-requires : goal.measured-requires
measured-requires c = sweep-fits c.loop-best.invariant true refl refl

pub ahead-s-requires : goal.ahead-s-requires
ahead-s-requires c =
    let half = c.loop-best.invariant.half in (half.valid, half.right_side, (ready c.before.before.before.before).0)

pub loop-best-smaller-then-order-lt0 : goal.loop-best-smaller-then-order-lt0
loop-best-smaller-then-order-lt0 c =
    let inv = c.loop-best.invariant in
    let e = told c.before.before.before.before c.if-order-lt0.true in
    (half-on inv.half inv.sides e.0 e.1 c.ahead-s.ensures (refl, inv.half.left-side)).2

pub loop-best-preserved-then-order-lt0 : goal.loop-best-preserved-then-order-lt0
loop-best-preserved-then-order-lt0 c =
    let inv = c.loop-best.invariant in
    let e = told c.before.before.before.before c.if-order-lt0.true in
    sweep-next inv true refl refl e.0 e.1 c.ahead-s.ensures (refl, inv.half.left-side) c.measured.ensures
    c.narrower-best.ensures

-- ---- and on the left-hand one
pub measured-requires-else-order-lt0 : goal.measured-requires-else-order-lt0
measured-requires-else-order-lt0 c = sweep-fits c.loop-best.invariant false refl refl

pub ahead-t-requires : goal.ahead-t-requires
ahead-t-requires c =
    let half = c.loop-best.invariant.half in (half.valid, half.left-side, (ready c.before.before.before.before).1)

pub loop-best-smaller : goal.loop-best-smaller
loop-best-smaller c =
    let inv = c.loop-best.invariant in
    let e = told c.before.before.before.before c.if-order-lt0.false in
    (half-on inv.half inv.sides e.0 e.1 (refl, inv.half.right_side) c.ahead-t.ensures).2

pub loop-best-preserved : goal.loop-best-preserved
loop-best-preserved c =
    let inv = c.loop-best.invariant in
    let e = told c.before.before.before.before c.if-order-lt0.false in
    sweep-next inv false refl refl e.0 e.1 (refl, inv.half.right_side) c.ahead-t.ensures c.measured-else-order-lt0.ensures
    c.narrower-best-else-order-lt0.ensures

pub returns : goal.returns
returns c = c.loop-best.invariant
