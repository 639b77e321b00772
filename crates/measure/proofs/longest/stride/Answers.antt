-- `stride` meets its contract. The invariant: the best pair of the places passed, which all come before this one; the measure is how many
-- steps are to come at most.
use mathlib.Core.Path.{◌≡◌, refl, ◌∙◌}
use mathlib.Core.Bool.{Bool, not, cond}
use Prim.Native.Nat.{◌+◌, ◌<◌}
use native.Mathlib.Omega.{arith}
use lib.IntN.{pos}
use lib.Signed.{lt_z}
use mir.Syntax.{w64}
use mir.Val.{to_z, of_z}
use Rattle.integer.specs.Machine.{result-is}
use Rattle.plane.specs.Point.{points}
use Rattle.calipers.specs.declared.side.Side.{Side}
use Rattle.calipers.specs.Side.{onward, Carried}
use Rattle.measure.specs.Scan.{HalfAt}
use Rattle.measure.specs.theory.Chains.{chains-in}
use Rattle.measure.proofs.Stepped.{Inside, half-start, half-edges, half-corners, half_room, half-on}
use Rattle.measure.proofs.Stepped.{inside_on, inside-left, inside-told}
use Rattle.measure.proofs.Pairs.{apart-inner, pair-bounds, search-start, Onward, onward-inner}
use Rattle.measure.proofs.longest.stride.Goals as goal
use Rattle.measure.proofs.longest.stride.Goals.{After-ahead-s, After-ahead-t, After-order, After-side_at-t, In-loop-s}

pub side_at-s-requires : goal.side_at-s-requires
side_at-s-requires c = let v = c.requires.0.valid in (omega arith, v.in_range, v.shape.some)

pub side_at-t-requires : goal.side_at-t-requires
side_at-t-requires c = let from = c.requires.0 in (chains-in from.chains, from.valid.in_range, from.valid.shape.some)

-- the two sides before the loop
begins : (c : After-side_at-t) → let args = c.args in
    HalfAt args.list.now args.top c.side_at-s.result c.side_at-t.result
begins c = let from = c.requires.0 in
    half-start from.valid from.chains c.side_at-s.ensures c.side_at-t.ensures

pub apart-best-requires : goal.apart-best-requires
apart-best-requires c = half-corners (begins c)

pub loop-s-init : goal.loop-s-init
loop-s-init c =
    let pre = c.requires in
    let top-is = c.side_at-t.ensures.0 in
    let bounds = pair-bounds _ _ (c.apart-best.ensures ∙ apart-inner _ _ _ (omega (arith, top-is, pre.0.chains.within, pre.1))) in (
      search-start (begins c.before) pre.1 pre.0.sides c.side_at-s.ensures.0 top-is c.apart-best.ensures,
      bounds.0,
      bounds.1,
    )

pub are_inside-requires : goal.are_inside-requires
are_inside-requires c = let room = (half_room c.loop-s.invariant.0.half).0 in (omega (arith, room), omega (arith, room))

-- no chain ends soon
inside : (c : In-loop-s) → let args = c.args in
    Inside args.top args.end c.loop-s.s c.loop-s.t
inside c = c.are_inside.ensures c.loop-s-test.true

pub order-requires : goal.order-requires
order-requires c = half-edges c.loop-s.invariant.0.half

-- the sign alone tells the step: where it leads
stepped : (c : After-order) {b : Bool} {s' t' : Side} → lt_z (to_z w64 (of_z w64 c.order.result)) (pos 0) ≡ b
    →
    let args = c.args in
    let s = c.loop-s.s in
    let t = c.loop-s.t in
    let l = args.list.now in
    (s'.at ≡ cond (not b) s.at (onward (points l) s.at)) × Carried l s'
    → (t'.at ≡ cond b t.at (onward (points l) t.at)) × Carried l t'
    → Onward l args.n args.top args.end s t c.loop-s.best s' t'
stepped c e a b =
    let inv = c.loop-s.invariant in
    let half = inv.0.half in
    onward-inner inv.0 inv.1 inv.2 (inside c.before).1 (half-on half inv.0.sides
    (inside_on half inv.0.sides (inside c.before))
    (inside-told half inv.0.sides (inside c.before) (result-is w64 c.order.type_inv c.order.ensures) e) a b)

-- both sides can go on
ready : (c : In-loop-s) →
    (c.loop-s.s.at + 2 < c.loop-s.s.end) × (c.loop-s.t.at + 2 < c.loop-s.t.end)
ready c = let inv = c.loop-s.invariant.0 in inside-left inv.half inv.sides (inside c)

-- ---- on the right-hand chain
pub ahead-s-requires : goal.ahead-s-requires
ahead-s-requires c =
    let half = c.loop-s.invariant.0.half in
    (half.right_side, half.valid.in_range, half.valid.shape.some, (ready c.before.before).0)

right-on : (c : After-ahead-s) →
    let args = c.args in
    Onward args.list.now args.n args.top args.end c.loop-s.s c.loop-s.t c.loop-s.best
    c.ahead-s.result c.loop-s.t
right-on c =
    stepped c.before.before c.if-order-lt0.true c.ahead-s.ensures (refl, c.loop-s.invariant.0.half.left-side)

pub longer-best-requires : goal.longer-best-requires
longer-best-requires c = (right-on c).ready

pub loop-s-smaller-then-order-lt0 : goal.loop-s-smaller-then-order-lt0
loop-s-smaller-then-order-lt0 c = (right-on c.before).fewer

pub loop-s-preserved-then-order-lt0 : goal.loop-s-preserved-then-order-lt0
loop-s-preserved-then-order-lt0 c = (right-on c.before).again c.longer-best.ensures

-- ---- on the left-hand one
pub ahead-t-requires : goal.ahead-t-requires
ahead-t-requires c =
    let half = c.loop-s.invariant.0.half in
    (half.left-side, half.valid.in_range, half.valid.shape.some, (ready c.before.before).1)

left-on : (c : After-ahead-t) →
    let args = c.args in
    Onward args.list.now args.n args.top args.end c.loop-s.s c.loop-s.t c.loop-s.best
    c.loop-s.s c.ahead-t.result
left-on c =
    stepped c.before.before c.if-order-lt0.false (refl, c.loop-s.invariant.0.half.right_side) c.ahead-t.ensures

pub longer-best-requires-else-order-lt0 : goal.longer-best-requires-else-order-lt0
longer-best-requires-else-order-lt0 c = (left-on c).ready

pub loop-s-smaller : goal.loop-s-smaller
loop-s-smaller c = (left-on c.before).fewer

pub loop-s-preserved : goal.loop-s-preserved
loop-s-preserved c = (left-on c.before).again c.longer-best-else-order-lt0.ensures

pub returns : goal.returns
returns c = c.loop-s.invariant.0
