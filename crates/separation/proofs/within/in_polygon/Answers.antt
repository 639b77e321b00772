-- `in_polygon` meets its contract. The invariant: no corner of a is to the right of an edge of b that is passed; the measure: the edges
-- that are left.
use mathlib.Core.Bool.{Bool, true, false}
use mathlib.Core.Path.{◌≡◌, sym, ◌∙◌, ap}
use Prim.Native.Nat.{◌^◌, ◌<◌}
use native.Mathlib.Omega.{arith}
use lib.IntN.{ℤ, pos}
use lib.ListN.{length}
use lib.Signed.{mag, lt_z, le_z}
use mir.Syntax.{w64}
use mir.Val.{hbits, to_z, of_z}
use Rattle.integer.specs.Machine.{result-is}
use Rattle.plane.specs.Point.{points}
use Rattle.plane.proofs.theory.lists.Sought.{true-not-false}
use Rattle.calipers.specs.theory.Carry.{corners-fit, edges_fit}
use Rattle.separation.proofs.Beside.{beside-start, is_right, beside-right, beside-more, beside-less, beside-all}
use Rattle.separation.proofs.within.in_polygon.Goals as goal
use Rattle.separation.proofs.within.in_polygon.Goals.{In-loop-t, Joined-else-passes, else-passes-via-else-passes}
use Rattle.separation.proofs.within.in_polygon.Goals.{else-passes-via-then-passes+else-turn-lt0}

pub loop-t-init : goal.loop-t-init
loop-t-init c =
    let pre = c.requires in
    let first = c.side_at-s.ensures in
    let second = c.side_at-t.ensures in
    beside-start pre.0 pre.1 pre.2 first.0 second.0 first.1 second.1

-- there is an edge of b to pass
there : (c : In-loop-t)
    → c.loop-t.t.at < length (points c.args.b.now)
there c = omega (arith, c.loop-t-test.true, c.count-n.ensures)

pub order-c-requires : goal.order-c-requires
order-c-requires c =
    let inv = c.loop-t.invariant in
    edges_fit inv.place inv.first-side inv.second-side

pub turn-requires : goal.turn-requires
turn-requires c =
    let inv = c.loop-t.invariant in
    let corners = corners-fit inv.place inv.first-side inv.second-side in
    (corners.1, corners.0, (edges_fit inv.place inv.first-side inv.second-side).1)

-- what the test of a call's result says
told : {x v : ℤ} {u : Bool} → mag x < 2 ^ hbits w64 → x ≡ v → lt_z (to_z w64 (of_z w64 x)) (pos 0) ≡ u → lt_z v (pos 0) ≡ u
told ok e h = ap (λ (z : ℤ). lt_z z (pos 0)) (sym (result-is w64 ok e)) ∙ h

pub returns-then-turn-lt0 : goal.returns-then-turn-lt0
returns-then-turn-lt0 c =
    sym (beside-right c.loop-t.invariant (there c.before.before.before.before) (told c.turn.type_inv c.turn.ensures c.if-turn-lt0.true))

pub loop-t-smaller : goal.loop-t-smaller
loop-t-smaller c =
    beside-less c.loop-t.invariant (there c.before.before.before.before) c.next-s.result c.next-t.result
    (result-is w64 c.order-c.type_inv c.order-c.ensures) c.next-s.ensures.0 c.next-t.ensures.0

-- where the edge is passed, the corner at hand is not to its right
asked : (c : Joined-else-passes) →
    le_z (to_z w64 (of_z w64 c.order-c.result)) (pos 0) ≡ true → is_right c.loop-t.s c.loop-t.t ≡ false
asked c e = elim c.else-passes.branch [
  | else-passes-via-then-passes+else-turn-lt0 w ↦ told w.turn.type_inv w.turn.ensures w.if-turn-lt0.false
  | else-passes-via-else-passes w ↦ true-not-false e w.if-passes.false
]

pub loop-t-preserved : goal.loop-t-preserved
loop-t-preserved c =
    beside-more c.loop-t.invariant (there c.before.before.before.before) c.next-s.result c.next-t.result
    (result-is w64 c.order-c.type_inv c.order-c.ensures) c.next-s.ensures.0 c.next-t.ensures.0
    c.next-s.ensures.1 c.next-t.ensures.1 (asked c.before.before)

pub returns : goal.returns
returns c =
    sym (beside-all c.loop-t.invariant (omega (arith, c.loop-t-test.false, c.count-n.ensures)))
