-- `pass` meets its contract. The invariant: `count` edges are passed and none has the origin to its right, and the walk with these two
-- sides is as far and not over; the measure: what is left.
use mathlib.Core.Path.{◌≡◌, refl, sym, ◌∙◌, ap₂, subst}
use mathlib.Core.Bool.{Bool, false, cond, ◌||◌}
use Prim.Native.Nat.{ℕ, ◌+◌, ◌-◌, ◌^◌, ◌<◌}
use native.Mathlib.Omega.{arith}
use lib.Dec.{ltb}
use lib.ListN.{length}
use lib.IntN.{pos}
use lib.Signed.{le_z}
use mir.Syntax.{w64}
use mir.Val.{to_z, of_z}
use Rattle.integer.specs.Machine.{result-is}
use Rattle.plane.specs.Point.{points}
use Rattle.plane.specs.Turn.{cross}
use Rattle.plane.specs.Forms.{edges}
use Rattle.plane.proofs.theory.lists.Flat.{points-length}
use Rattle.plane.specs.Cut.{outward}
use Rattle.polygon.specs.Point.{at}
use Rattle.polygon.specs.theory.Small.{small-wide}
use Rattle.calipers.specs.Image.{image}
use Rattle.calipers.specs.Side.{walk_of}
use Rattle.calipers.specs.Walk.{here, finished, advanced, At}
use Rattle.calipers.specs.theory.Carry.{all-passed, some_left, sides-here, sides-advanced, sides-at}
use Rattle.calipers.specs.theory.Carry.{here-near, corners-fit, edges_fit}
use Rattle.calipers.specs.theory.Image.{image-count}
use Rattle.separation.specs.Passing.{Passing}
use Rattle.separation.specs.theory.Image.{image-few, image-sides}
use Rattle.separation.proofs.Passing.{
  passing-at,
  passing-below,
  passing-count,
  passing-more,
  passing-out,
  passing-end,
}
use Rattle.separation.proofs.around.pass.Goals as goal
use Rattle.separation.proofs.around.pass.Goals.{After-cross-turn, After-here, After-next-n, After-stride-far, Start}

-- their count fits
fits : (c : Start) → let args = c.args in
    length (edges (points args.a.now)) + length (edges (points (image args.b.now))) < 2 ^ 63
fits c = omega (arith, image-few _ _ c.requires.0 c.requires.1, c.well_formed.0, c.well_formed.1.0)

pub overflow_add-all : goal.overflow_add-all
overflow_add-all c =
    let p = c.stride-far.ensures in
    omega (arith, image-sides p.first-side p.second-side, fits c.before.before.before.before.before)

pub overflow_add-count : goal.overflow_add-count
overflow_add-count c =
    let p = c.stride-far.ensures in
    omega (arith, p.first-side.at_in, p.second-side.at_in, fits c.before.before.before.before.before.before.before)

pub loop-m-init : goal.loop-m-init
loop-m-init c =
    let args = c.args in
    let r = c.stride-far.result in
    let p = c.stride-far.ensures in
    let count : p.count ≡ r.s.at + r.t.at - r.joined = omega (arith, p.counted) in (
      subst (λ (k : ℕ). Passing args.a.now (image args.b.now) (walk_of r.s r.t false) k false) count p.passing,
      p.first-side,
      p.second-side,
    )

pub order-c-requires : goal.order-c-requires
order-c-requires c = let inv = c.loop-m.invariant in edges_fit (passing-at inv.0) inv.1 inv.2

pub here-from-requires : goal.here-from-requires
here-from-requires c = let inv = c.loop-m.invariant in corners-fit (passing-at inv.0) inv.1 inv.2

-- the walk after the step
steps : (c : After-next-n) (end : Bool) →
    let args = c.args in
    At args.a.now (image args.b.now) (walk_of c.next-m.result c.next-n.result end)
steps c end =
    let inv = c.loop-m.invariant in
    sides-at (passing-at inv.0) inv.1 inv.2 (result-is w64 c.order-c.type_inv c.order-c.ensures)
    c.next-m.result c.next-n.result c.next-m.ensures.0 c.next-n.ensures.0

advances : (c : After-next-n) →
    let args = c.args in
    let m = c.next-m.result in
    let n = c.next-n.result in
    walk_of m n (finished (points args.a.now) m.at (points (image args.b.now)) n.at)
    ≡ advanced (points args.a.now) (points (image args.b.now)) (walk_of c.loop-m.s c.loop-m.t false)
advances c =
    let inv = c.loop-m.invariant in
    sides-advanced (passing-at inv.0) inv.1 inv.2 (result-is w64 c.order-c.type_inv c.order-c.ensures)
    c.next-m.result c.next-n.result c.next-m.ensures.0 c.next-n.ensures.0 refl

pub here-requires : goal.here-requires
here-requires c =
    corners-fit (steps c false) c.next-m.ensures.1 c.next-n.ensures.1

-- where it is before and after the step
leaves : (c : After-here) →
    let args = c.args in
    at c.here-from.result
    ≡ here (points args.a.now) (points (image args.b.now)) (walk_of c.loop-m.s c.loop-m.t false)
leaves c = let inv = c.loop-m.invariant in
    c.here-from.ensures ∙ sides-here (passing-at inv.0) inv.1 inv.2

arrives : (c : After-here) (end : Bool) →
    let args = c.args in
    at c.here.result
    ≡ here (points args.a.now) (points (image args.b.now)) (walk_of c.next-m.result c.next-n.result end)
arrives c end =
    c.here.ensures ∙ sides-here (steps c.before end) c.next-m.ensures.1 c.next-n.ensures.1

pub cross-turn-requires : goal.cross-turn-requires
cross-turn-requires c =
    let inv = c.loop-m.invariant in
    (small-wide (here-near (passing-at inv.0) (leaves c)), small-wide (here-near (steps c.before false) (arrives c false)))

pub overflow_add-count-in-loop-m : goal.overflow_add-count-in-loop-m
overflow_add-count-in-loop-m c =
    let fewer = passing-count c.loop-m.invariant.0 refl in
    let count = image-count c.args.b.now c.requires.1 in
    omega (arith, points-length c.args.a.now, points-length c.args.b.now)

pub overflow_add-m : goal.overflow_add-m
overflow_add-m c =
    let first = c.next-m.ensures.1.at_in in
    let second = c.next-n.ensures.1.at_in in
    let at-loop = c.before.before.before.before.before.before.before.before.before.before in
    omega (arith, fits at-loop.before.before.before.before.before.before.before.before)

pub passed_normal-requires : goal.passed_normal-requires
passed_normal-requires c =
    let inv = c.loop-m.invariant in
    let first = corners-fit (passing-at inv.0) inv.1 inv.2 in
    let second = corners-fit (steps c.before.before.before false) c.next-m.ensures.1 c.next-n.ensures.1 in
    (first.0, first.1, second.0, second.1)

-- the turn of the edge that is passed
turn_is : (c : After-cross-turn) (end : Bool) →
    let args = c.args in
    to_z w64 (of_z w64 c.cross-turn.result)
    ≡ cross (here (points args.a.now) (points (image args.b.now)) (walk_of c.loop-m.s c.loop-m.t false))
    (here (points args.a.now) (points (image args.b.now)) (walk_of c.next-m.result c.next-n.result end))
turn_is c end = result-is w64 c.cross-turn.type_inv (c.cross-turn.ensures ∙ ap₂ cross (leaves c.before) (arrives c.before end))

pub returns-then-turn-lt0 : goal.returns-then-turn-lt0
returns-then-turn-lt0 c = let inv = c.loop-m.invariant in record {
  passed = passing-out inv.0 refl (advances c.before.before.before.before)
      (turn_is c.before.before _) c.if-turn-lt0.true c.passed_normal.result
      (c.passed_normal.ensures ∙ ap₂ (cond (ltb c.loop-m.s.at c.next-m.result.at))
      (ap₂ outward inv.1.corner-is c.next-m.ensures.1.corner-is)
      (ap₂ outward inv.2.corner-is c.next-n.ensures.1.corner-is));
  stood = record { count = c.loop-m.count; below = passing-below inv.0 refl; moved = inv.0.moved };
}

pub returns-then-m-n : goal.returns-then-m-n
returns-then-m-n c = let strode = c.stride-far.ensures in
    let inv = c.loop-m.invariant in record {
      passed = passing-end (passing-more inv.0 refl (advances c.before.before.before.before.before.before)
          (turn_is c.before.before.before.before _) c.if-turn-lt0.false refl)
          (all-passed _ _ _ _ c.next-m.ensures.1.at_in c.next-n.ensures.1.at_in
          (c.if-m-n.true ∙ image-sides strode.first-side strode.second-side));
      stood = record { count = c.loop-m.count; below = passing-below inv.0 refl; moved = inv.0.moved };
    }

pub loop-m-smaller : goal.loop-m-smaller
loop-m-smaller c =
    omega (arith, passing-below c.loop-m.invariant.0 refl)

pub loop-m-preserved : goal.loop-m-preserved
loop-m-preserved c =
    let strode = c.stride-far.ensures in
    let inv = c.loop-m.invariant in
    let args = c.args in
    let on = some_left _ _ c.next-m.result.at c.next-n.result.at
    (λ e. c.if-m-n.false (e ∙ sym (image-sides strode.first-side strode.second-side))) in (
      subst (λ (o : Bool). Passing args.a.now (image args.b.now) (walk_of c.next-m.result c.next-n.result o)
          (c.loop-m.count + 1) (c.loop-m.rim || le_z (to_z w64 (of_z w64 c.cross-turn.result)) (pos 0))) on
          (passing-more inv.0 refl (advances c.before.before.before.before.before.before)
          (turn_is c.before.before.before.before _) c.if-turn-lt0.false refl),
      c.next-m.ensures.1,
      c.next-n.ensures.1,
    )
