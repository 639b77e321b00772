-- `count` meets its contract. The invariant: a walk under way, `count` corners on; the measure is what is left.
use mathlib.Core.Path.{sym, ◌∙◌, ap}
use Prim.Native.Nat.{◌+◌, ◌<◌}
use native.Mathlib.Omega.{arith}
use lib.ListN.{length}
use mir.Syntax.{w64}
use Rattle.integer.specs.Machine.{result-is}
use Rattle.plane.specs.Point.{points}
use Rattle.plane.proofs.theory.lists.Flat.{points-length}
use Rattle.calipers.specs.Image.{image}
use Rattle.calipers.specs.Walk.{begun}
use Rattle.calipers.specs.theory.Carry.{edges_fit}
use Rattle.calipers.specs.theory.Image.{image-count}
use Rattle.sums.specs.theory.Summed.{next-few}
use Rattle.sums.proofs.Walked.{walked_start, walked_at, walked-below, walked_more, walked-over}
use Rattle.separation.specs.theory.Image.{image-begun, image-all, image-few, image-sides}
use Rattle.separation.proofs.differences.count.Goals as goal
use Rattle.separation.proofs.differences.count.Goals.{At-loop-s}
use Rattle.separation.proofs.differences.count.Invariants.{most}

pub overflow_add-all : goal.overflow_add-all
overflow_add-all c =
    omega (
      arith,
      image-sides c.side_at-s.ensures.1 c.side_at-t.ensures.1,
      image-few _ _ c.requires.0 c.requires.1,
    )

pub loop-s-init : goal.loop-s-init
loop-s-init c =
    let first = c.side_at-s.ensures in
    let second = c.side_at-t.ensures in
    walked_start 0 0 (image-begun _ _ c.requires.0 c.requires.1) (omega arith) _ _ first.0 second.0 first.1 second.1

-- not all corners are passed
below : (c : At-loop-s) → let args = c.args in
    c.loop-s.count < length (points args.a.now) + length (points args.b.now)
below c =
    let a = c.args.a.now in
    let b = c.args.b.now in
    let few = next-few a (image b) begun (most a b) (image-begun a b c.requires.0 c.requires.1) in
    omega (arith, walked-below c.loop-s.invariant, few, image-count b c.requires.1)

pub overflow_add-count : goal.overflow_add-count
overflow_add-count c =
    omega (arith, below c, points-length c.args.a.now, points-length c.args.b.now)

pub order-c-requires : goal.order-c-requires
order-c-requires c = let w = c.loop-s.invariant in edges_fit (walked_at w) w.first-side w.second-side

pub overflow_add-s : goal.overflow_add-s
overflow_add-s c =
    let first = c.next-s.ensures.1.at_in in
    let second = c.next-t.ensures.1.at_in in
    omega (arith, image-few _ _ c.requires.0 c.requires.1)

pub returns-then-s-t : goal.returns-then-s-t
returns-then-s-t c =
    (walked-over c.loop-s.invariant (result-is w64 c.order-c.type_inv c.order-c.ensures) _ _
    c.next-s.ensures.0 c.next-t.ensures.0 c.next-s.ensures.1 c.next-t.ensures.1
    (c.if-s-t.true ∙ image-sides c.side_at-s.ensures.1
    c.side_at-t.ensures.1)).counted
    ∙ ap length (image-all _ _ c.requires.0 c.requires.1 (most c.args.a.now c.args.b.now) (omega arith))

pub loop-s-smaller : goal.loop-s-smaller
loop-s-smaller c =
    omega (arith, walked-below c.loop-s.invariant)

pub loop-s-preserved : goal.loop-s-preserved
loop-s-preserved c =
    walked_more c.loop-s.invariant (result-is w64 c.order-c.type_inv c.order-c.ensures) _ _
    c.next-s.ensures.0 c.next-t.ensures.0 c.next-s.ensures.1 c.next-t.ensures.1
    (λ e. c.if-s-t.false (e ∙ sym (image-sides c.side_at-s.ensures.1
    c.side_at-t.ensures.1))) (λ e. omega (arith, below c.before.before.before.before.before.before))
