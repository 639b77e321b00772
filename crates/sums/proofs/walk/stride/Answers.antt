-- `stride` meets its contract. The invariant: `count` corners are written, and the walk with these two sides is as far, not over, and may
-- write more; the measure is what is left to write.
use Prim.Native.Nat.{◌+◌, ◌<◌}
use native.Mathlib.Omega.{arith}
use mir.Syntax.{w64}
use Rattle.integer.specs.Machine.{result-is}
use Rattle.plane.specs.Point.{points}
use Rattle.plane.proofs.theory.lists.Flat.{points-length}
use Rattle.plane.proofs.theory.sum.Positions.{edges-at-most}
use Rattle.calipers.specs.theory.Carry.{first_next, corners-fit, edges_fit}
use Rattle.sums.proofs.Walked.{walked_at, walked-below, walked-inside}
use Rattle.sums.proofs.Progress.{progress-part, progress-room, progress-length}
use Rattle.sums.proofs.Progress.{progress-more}
use Rattle.sums.proofs.walk.stride.Given as given
use Rattle.sums.proofs.walk.stride.Goals as goal
use Rattle.sums.proofs.walk.stride.Goals.{In-loop-out}

pub inside-requires : goal.inside-requires
inside-requires g c =
    let inv = c.loop-out.invariant in
    let w = inv.walked in
    let a = c.args.a.now in
    let end = c.requires.2.second-side.end_is in (
      omega (arith, w.first-side.at_in, edges-at-most (points a), points-length a, c.well_formed.0),
      omega (arith, w.second-side.at_in, end, c.requires.1),
      omega (arith, walked-below w, inv.room, c.well_formed.1.1.1.1.1.0),
    )

-- both shapes have three edges left, and more than one corner may be written
three : (g : given.Over) (c : In-loop-out g) →
    (c.loop-out.first.at + 2 < c.loop-out.first.end) × (c.loop-out.second.at + 2 < c.loop-out.second.end)
    × (c.loop-out.count + 1 < c.args.k)
three g c = c.inside.ensures c.loop-out-test.true

pub here-requires : goal.here-requires
here-requires g c =
    let w = c.loop-out.invariant.walked in corners-fit (walked_at w) w.first-side w.second-side

pub put-requires : goal.put-requires
put-requires g c = progress-room c.loop-out.invariant

pub overflow_add-count : goal.overflow_add-count
overflow_add-count g c =
    omega (arith, progress-room c.loop-out.invariant, progress-length c.loop-out.invariant, c.well_formed.1.1.1.1.1.0)

pub order-c-requires : goal.order-c-requires
order-c-requires g c =
    let w = c.loop-out.invariant.walked in
    edges_fit (walked_at w) w.first-side w.second-side

pub ahead-first-requires : goal.ahead-first-requires
ahead-first-requires g c =
    let w = c.loop-out.invariant.walked in
    let ready = first_next (walked_at w) w.first-side w.second-side in
    (ready.0, ready.1, ready.2, (three g c.before.before.before.before.before).0)

pub ahead-second-requires : goal.ahead-second-requires
ahead-second-requires g c =
    let w = c.loop-out.invariant.walked in
    (c.requires.0, w.second-side, (three g c.before.before.before.before.before.before).1)

pub loop-out-smaller : goal.loop-out-smaller
loop-out-smaller g c =
    omega (arith, walked-below c.loop-out.invariant.walked)

pub loop-out-preserved : goal.loop-out-preserved
loop-out-preserved g c =
    let inv = c.loop-out.invariant in
    let w = inv.walked in
    let product = result-is w64 c.order-c.type_inv c.order-c.ensures in
    let first = c.ahead-first.ensures in
    let second = c.ahead-second.ensures in
    let left = three g c.before.before.before.before.before.before.before in
    progress-more inv c.here.ensures c.put.ensures
    (walked-inside w product _ _ first.0 second.0 first.1 second.1 left.0 left.1 left.2)

pub returns : goal.returns
returns g c = let inv = c.loop-out.invariant in (inv.walked, progress-part inv)
