-- `side` meets its contract. The invariant: the stack, and the points that are still to be read, give what the scan of all gives; the
-- measure is how many those are.
use mathlib.Core.Path.{◌≡◌, subst}
use mathlib.Core.List.{◌∷◌}
use Prim.Native.Nat.{◌+◌, ◌-◌}
use native.Mathlib.Omega.{arith}
use Rattle.plane.specs.Point.{points}
use Rattle.polygon.specs.Point.{at}
use Rattle.sorting.specs.Buffer.{Settled, route}
use Rattle.hull.specs.theory.Stack.{scanning-start, scanning-room, scanning-one}
use Rattle.hull.specs.theory.Route.{route-more, route-length, route-small, sided}
use Rattle.hull.proofs.outline.side.Goals as goal
use Rattle.hull.proofs.outline.side.Goals.{After-route_at}

pub loop-i-init : goal.loop-i-init
loop-i-init c =
    scanning-start (record { small = λ i h. absurd (omega arith) })
    (omega (arith, c.requires.2, route-length c.args.up (points c.args.list.now) c.args.n 0))

-- the point that was read is the next
next : (c : After-route_at) →
    let args = c.args in
    route args.up (points args.list.now) args.n c.loop-i.i
    ≡ at c.route_at.result ∷ route args.up (points args.list.now) args.n (c.loop-i.i + 1)
next c =
    let args = c.args in
    rw c.route_at.ensures (route-more args.up (points args.list.now) args.n c.loop-i.i (omega arith))

pub push-kept-requires : goal.push-kept-requires
push-kept-requires c =
    let args = c.args in (
      scanning-room c.loop-i.invariant (next c),
      c.loop-i.invariant.small,
      route-small args.up c.requires.3 (omega arith) c.route_at.ensures,
    )

pub loop-i-preserved : goal.loop-i-preserved
loop-i-preserved c =
    scanning-one c.loop-i.invariant (next (goal.at.loop-i-preserved c).After-route_at) c.push-kept.ensures

pub settle-requires : goal.settle-requires
settle-requires c =
    let args = c.args in (
      omega (arith, c.loop-i.invariant.room),
      c.loop-i.invariant.small,
      route-small args.up c.requires.3 (omega arith) c.route_at-2.ensures,
    )

pub returns : goal.returns
returns c =
    let all : c.loop-i.i ≡ c.args.n - 1 = omega arith in
    sided (c.args.n - 1) (rw all at c.loop-i.invariant) (omega arith)
    (subst (λ p. Settled (points c.loop-i.buf) c.loop-i.kept p c.settle.result) c.route_at-2.ensures c.settle.ensures)
