-- `chain` meets its contract: the first point, the rows, and what stays under the last point.
use mathlib.Core.List.{[], ◌∷◌}
use Prim.Native.Nat.{◌<◌}
use native.Mathlib.Omega.{arith}
use lib.ListN.{length}
use Rattle.plane.specs.Point.{points}
use Rattle.plane.proofs.theory.lists.Flat.{points-length}
use Rattle.polygon.specs.Point.{at}
use Rattle.sorting.specs.Buffer.{Scanned}
use Rattle.sorting.specs.Order.{closed}
use Rattle.hull.specs.theory.Reading.{left-few}
use Rattle.hull.specs.theory.Stack.{first-scanned, chained}
use Rattle.hull.proofs.chains.chain.Goals as goal
use Rattle.hull.proofs.chains.chain.Goals.{After-put}

pub put-requires : goal.put-requires
put-requires c = omega (arith, c.requires.2, points-length c.args.buf.now)

-- the first point is in the buffer
began : (c : After-put) →
    Scanned c.args.buf.now 0 (at c.args.from ∷ []) c.put.new.out 1
began c =
    let some : 0 < length (points c.args.buf.now) = omega (arith, c.requires.2) in
    first-scanned some c.requires.3 c.put.ensures

pub both-kept-requires : goal.both-kept-requires
both-kept-requires c =
    let first = began c.before.before in (
      c.requires.0,
      c.requires.1,
      omega (arith, c.requires.2, first.same, points-length c.args.buf.now, points-length c.put.new.out),
      first.small,
    )

pub settle-requires : goal.settle-requires
settle-requires c =
    let args = c.args in
    let first = began c.before.before.before.before in
    let P = closed (points args.a.now) in
    let Q = closed (points args.b.now) in
    let rows = c.both-kept.ensures in (
      omega (
        arith,
        c.requires.2,
        rows.few,
        rows.same,
        first.same,
        left-few args.up P args.row.first args.row.end Q args.other.first args.other.end,
        points-length args.buf.now,
        points-length c.both-kept.new.buf,
      ),
      rows.small,
      c.requires.4,
    )

pub returns : goal.returns
returns c =
    chained (began c.before.before.before.before.before) c.both-kept.ensures c.settle.ensures
